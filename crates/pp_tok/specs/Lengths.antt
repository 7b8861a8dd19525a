-- How many bytes belong to names, numbers, constants, punctuators, comments and names of headers.
use Rattle.std.specs.Prelude.{codes, ℕ, ◌+◌, ◌==◌, nat_le, Bool, ◌&&◌, ◌||◌, not, List, [], ◌∷◌, take, Option, Some, None, option_map, if◌then◌else◌}
use Rattle.std.specs.List.{list_any}
use Rattle.std.specs.Str.{bytes_eq}
use Rattle.qv_base.specs.Decimal.{is_digit}
use Rattle.pp_tok.specs.Chars.{starts_with}

-- a letter or an underscore
abbrev pub is_letter : ℕ → Bool
is_letter b = (nat_le 65 b && nat_le b 90) || (nat_le 97 b && nat_le b 122) || (b == 95)

abbrev pub is_name_byte : ℕ → Bool
is_name_byte b = is_letter b || is_digit b

-- a space, a tab, a carriage return, a vertical tab or a form feed
abbrev pub is_blank : ℕ → Bool
is_blank b = (b == 32) || (b == 9) || (b == 13) || (b == 11) || (b == 12)

abbrev pub is_quote : ℕ → Bool
is_quote b = (b == 34) || (b == 39)

-- the letters, underscores and digits that stand first
unfoldable pub name_length : List ℕ → ℕ
name_length [] = 0
name_length (b ∷ bs) = if is_name_byte b then 1 + name_length bs else 0

-- a byte of a number behind another: a letter, an underscore, a digit or a dot, or a sign behind e or E
abbrev pub goes_on : ℕ → ℕ → Bool
goes_on before b = is_name_byte b || (b == 46) || (((b == 43) || (b == 45)) && ((before == 101) || (before == 69)))

-- the bytes of a number behind this one of it
unfoldable pub number_length : ℕ → List ℕ → ℕ
number_length before [] = 0
number_length before (b ∷ bs) = if goes_on before b then 1 + number_length b bs else 0

-- the bytes up to the closing quote of a constant on its line, and it; a byte behind a backslash closes none
unfoldable pub constant_length : ℕ → Bool → List ℕ → Option ℕ
constant_length quote escaped [] = None
constant_length quote escaped (b ∷ bs) =
    if b == 10 then None else (
    if not escaped && b == quote then Some 1 else option_map (λ n. 1 + n) (constant_length quote (not escaped && b == 92) bs))

-- the bytes up to this one on its line, and it
unfoldable pub length_through : ℕ → List ℕ → Option ℕ
length_through end [] = None
length_through end (b ∷ bs) = if b == 10 then None else (if b == end then Some 1 else option_map (λ n. 1 + n) (length_through end bs))

-- the name of a header up to this byte, and it; an empty one is none
abbrev pub header_length : ℕ → List ℕ → Option ℕ
header_length end bs = if starts_with end bs then None else length_through end bs

-- the bytes up to the end of a comment, whose `*/` they include
unfoldable pub comment_length : List ℕ → Option ℕ
comment_length [] = None
comment_length (b ∷ bs) = if b == 42 && starts_with 47 bs then Some 2 else option_map (λ n. 1 + n) (comment_length bs)

-- the punctuators of one, two and three bytes

abbrev pub ones : List (List ℕ)
ones =
    codes "[" ∷ codes "]" ∷ codes "(" ∷ codes ")" ∷ codes "{" ∷ codes "}" ∷ codes "." ∷ codes "&" ∷ codes "*" ∷ codes "+" ∷ codes "-" ∷ codes "~" ∷ codes "!" ∷
    codes "/" ∷ codes "%" ∷ codes "<" ∷ codes ">" ∷ codes "^" ∷ codes "|" ∷ codes "?" ∷ codes ":" ∷ codes ";" ∷ codes "=" ∷ codes "," ∷ codes "#" ∷ []

abbrev pub twos : List (List ℕ)
twos =
    codes "->" ∷ codes "++" ∷ codes "--" ∷ codes "<<" ∷ codes ">>" ∷ codes "<=" ∷ codes ">=" ∷ codes "==" ∷ codes "!=" ∷ codes "&&" ∷ codes "||" ∷
    codes "*=" ∷ codes "/=" ∷ codes "%=" ∷ codes "+=" ∷ codes "-=" ∷ codes "&=" ∷ codes "^=" ∷ codes "|=" ∷ codes "##" ∷ []

abbrev pub threes : List (List ℕ)
threes = codes "..." ∷ codes "<<=" ∷ codes ">>=" ∷ []

abbrev pub is_among : List (List ℕ) → List ℕ → Bool
is_among table bytes = list_any (λ row. bytes_eq row bytes) table

-- the bytes of the longest punctuator that stands first; none where none does
unfoldable pub punctuator_length : List ℕ → ℕ
punctuator_length text = if is_among threes (take 3 text) then 3 else (if is_among twos (take 2 text) then 2 else (if is_among ones (take 1 text) then 1 else 0))
