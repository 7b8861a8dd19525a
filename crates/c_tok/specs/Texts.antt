-- Character constants and strings (ANSI C X3.159-1989, 3.1.3.4 and 3.1.4).
use Rattle.std.specs.Prelude.{ℕ, zero, suc, ◌+◌, ◌-◌, ◌==◌, List, [], ◌∷◌, length, take, drop, find, Option, Some, None, option_map, option_and_then, Result, Err, if◌then◌else◌}
use Rattle.std.specs.Option.{ok_or}
use Rattle.qv_base.specs.Word.{sign_extended_8}
use Rattle.qv_base.specs.declared.place.Place.{Place}
use Rattle.pp_tok.specs.Chars.{starts_with}
use Rattle.c_type.specs.declared.kind.IntKind.TheVariants.{Int}
use Rattle.c_tok.specs.declared.constant.Constant.{Constant}
use Rattle.c_tok.specs.declared.fault.TokFault.{TokFault}
use Rattle.c_tok.specs.declared.fault.TokFault.TheVariants.{LeftOut, BadConstant}
use Rattle.c_tok.specs.declared.text.Character.{Character}
use Rattle.c_tok.specs.Digits.{is_digit_of, digits_length, number_up_to}

-- a character is a byte, or an escape behind a backslash: how many bytes write it, and the byte that it stands for

-- the escapes of one letter
abbrev pub letters : List (ℕ × ℕ)
letters = (97, 7) ∷ (98, 8) ∷ (102, 12) ∷ (110, 10) ∷ (114, 13) ∷ (116, 9) ∷ (118, 11) ∷ (39, 39) ∷ (34, 34) ∷ (63, 63) ∷ (92, 92) ∷ []

abbrev pub letter_byte : ℕ → Option ℕ
letter_byte b = option_map (λ e. e.1) (find (λ e. e.0 == b) letters)

abbrev pub written_by : ℕ → ℕ → Character
written_by n byte = record { length = n; byte = byte }

-- a character by so many digits of a base, behind bytes of its own
abbrev pub by_digits : ℕ → ℕ → ℕ → List ℕ → Option Character
by_digits own base count bs = option_map (written_by (own + count)) (number_up_to base 255 (take count bs))

-- octal digits, at most three
abbrev pub octal_at : List ℕ → Option Character
octal_at bs = by_digits 1 8 (digits_length 8 (take 3 bs)) bs

-- hexadecimal digits, as many as stand there
abbrev pub hexadecimal_with : List ℕ → ℕ → Option Character
hexadecimal_with bs count = if count == 0 then None else by_digits 2 16 count bs

abbrev pub hexadecimal_at : List ℕ → Option Character
hexadecimal_at bs = hexadecimal_with bs (digits_length 16 bs)

-- the escape behind a backslash that stands first
abbrev pub escape_at : List ℕ → Option Character
escape_at [] = None
escape_at (b ∷ bs) = if is_digit_of 8 b then octal_at (b ∷ bs) else (if b == 120 then hexadecimal_at bs else option_map (written_by 2) (letter_byte b))

-- the character that stands first, none where it is an escape that is none
abbrev pub character_at : ℕ → List ℕ → Option Character
character_at b bs = if b == 92 then escape_at bs else Some (written_by 1 b)

-- the byte of the only character
unfoldable pub sole_byte : List ℕ → Option ℕ
sole_byte [] = None
sole_byte (b ∷ bs) = option_and_then (λ c. if c.length == length (b ∷ bs) then Some c.byte else None) (character_at b bs)

-- the bytes of a text whose first n bytes belong to the character before it
unfoldable pub bytes_behind : ℕ → List ℕ → Option (List ℕ)
bytes_behind n [] = Some []
bytes_behind (suc n) (b ∷ bs) = bytes_behind n bs
bytes_behind zero (b ∷ bs) = option_and_then (λ c. option_map (λ rest. c.byte ∷ rest) (bytes_behind (c.length - 1) bs)) (character_at b bs)

abbrev pub bytes_of : List ℕ → Option (List ℕ)
bytes_of s = bytes_behind 0 s

abbrev pub between_quotes : List ℕ → List ℕ
between_quotes s = take (length s - 2) (drop 1 s)

-- a constant or string that begins with `L` is wide
abbrev pub unless_wide : {A : Type 0} → Place → List ℕ → Option A → Result A TokFault
unless_wide place s found = if starts_with 76 s then Err (LeftOut place) else ok_or found (BadConstant place)

-- a character constant is the byte with its sign
abbrev pub of_byte : ℕ → Constant
of_byte b = record { value = sign_extended_8 b; kind = Int }

-- the constant that a character constant with this spelling is
unfoldable pub character_constant : Place → List ℕ → Result Constant TokFault
character_constant place s = unless_wide place s (option_map of_byte (sole_byte (between_quotes s)))

-- the bytes of the string with this spelling
unfoldable pub string_bytes : Place → List ℕ → Result (List ℕ) TokFault
string_bytes place s = unless_wide place s (bytes_of (between_quotes s))
