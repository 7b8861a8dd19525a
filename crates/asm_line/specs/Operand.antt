-- Names, numbers and expressions.
use Rattle.std.specs.Prelude.{ℕ, ◌-◌, ◌^◌, Bool, false, ◌&&◌, ◌||◌, not, ◌==◌, nat_le, List, [], ◌∷◌, Option, Some, None, option_map, if◌then◌else◌}
use Rattle.std.specs.List.{list_all}
use Rattle.std.specs.Option.{option_and_then}
use Rattle.qv_base.specs.Decimal.{is_digit, decimal_up_to}
use Rattle.qv_base.specs.Word.{negated, plus}
use Rattle.asm_line.specs.Row.{Expression, constant}
use Rattle.asm_line.specs.Text.{onto, starts_with}

-- a letter, a digit, an underscore or a dollar sign
abbrev pub is_name_byte : ℕ → Bool
is_name_byte b = is_digit b || (nat_le 65 b && nat_le b 90) || (nat_le 97 b && nat_le b 122) || (b == 95) || (b == 36)

-- a name doesn't begin with a digit
abbrev pub is_name : List ℕ → Bool
is_name [] = false
is_name (b ∷ bs) = not (is_digit b) && list_all is_name_byte (b ∷ bs)

-- the word, where it is a name
abbrev pub name_of : List ℕ → Option (List ℕ)
name_of word = if is_name word then Some word else None

-- a number from -2 ^ 31 to 2 ^ 32 - 1 in decimal digits, mod 2 ^ 32
abbrev pub number_of : List ℕ → Option ℕ
number_of [] = None
number_of (b ∷ bs) = if b == 45 then option_map negated (decimal_up_to (2 ^ 31) bs) else decimal_up_to (2 ^ 32 - 1) (b ∷ bs)

-- a plus or a minus
abbrev pub is_sign : ℕ → Bool
is_sign b = (b == 43) || (b == 45)

-- a word cut before each sign that stands behind another byte than a sign: x+-4-3 is x, +-4 and -3
unfoldable pub pieces : List ℕ → List (List ℕ)
pieces [] = []
pieces (b ∷ bs) = if not (is_sign b) && starts_with is_sign bs then (b ∷ []) ∷ pieces bs else onto b (pieces bs)

-- what a plus or a minus and a number add
abbrev pub addend_of : List ℕ → Option ℕ
addend_of [] = None
addend_of (b ∷ bs) = if b == 43 then number_of bs else (if b == 45 then option_map negated (number_of bs) else None)

-- a number with what these pieces add
abbrev pub total : ℕ → List (List ℕ) → Option ℕ
total n [] = Some n
total n (piece ∷ more) = option_and_then (λ added. total (plus n added) more) (addend_of piece)

-- a name or a number, with what the pieces behind it add
abbrev pub expression_in : List (List ℕ) → Option Expression
expression_in [] = None
expression_in (first ∷ more) = if is_name first then option_map (λ n. record { name = Some first; add = n }) (total 0 more) else option_map constant (option_and_then (λ n. total n more) (number_of first))

-- a name or a number, and any count of signed numbers behind it
abbrev pub expression : List ℕ → Option Expression
expression word = expression_in (pieces word)
