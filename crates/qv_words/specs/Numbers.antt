-- Numbers among the words.
use Rattle.std.specs.Prelude.{ℕ, ◌-◌, ◌^◌, ◌==◌, nat_lt, nat_le, List, [], ◌∷◌, length, Option, Some, None, option_map, option_and_then, if◌then◌else◌}
use Rattle.qv_base.specs.Decimal.{decimal_up_to}
use Rattle.qv_base.specs.Word.{negated}

-- a number of at least one digit and at most so many, that is at most max
abbrev pub digits_up_to : ℕ → ℕ → List ℕ → Option ℕ
digits_up_to digits max text = if nat_le (length text) digits then decimal_up_to max text else None

-- a count of steps: 1 to 20 digits, at most 2 ^ 64 - 1
abbrev pub steps_of : List ℕ → Option ℕ
steps_of text = digits_up_to 20 (2 ^ 64 - 1) text

-- a word: an optional minus and 1 to 10 digits, a number from -2,147,483,648 to 4,294,967,295, taken mod 2 ^ 32
abbrev pub word_of : List ℕ → Option ℕ
word_of [] = None
word_of (b ∷ bs) = if b == 45 then option_map negated (digits_up_to 10 (2 ^ 31) bs) else digits_up_to 10 (2 ^ 32 - 1) (b ∷ bs)

-- a seed: 1 to 10 digits, at most 2 ^ 32 - 1
abbrev pub seed_of : List ℕ → Option ℕ
seed_of text = digits_up_to 10 (2 ^ 32 - 1) text

abbrev pub at_least_one : ℕ → Option ℕ
at_least_one n = if nat_lt 0 n then Some n else None

-- a size: 1 to 5 digits, from 1 to 10,000
abbrev pub size_of : List ℕ → Option ℕ
size_of text = option_and_then at_least_one (digits_up_to 5 10000 text)
