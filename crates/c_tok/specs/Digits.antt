-- Numbers by their digits.
use Rattle.std.specs.Prelude.{ℕ, ◌+◌, ◌-◌, ◌*◌, Bool, ◌&&◌, nat_le, nat_lt, List, [], ◌∷◌, Option, Some, None, if◌then◌else◌}
use Rattle.qv_base.specs.Decimal.{is_digit}

-- a digit's value, letters counting from 10; 16 of a byte that is no digit of a base up to 16
abbrev pub digit_value : ℕ → ℕ
digit_value b = if is_digit b then b - 48 else (if nat_le 97 b && nat_le b 102 then b - 87 else (if nat_le 65 b && nat_le b 70 then b - 55 else 16))

abbrev pub is_digit_of : ℕ → ℕ → Bool
is_digit_of base b = nat_lt (digit_value b) base

-- the digits of this base that stand first
unfoldable pub digits_length : ℕ → List ℕ → ℕ
digits_length base [] = 0
digits_length base (b ∷ bs) = if is_digit_of base b then 1 + digits_length base bs else 0

-- the number that digits of a base write, behind others whose number is a
abbrev pub number_from : ℕ → ℕ → List ℕ → ℕ
number_from base a [] = a
number_from base a (d ∷ ds) = number_from base (a * base + digit_value d) ds

abbrev pub number_of : ℕ → List ℕ → ℕ
number_of base ds = number_from base 0 ds

-- the same, where it is at most max
abbrev pub number_up_to : ℕ → ℕ → List ℕ → Option ℕ
number_up_to base max ds = if nat_le (number_of base ds) max then Some (number_of base ds) else None
