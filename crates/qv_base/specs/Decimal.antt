-- Numbers written in decimal digits.
use Rattle.std.specs.Prelude.{ℕ, ◌+◌, ◌-◌, ◌*◌, Bool, ◌&&◌, nat_le, nat_lt, List, [], ◌∷◌, length, Option, Some, None, if◌then◌else◌}
use Rattle.std.specs.List.{list_all}

-- the codes of 0 to 9
abbrev pub is_digit : ℕ → Bool
is_digit b = nat_le 48 b && nat_le b 57

-- the value of digits behind others whose value is a
abbrev pub decimal_from : ℕ → List ℕ → ℕ
decimal_from a [] = a
decimal_from a (d ∷ ds) = decimal_from (a * 10 + (d - 48)) ds

-- the number that one digit or more write, where it is at most max
abbrev pub decimal_up_to : ℕ → List ℕ → Option ℕ
decimal_up_to max text = if nat_lt 0 (length text) && list_all is_digit text && nat_le (decimal_from 0 text) max then Some (decimal_from 0 text) else None
