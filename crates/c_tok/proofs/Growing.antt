-- A number in the digits of a base only grows.
use Rattle.std.proofs.Common.{◌≡◌, ℕ, ◌+◌, ◌*◌, ◌<◌, ◌≤◌, List, [], ◌∷◌, Some, None, ap, ◌∙◌, length, drop, get_or, arith}
use Rattle.std.specs.Prelude.{if◌then◌else◌, nat_le}
use Rattle.std.proofs.lemmas.Bool.Decides.{nat_tests}
use Rattle.std.proofs.lemmas.List.{drop_more}
use Rattle.std.proofs.Math.Nat.{le-mul_of_pos_right}
use Rattle.c_tok.specs.Digits.{digit_value, number_from, number_of, number_up_to}

pos_right : (a base : ℕ) → 0 < base → a ≤ a * base
pos_right a base positive = le-mul_of_pos_right {m = base} a positive

grows : (base a : ℕ) (ds : List ℕ) → 0 < base → a ≤ number_from base a ds
grows base a [] positive = omega arith
grows base a (d ∷ ds) positive = omega (arith, pos_right a base positive, grows base (a * base + digit_value d) ds positive)

above : (n max : ℕ) → max < n → None ≡ (if nat_le n max then Some n else None)
above n max large = grind (arith, nat_tests)

-- the digits so far are above max already
pub above_at : (base max : ℕ) (t : List ℕ) (i a d : ℕ) → 0 < base → i < length t → d ≡ digit_value (get_or t i 0) → number_of base t ≡ number_from base a (drop i t) → max < a * base + d → None ≡ number_up_to base max t
above_at base max t i a d positive lt is e large =
    let digit : ℕ = digit_value (get_or t i 0) in
    let whole : number_of base t ≡ number_from base (a * base + digit) (drop (i + 1) t) = e ∙ ap (number_from base a) (drop_more t i 0 lt) in
    above (number_of base t) max (omega (arith, whole, is, grows base (a * base + digit) (drop (i + 1) t) positive))
