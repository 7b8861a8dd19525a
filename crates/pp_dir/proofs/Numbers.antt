-- A number in the digits of a base only grows.
use Rattle.std.proofs.Common.{◌≡◌, ℕ, ◌+◌, ◌*◌, ◌^◌, ◌<◌, ◌≤◌, Bool, true, false, List, [], ◌∷◌, Option, None, refl, sym, ap, ◌∙◌, length, drop, get_or, arith}
use Rattle.std.specs.Prelude.{if◌then◌else◌, nat_lt, option_and_then}
use Rattle.std.proofs.lemmas.Bool.Decides.{nat_tests}
use Rattle.std.proofs.lemmas.List.{drop_more}
use Rattle.std.proofs.Math.Nat.{le-mul_of_pos_right}
use Rattle.pp_dir.specs.Constants.{held, digit_value, number_from, number_in}

held_none : (a : ℕ) → 2 ^ 32 ≤ a → held a ≡ None
held_none a large = grind (arith, nat_tests)

none_if : (b : Bool) (x : Option ℕ) → option_and_then held x ≡ None → option_and_then held (if b then x else None) ≡ None
none_if true x e = e
none_if false x e = refl

pos_right : (a base : ℕ) → 0 < base → a ≤ a * base
pos_right a base positive = le-mul_of_pos_right {m = base} a positive

pub too_large : (base a : ℕ) (ds : List ℕ) → 0 < base → 2 ^ 32 ≤ a → option_and_then held (number_from base a ds) ≡ None
too_large base a [] positive large = held_none a large
too_large base a (d ∷ ds) positive large =
    none_if (nat_lt (digit_value d) base) (number_from base (a * base + digit_value d) ds) (too_large base (a * base + digit_value d) ds positive (omega (arith, pos_right a base positive)))

if_digit : (d base : ℕ) (x : Option ℕ) → d < base → (if nat_lt d base then x else None) ≡ x
if_digit d base x lt = grind (arith, nat_tests)

-- the digits so far have more than 32 bits already
pub too_large_at : (base : ℕ) (t : List ℕ) (i a d : ℕ) → 0 < base → i < length t → d ≡ digit_value (get_or t i 0) → d < base → number_from base 0 t ≡ number_from base a (drop i t) → 2 ^ 32 ≤ a * base + d → None ≡ number_in base t
too_large_at base [] i a d positive lt is small e large = refl
too_large_at base (b ∷ bs) i a d positive lt is small e large =
    let t : List ℕ = b ∷ bs in
    let digit : ℕ = digit_value (get_or t i 0) in
    let next : number_from base a (drop i t) ≡ number_from base (a * base + digit) (drop (i + 1) t) =
    ap (number_from base a) (drop_more t i 0 lt) ∙ if_digit digit base (number_from base (a * base + digit) (drop (i + 1) t)) (omega (arith, is, small)) in
    let whole : number_from base 0 t ≡ number_from base (a * base + d) (drop (i + 1) t) = e ∙ next ∙ ap (λ n. number_from base (a * base + n) (drop (i + 1) t)) (sym is) in
    sym (ap (option_and_then held) whole ∙ too_large base (a * base + d) (drop (i + 1) t) positive large)
