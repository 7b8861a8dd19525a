-- A number in digits only grows.
use Rattle.std.proofs.Common.{◌≡◌, ℕ, ◌+◌, ◌-◌, ◌*◌, ◌<◌, ◌≤◌, Bool, true, false, ◌&&◌, List, [], ◌∷◌, length, drop, get_or, Some, None, refl, sym, ap, ◌∙◌, arith}
use Rattle.std.specs.Prelude.{if◌then◌else◌, nat_le, nat_lt}
use Rattle.std.specs.List.{list_all}
use Rattle.std.proofs.lemmas.Bool.Decides.{nat_tests}
use Rattle.std.proofs.lemmas.List.{drop_more}
use Rattle.qv_base.specs.Decimal.{is_digit, decimal_from, decimal_up_to}

decimal_grows : (a : ℕ) (ds : List ℕ) → a ≤ decimal_from a ds
decimal_grows a [] = omega arith
decimal_grows a (d ∷ ds) = omega (arith, decimal_grows (a * 10 + (d - 48)) ds)

no_third : {X : Type 0} (a b : Bool) (x : X) → (if a && b && false then Some x else None) ≡ None
no_third true true x = refl
no_third true false x = refl
no_third false b x = refl

above : (max n : ℕ) → max < n → nat_le n max ≡ false
above max n lt = grind (arith, nat_tests)

too_large : (max : ℕ) (t : List ℕ) → max < decimal_from 0 t → None ≡ decimal_up_to max t
too_large max t lt = sym (ap (λ k. if nat_lt 0 (length t) && list_all is_digit t && k then Some (decimal_from 0 t) else None) (above max (decimal_from 0 t) lt) ∙ no_third (nat_lt 0 (length t)) (list_all is_digit t) (decimal_from 0 t))

-- the digits so far are above max already
pub too_large_at : (max : ℕ) (t : List ℕ) (i a d : ℕ) → i < length t → d ≡ get_or t i 0 - 48 → decimal_from 0 t ≡ decimal_from a (drop i t) → max < a * 10 + d → None ≡ decimal_up_to max t
too_large_at max t i a d lt is e le =
    let more : decimal_from 0 t ≡ decimal_from (a * 10 + (get_or t i 0 - 48)) (drop (i + 1) t) = e ∙ ap (decimal_from a) (drop_more t i 0 lt) in
    too_large max t (omega (arith, more, decimal_grows (a * 10 + (get_or t i 0 - 48)) (drop (i + 1) t), le, is))
