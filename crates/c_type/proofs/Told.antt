-- A size that is told where no word holds it.
use Rattle.std.proofs.Common.{◌≡◌, ℕ, zero, suc, ◌*◌, ◌-◌, ◌^◌, ◌≤◌, refl, sym, ap, ◌∙◌, arith}
use Rattle.std.proofs.lemmas.Bool.{cases_lt}
use Rattle.std.specs.Prelude.{min, Option, Some, None, option_map}
use mathlib.Core.Logic.{inl, inr}
use Rattle.c_type.specs.declared.layout.Layout.{Layout}
use Rattle.c_type.specs.Layout.{layout, repeated, told}

min-below : (a m : ℕ) → a ≤ m → min a m ≡ a
min-below a m le = omega (arith, le)

min-above : (a m : ℕ) → m ≤ a → min a m ≡ m
min-above a m le = omega (arith, le)

times-above : (n m s : ℕ) → m ≤ s → m ≤ suc n * s
times-above n m s le = omega (arith, le)

capped-times : (m n s : ℕ) → min (n * min s m) m ≡ min (n * s) m
capped-times m n s = elim (cases_lt s m) [
  | inl below ↦ ap (λ x. min (n * x) m) (min-below s m (omega (arith, below)))
  | inr above ↦ ap (λ x. min (n * x) m) (min-above s m above) ∙ past n s above
]
  where
    past : (n s : ℕ) → m ≤ s → min (n * m) m ≡ min (n * s) m
    past zero s above = omega arith
    past (suc n) s above = min-above (suc n * m) m (times-above n m m (omega arith)) ∙ sym (min-above (suc n * s) m (times-above n m s above))

-- of elements whose size is told
pub told_twice : (n : Option ℕ) (l : Option Layout) → option_map told (repeated n (option_map told l)) ≡ option_map told (repeated n l)
told_twice None l = refl
told_twice (Some n) None = refl
told_twice (Some n) (Some l) = ap (λ s. Some (layout s l.align)) (capped-times (2 ^ 32 - 1) n l.size)
