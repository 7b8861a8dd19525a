-- The size of a block.
use Rattle.std.proofs.Common.{◌≡◌, ℕ, zero, suc, ◌+◌, ◌-◌, ◌*◌, ◌^◌, ◌<◌, ◌≤◌, ⊎_elim, refl, sym, ap, ◌∙◌, subst, arith}
use Rattle.std.proofs.lemmas.Bool.{cases_lt}
use Rattle.std.proofs.lemmas.Bool.Decides.{nat_tests}
use Rattle.std.proofs.Math.Nat.{pow-succ'}
use Rattle.masked_mem.specs.Memory.{IsSize}
use Rattle.masked_mem.proofs.Sizes.{power-is_size}
use Rattle.vm_core.specs.Memory.{block_size, doubled}

pub doubled_more : (k size need : ℕ) → size < need → doubled (suc k) size need ≡ doubled k (2 * size) need
unfolding doubled
doubled_more k size need lt = grind (arith, nat_tests)

pub doubled_here : (k size need : ℕ) → need ≤ size → doubled k size need ≡ size
unfolding doubled
doubled_here zero size need le = refl
doubled_here (suc k) size need le = grind (arith, nat_tests)

pub block_size_is : (need : ℕ) → block_size need ≡ doubled 20 64 need
unfolding block_size
block_size_is need = refl

pub doubled_on : (k size need : ℕ) → k < 20 → size < need → doubled (20 - k) size need ≡ doubled (20 - (k + 1)) (size * 2) need
doubled_on k size need lt less =
    let a : 20 - k ≡ suc (20 - (k + 1)) = omega arith in
    let b : 2 * size ≡ size * 2 = omega arith in
    ap (λ m. doubled m size need) a ∙ doubled_more (20 - (k + 1)) size need less ∙ ap (λ m. doubled (20 - (k + 1)) m need) b

pub power_on : (k size : ℕ) → k < 20 → size * 2 ^ (20 - k) ≡ 2 ^ 26 → size * 2 * 2 ^ (20 - (k + 1)) ≡ 2 ^ 26
power_on k size lt e =
    let a : 20 - k ≡ suc (20 - (k + 1)) = omega arith in
    let b : 2 ^ (20 - k) ≡ 2 * 2 ^ (20 - (k + 1)) = ap (λ m. 2 ^ m) a ∙ pow-succ' 2 (20 - (k + 1)) in
    let d : size * 2 * 2 ^ (20 - (k + 1)) ≡ size * (2 * 2 ^ (20 - (k + 1))) = grind arith in
    d ∙ ap (λ m. size * m) (sym b) ∙ e

pub size_at_end : (k size need : ℕ) → 20 ≤ k → size * 2 ^ (20 - k) ≡ 2 ^ 26 → need ≤ 2 ^ 26 → need ≤ size
size_at_end k size need le e small =
    let a : 20 - k ≡ 0 = omega arith in
    let b : size * 2 ^ (20 - k) ≡ size * 1 = ap (λ m. size * 2 ^ m) a in
    omega (arith, b, e)

pub power_two : (size k : ℕ) → size ≡ 2 ^ k → size * 2 ≡ 2 ^ (k + 1)
power_two size k e =
    let a : k + 1 ≡ suc k = omega arith in
    let b : 2 ^ (k + 1) ≡ 2 * 2 ^ k = ap (λ m. 2 ^ m) a ∙ pow-succ' 2 k in
    omega (arith, b, e)

-- a size that was found holds what it is for
pub record Holds (need size : ℕ) : Type 0 where
  pub is_size : IsSize size
  pub enough : need ≤ size

doubled_holds : (k m need : ℕ) → 6 ≤ m → m + k ≡ 26 → need ≤ 2 ^ 26 → Holds need (doubled k (2 ^ m) need)
doubled_holds zero m need low sum small =
    let a : m ≡ 26 = omega arith in
    let size : need ≤ 2 ^ m = let P : ℕ → Type 0 = λ k. need ≤ 2 ^ k in subst P (sym a) small in
    let P : ℕ → Type 0 = λ n. Holds need n in
    subst P (sym (doubled_here zero (2 ^ m) need size)) (record { is_size = power-is_size m low (omega arith); enough = size })
doubled_holds (suc k) m need low sum small =
    let P : ℕ → Type 0 = λ n. Holds need n in
    ⊎_elim
    (λ (lt : 2 ^ m < need). subst P (sym (doubled_more k (2 ^ m) need lt ∙ ap (λ n. doubled k n need) (sym (pow-succ' 2 m)))) (doubled_holds k (suc m) need (omega arith) (omega arith) small))
    (λ (le : need ≤ 2 ^ m). subst P (sym (doubled_here (suc k) (2 ^ m) need le)) (record { is_size = power-is_size m low (omega arith); enough = le }))
    (cases_lt (2 ^ m) need)

-- the size of a block is one, and holds what it is for
pub block_size-holds : (need : ℕ) → need ≤ 2 ^ 26 → Holds need (block_size need)
block_size-holds need small = let P : ℕ → Type 0 = λ n. Holds need n in subst P (sym (block_size_is need)) (doubled_holds 20 6 need (omega arith) refl small)
