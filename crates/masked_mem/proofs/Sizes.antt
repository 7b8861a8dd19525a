-- Sizes of blocks.
use Rattle.std.proofs.Common.{◌≡◌, ℕ, suc, ◌-◌, ◌*◌, ◌%◌, ◌^◌, ◌≤◌, refl, ap, subst, ◌∙◌, arith}
use Rattle.std.proofs.Math.Nat.{pow-succ'}
use Rattle.std.proofs.Math.Pow.{pow_mono}
use Rattle.masked_mem.specs.Memory.{IsSize}

-- a power of two from 64 to 2 ^ 26 is a size
pub power-is_size : (m : ℕ) → 6 ≤ m → m ≤ 26 → IsSize (2 ^ m)
power-is_size m low high =
    let least : 2 ^ 6 ≤ 2 ^ m = pow_mono low in
    let most : 2 ^ m ≤ 2 ^ 26 = pow_mono high in
    let a : m ≡ suc (suc (m - 2)) = omega arith in
    let b : 2 ^ m ≡ 2 * (2 * 2 ^ (m - 2)) = ap (λ k. 2 ^ k) a ∙ pow-succ' 2 (suc (m - 2)) ∙ ap (λ k. 2 * k) (pow-succ' 2 (m - 2)) in
    record { low = least; high = most; words = omega (arith, b); power = (m, refl) }

-- also as a shift writes it
pub shift-is_size : (m : ℕ) → 6 ≤ m → m ≤ 26 → IsSize (1 * 2 ^ m % 2 ^ 64)
shift-is_size m low high =
    let most : 2 ^ m ≤ 2 ^ 26 = pow_mono high in
    let same : 2 ^ m ≡ 1 * 2 ^ m % 2 ^ 64 = omega (arith, most) in
    subst IsSize same (power-is_size m low high)
