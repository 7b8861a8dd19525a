-- Sizes rounded up.
use Rattle.std.specs.Prelude.{ℕ, ◌+◌, ◌-◌, ◌*◌, ◌/◌, ◌%◌, ◌==◌, if◌then◌else◌}

-- up to a multiple of 4
abbrev pub rounded : ℕ → ℕ
rounded size = (size + 3) / 4 * 4

-- the zero bytes up to a multiple of n
abbrev pub zeros_to : ℕ → ℕ → ℕ
zeros_to n size = if n == 0 then 0 else (n - size % n) % n
