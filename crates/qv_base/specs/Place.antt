-- Numbers of files and lines.
use Rattle.std.specs.Prelude.{ℕ, ◌-◌, ◌^◌, min}

-- a number that would pass 2 ^ 32 - 1 stays there
abbrev pub capped : ℕ → ℕ
capped number = min number (2 ^ 32 - 1)
