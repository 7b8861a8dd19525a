-- Which calls fail by a list of their numbers.
use Rattle.std.specs.Prelude.{ℕ, ◌<◌, ◌-◌, ◌^◌, List, Contains}
use Rattle.qv_outside.specs.declared.schedule.Schedule.{Schedule}

-- the numbers, from 0, of the calls that fail
abbrev pub fails_in : Schedule → List ℕ
fails_in s = s.fails.items

-- the calls made so far
abbrev pub calls_in : Schedule → ℕ
calls_in s = s.calls

-- the next call is one that fails. From the last number that the count can reach, none is
abbrev pub FailsNext : Schedule → Type 0
FailsNext s = (calls_in s < 2 ^ 64 - 1) × Contains (fails_in s) (calls_in s)
