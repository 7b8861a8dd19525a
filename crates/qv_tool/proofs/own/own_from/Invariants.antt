use Rattle.std.proofs.Common.{◌≡◌, ◌<◌, ℕ, false, [], map, string_bytes, get_or}
use Rattle.std.specs.Prelude.{codes}
use Rattle.std.specs.Str.{bytes_eq}
use Rattle.qv_tool.proofs.own.own_from.Given as goal

abbrev pub invariant-loop-place : goal.invariant-loop-place
invariant-loop-place l = (k : ℕ) → k < l.place → bytes_eq (get_or (map string_bytes l.words) k []) (codes "--") ≡ false
