use Rattle.std.proofs.Common.{◌≡◌, drop}
use Rattle.std.specs.Ordering.{nat_cmp}
use Rattle.std.specs.FinMap as map
use Rattle.qv_outside.proofs.sigs.find.Given as goal

abbrev pub invariant-loop-key : goal.invariant-loop-key
invariant-loop-key l = map.find nat_cmp l.number l.sigs ≡ map.find nat_cmp l.number (drop l.key-index l.sigs)
