use Rattle.std.proofs.Common.{◌≡◌, drop}
use Rattle.std.specs.FinMap as map
use Rattle.qv_outside.specs.Entries.{entries_of}
use Rattle.qv_outside.specs.FileMap.{name_order}
use Rattle.qv_outside.proofs.entries.Entries.find.Given as goal

abbrev pub invariant-loop-key : goal.invariant-loop-key
invariant-loop-key l = map.find name_order l.name (entries_of l.key-items) ≡ map.find name_order l.name (entries_of (drop l.key-index l.key-items))
