use Rattle.std.proofs.Common.{◌≡◌, take}
use Rattle.c_names.specs.Kept.{shown}
use Rattle.c_names.proofs.names.copies.Given as goal

abbrev pub invariant-loop-entry : goal.invariant-loop-entry
invariant-loop-entry l = l.declared ≡ shown (take l.entry-index l.entries)
