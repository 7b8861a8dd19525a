use Rattle.std.proofs.Common.{◌≡◌, ◌++◌, take, drop}
use Rattle.std.specs.Prelude.{map}
use Rattle.asm_link.specs.Held.{note_settled}
use Rattle.asm_link.proofs.naming.settle_from.Given as goal

abbrev pub invariant-loop-i : goal.invariant-loop-i
invariant-loop-i l = l.notes ≡ map (note_settled l.address) (take l.i l.fn.notes) ++ drop l.i l.fn.notes
