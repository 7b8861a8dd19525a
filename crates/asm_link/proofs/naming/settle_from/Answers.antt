use Rattle.std.proofs.Common.{arith}
use Rattle.std.proofs.lemmas.List.{get_or_default}
use Rattle.std.proofs.lemmas.List.Edits.{map_over_more}
use Rattle.asm_link.specs.Held.{note_settled}
use Rattle.asm_link.proofs.Noting.{settled_front}
use Rattle.asm_link.proofs.naming.settle_from.Goals as goal

pub loop-i-init : goal.loop-i-init
loop-i-init c = settled_front c.args.address c.args.first c.args.notes.now c.requires.settled

pub loop-i-preserved : goal.loop-i-preserved
loop-i-preserved c =
    rw c.settled.ensures
    (map_over_more (note_settled c.args.address) c.args.notes.now c.loop-i.notes c.loop-i.i _ (omega arith) c.loop-i.invariant (get_or_default c.loop-i.notes c.loop-i.i _ _ (omega (arith, c.loop-i.auto.notes))))
