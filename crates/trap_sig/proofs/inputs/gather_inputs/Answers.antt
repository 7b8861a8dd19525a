use Rattle.trap_sig.proofs.Args.{placed_at}
use Rattle.trap_sig.proofs.Lending.{has_room, lends, left_at, none_left, all_lent}
use Rattle.trap_sig.proofs.inputs.gather_inputs.Goals as goal

pub reach-requires : goal.reach-requires
reach-requires c = placed_at _ _ _ c.requires.lengths c.requires.same c.loop-i-test.true

pub with-inputs-requires : goal.with-inputs-requires
with-inputs-requires c = has_room _ _ _ c.requires.same _ _ c.loop-i-test.true c.requires.two c.loop-i.invariant

pub returns-in-None-clause-err : goal.returns-in-None-clause-err
returns-in-None-clause-err c = left_at _ _ _ c.requires.same _ _ c.loop-i-test.true c.in-None.ensures c.loop-i.invariant

pub loop-i-preserved : goal.loop-i-preserved
loop-i-preserved c = lends _ _ _ c.requires.same _ _ _ _ c.loop-i-test.true c.in-Some.ensures c.with-inputs.ensures c.loop-i.invariant

pub returns-clause-within : goal.returns-clause-within
returns-clause-within c = none_left _ _ _ c.requires.same _ _ c.loop-i-test.false c.loop-i.invariant

pub returns-clause-texts : goal.returns-clause-texts
returns-clause-texts c = all_lent _ _ _ c.requires.same _ _ c.loop-i-test.false c.loop-i.invariant
