use Rattle.std.proofs.Common.{length, subst, ap}
use Rattle.qv_outside.specs.declared.signature.Kind.{Kind}
use Rattle.trap_sig.specs.Gather.{IsPlaced, room_asked, length_asked}
use Rattle.trap_sig.proofs.Args.{placed_at, output_here, output_later, output_nowhere}
use Rattle.trap_sig.proofs.words.room.Goals as goal

pub bounds-words-place : goal.bounds-words-place
bounds-words-place c =
    let P : Kind → Type 0 = λ k. IsPlaced (length c.args.words.now) k in
    subst P c.in-OutBytes.is (placed_at _ _ _ c.requires.lengths c.requires.same c.loop-i-test.true)

pub returns-in-OutBytes-clause-at : goal.returns-in-OutBytes-clause-at
returns-in-OutBytes-clause-at c = ap room_asked (output_here _ _ _ _ c.loop-i-test.true c.requires.same c.in-OutBytes.is c.loop-i.invariant)

pub returns-in-OutBytes-clause-len : goal.returns-in-OutBytes-clause-len
returns-in-OutBytes-clause-len c = ap (length_asked c.args.words.now) (output_here _ _ _ _ c.loop-i-test.true c.requires.same c.in-OutBytes.is c.loop-i.invariant)

pub loop-i-preserved : goal.loop-i-preserved
loop-i-preserved c = output_later _ _ _ c.loop-i-test.true c.requires.same c.in_default.not-OutBytes c.loop-i.invariant

pub returns-clause-at : goal.returns-clause-at
returns-clause-at c = ap room_asked (output_nowhere _ _ _ c.loop-i-test.false c.loop-i.invariant)

pub returns-clause-len : goal.returns-clause-len
returns-clause-len c = ap (length_asked c.args.words.now) (output_nowhere _ _ _ c.loop-i-test.false c.loop-i.invariant)
