use Rattle.std.proofs.Common.{sym, ◌∙◌}
use Rattle.trap_sig.proofs.Ints.{int_comes, other_comes, all_taken}
use Rattle.trap_sig.proofs.words.int_words.Goals as goal
use Rattle.trap_sig.proofs.words.int_words.Goals.{then-is_int, else-is_int}

pub loop-i-preserved : goal.loop-i-preserved
loop-i-preserved c = elim c.if-is_int.branch [
  | then-is_int w ↦ rw (w.ints-is, w.count-is) (int_comes _ _ _ _ _ c.requires.few c.loop-i-test.true c.requires.same (sym c.is_int.ensures ∙ w.if-is_int.true) c.loop-i.invariant)
  | else-is_int w ↦ rw (w.ints-is, w.count-is) (other_comes _ _ _ _ _ c.loop-i-test.true c.requires.same (sym c.is_int.ensures ∙ w.if-is_int.false) c.loop-i.invariant)
]

pub returns-clause-taken : goal.returns-clause-taken
returns-clause-taken c = all_taken _ _ _ _ _ c.loop-i-test.false c.loop-i.invariant
