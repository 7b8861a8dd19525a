use Rattle.trap_sig.proofs.Ints.{Gathering}
use Rattle.trap_sig.proofs.words.int_words.Given as goal

abbrev pub invariant-loop-i : goal.invariant-loop-i
invariant-loop-i l = Gathering l.kinds l.words l.ints l.count l.i
