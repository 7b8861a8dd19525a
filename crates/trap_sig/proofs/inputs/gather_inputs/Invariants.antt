use Rattle.trap_sig.specs.Inputs.{texts_of}
use Rattle.trap_sig.proofs.Lending.{Lending}
use Rattle.trap_sig.proofs.inputs.gather_inputs.Given as goal

abbrev pub invariant-loop-i : goal.invariant-loop-i
invariant-loop-i l = Lending l.block l.kinds l.words (texts_of l.inputs) l.i
