use Rattle.std.proofs.Common.{arith}
use Rattle.std.proofs.lemmas.List.FromFn.{fill_by_all}
use Rattle.trap_sig.specs.Gather.{argument}
use Rattle.trap_sig.proofs.arguments.load_arguments.Goals as goal

pub returns : goal.returns
returns c = fill_by_all (argument c.args.block.now c.args.at) c.loop-i.words _ 0 c.loop-i.auto.words (λ k lt. c.loop-i.invariant k (omega arith))
