use Rattle.std.proofs.Common.{◌≡◌, ℕ, ◌<◌, get_or}
use Rattle.trap_sig.specs.Gather.{argument}
use Rattle.trap_sig.proofs.arguments.load_arguments.Given as goal

abbrev pub invariant-loop-i : goal.invariant-loop-i
invariant-loop-i l = (k : ℕ) → k < l.i → get_or l.words k 0 ≡ argument l.block l.at k
