use Rattle.std.proofs.Common.{◌≡◌, ◌++◌, length, reverse}
use Rattle.pp_macro.proofs.pieces.stack_of.Given as goal

abbrev pub invariant-loop-piece : goal.invariant-loop-piece
invariant-loop-piece l = l.pieces ++ reverse l.stack ≡ l.fn.pieces

abbrev pub decreases-loop-piece : goal.decreases-loop-piece
decreases-loop-piece l = length l.pieces
