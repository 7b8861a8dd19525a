use Rattle.std.proofs.Common.{◌≡◌, None, length, reverse}
use Rattle.pp_macro.specs.Fill.{behind_front, filled, filled_behind}
use Rattle.pp_macro.proofs.fill.Arguments.fill.Given as goal

abbrev pub invariant-loop-piece : goal.invariant-loop-piece
invariant-loop-piece l =
    filled l.self.raw.now l.self.expanded.now l.at l.fn.pieces ≡ behind_front l.out (filled_behind l.self.raw.now l.self.expanded.now l.at (reverse l.pieces) l.left None)

abbrev pub decreases-loop-piece : goal.decreases-loop-piece
decreases-loop-piece l = length l.pieces
