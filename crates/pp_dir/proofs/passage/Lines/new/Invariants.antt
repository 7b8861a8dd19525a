use Rattle.std.proofs.Common.{◌≡◌, ◌++◌, length, reverse}
use Rattle.pp_dir.proofs.passage.Lines.new.Given as goal

abbrev pub invariant-loop-line : goal.invariant-loop-line
invariant-loop-line l = l.rest ++ reverse l.stack ≡ l.fn.lines

abbrev pub decreases-loop-line : goal.decreases-loop-line
decreases-loop-line l = length l.rest
