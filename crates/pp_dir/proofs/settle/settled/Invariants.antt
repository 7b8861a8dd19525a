use Rattle.std.proofs.Common.{◌≡◌, ◌++◌, length}
use Rattle.pp_dir.specs.Forms.{settled, settled_behind}
use Rattle.pp_dir.proofs.settle.settled.Given as goal

abbrev pub invariant-loop-tok : goal.invariant-loop-tok
invariant-loop-tok l = settled l.table l.toks ≡ l.all ++ settled_behind l.table l.rest l.taken

abbrev pub decreases-loop-tok : goal.decreases-loop-tok
decreases-loop-tok l = length l.rest
