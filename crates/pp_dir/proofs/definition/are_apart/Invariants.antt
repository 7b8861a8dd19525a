use Rattle.std.proofs.Common.{◌≡◌, length}
use Rattle.pp_dir.specs.Forms.{are_apart}
use Rattle.pp_dir.proofs.definition.are_apart.Given as goal

abbrev pub invariant-loop-name : goal.invariant-loop-name
invariant-loop-name l = are_apart l.rest ≡ are_apart l.names

abbrev pub decreases-loop-name : goal.decreases-loop-name
decreases-loop-name l = length l.rest
