use Rattle.std.proofs.Common.{◌≡◌, ◌++◌, None, false, length}
use Rattle.pp_macro.specs.Pieces.{pieces}
use Rattle.pp_macro.proofs.pieces.pieces.Given as goal

abbrev pub invariant-loop-token : goal.invariant-loop-token
invariant-loop-token l = pieces l.params None false l.body ≡ l.found ++ pieces l.params None l.pasted l.rest

abbrev pub decreases-loop-token : goal.decreases-loop-token
decreases-loop-token l = length l.rest
