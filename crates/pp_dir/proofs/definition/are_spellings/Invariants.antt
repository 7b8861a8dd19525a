use Rattle.std.proofs.Common.{◌≡◌, length}
use Rattle.pp_dir.specs.Forms.{are_spellings}
use Rattle.pp_dir.proofs.definition.are_spellings.Given as goal

abbrev pub invariant-loop-tok : goal.invariant-loop-tok
invariant-loop-tok l = are_spellings l.params l.rest ≡ are_spellings l.params l.body

abbrev pub decreases-loop-tok : goal.decreases-loop-tok
decreases-loop-tok l = length l.rest
