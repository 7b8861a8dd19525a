use Rattle.std.proofs.Common.{◌≡◌, ◌++◌, length}
use Rattle.pp_dir.specs.Forms.{error_text}
use Rattle.pp_dir.proofs.words.error_text.Given as goal

abbrev pub invariant-loop-tok : goal.invariant-loop-tok
invariant-loop-tok l = error_text l.toks ≡ l.text.items ++ error_text l.rest

abbrev pub decreases-loop-tok : goal.decreases-loop-tok
decreases-loop-tok l = length l.rest
