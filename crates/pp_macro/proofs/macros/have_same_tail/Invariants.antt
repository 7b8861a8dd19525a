use Rattle.std.proofs.Common.{◌≡◌, length}
use Rattle.pp_macro.specs.Macros.{same_tail}
use Rattle.pp_macro.proofs.macros.have_same_tail.Given as goal

abbrev pub invariant-loop-tok : goal.invariant-loop-tok
invariant-loop-tok l = same_tail l.fn.toks l.fn.others ≡ same_tail l.toks l.others

abbrev pub decreases-loop-tok : goal.decreases-loop-tok
decreases-loop-tok l = length l.toks
