use Rattle.std.proofs.Common.{◌≡◌, length}
use Rattle.pp_macro.specs.Macros.{same_names}
use Rattle.pp_macro.proofs.macros.have_same_names.Given as goal

abbrev pub invariant-loop-name : goal.invariant-loop-name
invariant-loop-name l = same_names l.fn.names l.fn.others ≡ same_names l.names l.others

abbrev pub decreases-loop-name : goal.decreases-loop-name
decreases-loop-name l = length l.names
