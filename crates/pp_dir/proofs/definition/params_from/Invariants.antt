use Rattle.std.proofs.Common.{◌≡◌, true, length}
use Rattle.std.specs.Prelude.{option_map}
use Rattle.pp_dir.specs.Forms.{params_from}
use Rattle.pp_dir.proofs.Params.{with_names}
use Rattle.pp_dir.proofs.definition.params_from.Given as goal

abbrev pub invariant-loop-tok : goal.invariant-loop-tok
invariant-loop-tok l = option_map (with_names l.names) (params_from l.due l.rest) ≡ params_from true l.toks

abbrev pub decreases-loop-tok : goal.decreases-loop-tok
decreases-loop-tok l = length l.rest
