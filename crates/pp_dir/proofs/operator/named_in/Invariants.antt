use Rattle.std.proofs.Common.{◌≡◌, drop}
use Rattle.std.specs.Prelude.{map}
use Rattle.pp_dir.specs.Reading.{named_in}
use Rattle.pp_dir.specs.Shown.{named_op}
use Rattle.pp_dir.proofs.operator.named_in.Given as goal

abbrev pub invariant-loop-name : goal.invariant-loop-name
invariant-loop-name g l = named_in (map named_op (drop l.name-index l.ops)) l.spelling ≡ named_in (map named_op l.ops) l.spelling
