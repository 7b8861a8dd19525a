use Rattle.std.proofs.Common.{◌≡◌, drop, map}
use Rattle.pp_dir.specs.Preprocessed.{defined_by, predefined}
use Rattle.pp_dir.specs.Units.{definition_of}
use Rattle.pp_dir.proofs.unit.predefined.Given as goal

abbrev pub invariant-loop-def : goal.invariant-loop-def
invariant-loop-def l = defined_by l.table (map definition_of (drop l.def-index l.defs)) ≡ predefined (map definition_of l.defs)
