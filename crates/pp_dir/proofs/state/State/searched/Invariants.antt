use Rattle.std.proofs.Common.{◌≡◌, Some, Ok, length, map, string_bytes}
use Rattle.qv_outside.specs.FileMap.{FileMap, content}
use Rattle.pp_dir.specs.Preprocessed.{searched}
use Rattle.pp_dir.specs.Endings.{Keeps, keeper_of}
use Rattle.pp_dir.proofs.state.State.searched.Given as goal

abbrev pub invariant-loop-name : goal.invariant-loop-name
invariant-loop-name g l = record {
  told : (m : FileMap) → g.F.Files.held l.fn.files ≡ Some m → searched (content m) (map string_bytes l.fn.names) l.fn.self ≡ searched (content m) (map string_bytes l.rest) l.self;
  keeps : Keeps {A = Unit {0}} (keeper_of g.F.Files l.fn.files) (keeper_of g.F.Files l.files) (Ok tt);
}

abbrev pub decreases-loop-name : goal.decreases-loop-name
decreases-loop-name g l = length l.rest
