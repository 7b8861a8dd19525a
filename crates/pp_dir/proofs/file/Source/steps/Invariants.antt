use Rattle.std.proofs.Common.{◌≡◌, Some, Ok, length, map, string_bytes}
use Rattle.qv_outside.specs.FileMap.{FileMap}
use Rattle.pp_dir.specs.Forms.{passages_of}
use Rattle.pp_dir.specs.Endings.{Keeps, keeper_of}
use Rattle.pp_dir.specs.Sources as at
use Rattle.pp_dir.proofs.file.Source.steps.Given as goal

abbrev pub invariant-loop-rest : goal.invariant-loop-rest
invariant-loop-rest g l = record {
  told : (m : FileMap) → g.F.Files.held l.fn.files ≡ Some m →
      at.steps m (map string_bytes l.self.dirs.now) l.self.depth l.self.file.now (passages_of l.fn.lines) (l.fn.groups, l.fn.state)
      ≡ at.steps m (map string_bytes l.self.dirs.now) l.self.depth l.self.file.now (passages_of l.rest) (l.groups, l.state);
  keeps : Keeps {A = Unit {0}} (keeper_of g.F.Files l.fn.files) (keeper_of g.F.Files l.files) (Ok tt);
}

abbrev pub decreases-loop-rest : goal.decreases-loop-rest
decreases-loop-rest g l = length l.rest
