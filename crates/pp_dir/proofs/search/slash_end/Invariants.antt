use Rattle.std.proofs.Common.{◌≡◌, ◌<◌, take}
use Rattle.std.specs.Str.{IsCharBoundary}
use Rattle.pp_dir.specs.Forms.{directory_of}
use Rattle.pp_dir.proofs.search.slash_end.Given as goal

abbrev pub invariant-loop-at : goal.invariant-loop-at
invariant-loop-at l = record {
  value : take l.end l.name ≡ directory_of (take l.at l.name);
  boundary : 0 < l.end → IsCharBoundary l.name l.end;
}
