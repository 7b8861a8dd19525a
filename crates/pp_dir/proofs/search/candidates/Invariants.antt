use Rattle.std.proofs.Common.{◌≡◌, take, map, string_bytes}
use Rattle.pp_dir.specs.Forms.{candidates}
use Rattle.pp_dir.specs.Shown.{wanted_shown}
use Rattle.pp_dir.proofs.search.candidates.Given as goal

abbrev pub invariant-loop-dir : goal.invariant-loop-dir
invariant-loop-dir l = map string_bytes l.names.items ≡ candidates (map string_bytes (take l.dir-index l.dirs)) l.file (wanted_shown l.fn.wanted)
