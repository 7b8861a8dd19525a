use Rattle.std.proofs.Common.{◌≡◌, drop, map}
use Rattle.std.specs.List.{list_any}
use Rattle.std.specs.Str.{bytes_eq}
use Rattle.asm_line.specs.Shown.{bytes_of}
use Rattle.asm_line.specs.Words.{is_float_name}
use Rattle.asm_line.proofs.words.is_float_name.Given as goal

abbrev pub invariant-loop-float : goal.invariant-loop-float
invariant-loop-float l = list_any (bytes_eq l.name) (map bytes_of (drop l.float-index l.table)) ≡ is_float_name l.name
