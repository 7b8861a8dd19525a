use Rattle.std.proofs.Common.{◌≡◌, ◌++◌, drop}
use Rattle.std.specs.Prelude.{map}
use Rattle.std.specs.String.{string_bytes}
use Rattle.asm_line.specs.Text.{text_of}
use Rattle.qv_dis.specs.Text.{lit_lines, byte_line}
use Rattle.qv_dis.proofs.text.append_lit.Given as goal

abbrev pub invariant-loop-byte : goal.invariant-loop-byte
invariant-loop-byte l = string_bytes l.text ++ text_of (map byte_line (drop l.byte-index l.lit)) ≡ string_bytes l.fn.text ++ text_of (lit_lines l.lit)
