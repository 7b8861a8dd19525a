use Rattle.std.proofs.Common.{◌≡◌, ◌++◌, drop}
use Rattle.std.specs.Prelude.{map}
use Rattle.std.specs.String.{string_bytes}
use Rattle.asm_line.specs.Text.{text_of}
use Rattle.qv_dis.specs.Text.{code_lines, instr_line}
use Rattle.qv_dis.proofs.text.append_code.Given as goal

abbrev pub invariant-loop-instr : goal.invariant-loop-instr
invariant-loop-instr l = string_bytes l.text ++ text_of (map instr_line (drop l.instr-index l.code)) ≡ string_bytes l.fn.text ++ text_of (code_lines l.code)
