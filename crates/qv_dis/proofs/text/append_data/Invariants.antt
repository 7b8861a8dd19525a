use Rattle.std.proofs.Common.{◌≡◌, ◌*◌, ◌++◌, drop}
use Rattle.std.specs.Prelude.{map}
use Rattle.std.specs.String.{string_bytes}
use Rattle.asm_line.specs.Text.{text_of}
use Rattle.qv_dis.specs.Text.{data_lines, whole_words, word_line}
use Rattle.qv_dis.proofs.text.append_data.Given as goal

abbrev pub invariant-loop-i : goal.invariant-loop-i
invariant-loop-i l = string_bytes l.text ++ text_of (map word_line (whole_words (drop (4 * l.i) l.data_part))) ≡ string_bytes l.fn.text ++ text_of (data_lines l.data_part)
