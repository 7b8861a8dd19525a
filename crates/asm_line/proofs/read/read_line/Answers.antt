use Rattle.std.proofs.Common.{sym, ◌∙◌}
use Rattle.asm_line.proofs.Operands.{meaning_suits}
use Rattle.asm_line.proofs.read.read_line.Goals as goal

pub line_as-requires : goal.line_as-requires
line_as-requires c = meaning_suits c.in-Some.word.now c.in-Some-meaning_of.meaning (sym c.in-Some-meaning_of.is ∙ c.meaning_of.ensures)
