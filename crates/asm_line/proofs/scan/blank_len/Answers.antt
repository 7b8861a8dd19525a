use Rattle.std.proofs.Common.{sym, ◌∙◌}
use Rattle.asm_line.proofs.Text.{words_of-blanks}
use Rattle.asm_line.proofs.scan.blank_len.Goals as goal

pub loop-i-preserved : goal.loop-i-preserved
loop-i-preserved c = words_of-blanks c.args.line.now c.loop-i.i c.loop-i-test.true (sym c.is_blank.ensures ∙ c.if-not-is_blank.false) ∙ c.loop-i.invariant
