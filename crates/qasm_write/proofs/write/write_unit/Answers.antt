use Rattle.std.proofs.Common.{◌∙◌, ap}
use Rattle.std.proofs.lemmas.List.{take_all}
use Rattle.qasm_write.specs.Text.{unit_text}
use Rattle.qasm_write.proofs.Reading.{unit_linked}
use Rattle.qasm_write.proofs.write.write_unit.Goals as goal

pub returns-clause-links : goal.returns-clause-links
returns-clause-links c =
    unit_linked c.args.lines.now c.loop-line.text.items c.requires (c.loop-line.invariant ∙ ap unit_text (take_all c.loop-line.line-index c.args.lines.now c.loop-line-test.false))
