use Rattle.std.proofs.Common.{◌≡◌, take}
use Rattle.qasm_write.specs.Text.{unit_text}
use Rattle.qasm_write.proofs.write.write_unit.Given as goal

abbrev pub invariant-loop-line : goal.invariant-loop-line
invariant-loop-line l = l.text.items ≡ unit_text (take l.line-index l.lines)
