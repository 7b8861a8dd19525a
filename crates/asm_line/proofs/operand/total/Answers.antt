use Rattle.std.proofs.Common.{ap, sym, ◌∙◌}
use Rattle.asm_line.specs.Operand.{total}
use Rattle.asm_line.proofs.Operands.{pieces-empty}
use Rattle.asm_line.proofs.operand.total.Goals as goal

pub returns : goal.returns
returns c =
    sym (ap (total c.loop-rest.sum) (pieces-empty c.loop-rest.rest.now (sym c.is_empty.ensures ∙ c.loop-rest-test.false))) ∙ c.loop-rest.invariant
