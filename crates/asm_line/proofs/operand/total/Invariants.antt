use Rattle.std.proofs.Common.{◌≡◌, length}
use Rattle.asm_line.specs.Operand.{pieces, total}
use Rattle.asm_line.proofs.operand.total.Given as goal

abbrev pub invariant-loop-rest : goal.invariant-loop-rest
invariant-loop-rest l = total l.sum (pieces l.rest) ≡ total l.first (pieces l.text)

abbrev pub decreases-loop-rest : goal.decreases-loop-rest
decreases-loop-rest l = length l.rest
