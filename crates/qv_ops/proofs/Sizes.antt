-- Sizes of code.
use Rattle.std.proofs.Common.{◌≤◌, ℕ, zero, suc, ◌*◌, List, [], ◌∷◌, length, arith, length-append}
use Rattle.qv_ops.specs.declared.instr.Instr.{Instr}
use Rattle.qv_ops.specs.Table.{width_of_op}
use Rattle.qv_ops.specs.Code.{code_bytes, instr_bytes, operand_bytes}

-- each instruction has a byte or more
pub length-code_bytes : (code : List Instr) → length code ≤ length (code_bytes code)
length-code_bytes [] = omega arith
length-code_bytes (i ∷ code) = omega (arith, length-code_bytes code, length-append (instr_bytes i) (code_bytes code))

-- and five at most
pub length-operand_bytes-le : (w v : ℕ) → length (operand_bytes w v) ≤ 4
length-operand_bytes-le zero v = omega arith
length-operand_bytes-le (suc zero) v = omega arith
length-operand_bytes-le (suc (suc w)) v = omega arith

pub length-code_bytes-le : (code : List Instr) → length (code_bytes code) ≤ 5 * length code
length-code_bytes-le [] = omega arith
length-code_bytes-le (i ∷ code) =
    omega (arith, length-code_bytes-le code, length-operand_bytes-le (width_of_op i.op) i.operand, length-append (instr_bytes i) (code_bytes code))
