-- How long the code of a unit is.
use Rattle.std.proofs.Common.{◌+◌, ◌*◌, ◌≤◌, List, [], ◌∷◌, length, arith, length-append}
use Rattle.std.specs.List.{flat_map}
use Rattle.qcc_front.specs.declared.sum.Term.{Term}
use Rattle.qcc_front.specs.declared.sum.Term.TheVariants.{Command, Number}
use Rattle.qcc_front.specs.declared.sum.SignedTerm.{SignedTerm}
use Rattle.qcc_front.specs.Sum.{Sum}
use Rattle.qasm_write.specs.Unit.{instr}
use Rattle.qcc_front.proofs.UnitCode.{term_code, sign_op, signed_code, sum_code, end_code, unit_code}

term_short : (t : Term) → length (term_code t) ≤ 2
term_short Command = omega arith
term_short (Number n) = omega arith

rest_short : (ts : List SignedTerm) → length (flat_map signed_code ts) ≤ 3 * length ts
rest_short [] = omega arith
rest_short (t ∷ ts) = omega (arith, rest_short ts, term_short t.term, length-append (signed_code t) (flat_map signed_code ts), length-append (term_code t.term) (instr (sign_op t.sign) 0 ∷ []))

pub unit_short : (e : Sum) → length (unit_code e) ≤ 3 * length e.rest + 6
unit_short e = omega (arith, rest_short e.rest, term_short e.first, length-append (sum_code e) end_code, length-append (term_code e.first) (flat_map signed_code e.rest))
