-- The lines of assembly of a unit of the first form. No public clause names them.
use Rattle.std.specs.Prelude.{List, [], ◌∷◌, ◌++◌, flat_map}
use Rattle.qasm_write.specs.declared.line.UnitLine.{UnitLine}
use Rattle.qasm_write.specs.declared.line.UnitLine.TheVariants.{Open, Parameter, Load, Constant, Add, Subtract, Return, Close}
use Rattle.qcc_front.specs.declared.sum.Term.{Term}
use Rattle.qcc_front.specs.declared.sum.Term.TheVariants.{Command, Number}
use Rattle.qcc_front.specs.declared.sum.Sign.{Sign}
use Rattle.qcc_front.specs.declared.sum.Sign.TheVariants.{Plus, Minus}
use Rattle.qcc_front.specs.declared.sum.SignedTerm.{SignedTerm}
use Rattle.qcc_front.specs.Sum.{Sum}

abbrev pub term_lines : Term → List UnitLine
term_lines Command = Parameter ∷ Load ∷ []
term_lines (Number n) = Constant n ∷ []

abbrev pub sign_line : Sign → UnitLine
sign_line Plus = Add
sign_line Minus = Subtract

abbrev pub signed_lines : SignedTerm → List UnitLine
signed_lines t = term_lines t.term ++ sign_line t.sign ∷ []

abbrev pub sum_lines : Sum → List UnitLine
sum_lines e = term_lines e.first ++ flat_map signed_lines e.rest

abbrev pub unit_lines : Sum → List UnitLine
unit_lines e = Open ∷ (sum_lines e ++ Return ∷ Close ∷ [])
