use Rattle.std.proofs.Common.{[], ◌∷◌, refl, arith}
use Rattle.qasm_write.specs.declared.line.UnitLine.TheVariants.{Parameter, Load, Constant, Add, Subtract, Return}
use Rattle.qasm_write.proofs.write.tests.writes_lines.Goals as goal

-- between the first line and the last
pub write_unit-requires : goal.write_unit-requires
write_unit-requires g c =
    record {
      inner = Parameter ∷ Load ∷ Constant 7 ∷ Add ∷ Constant 4294967295 ∷ Subtract ∷ Return ∷ [];
      lines_are = refl;
      are_inner = refl;
      short = omega arith;
    }
