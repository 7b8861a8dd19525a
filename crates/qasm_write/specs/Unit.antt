-- What the lines of a unit stand for.
use Rattle.std.specs.Prelude.{◌≡◌, ℕ, ◌^◌, ◌≤◌, Bool, true, false, nat_lt, IsTrue, List, [], ◌∷◌, ◌++◌, length, flat_map}
use Rattle.std.specs.List.{list_all}
use Rattle.qv_ops.specs.declared.instr.Instr.{Instr}
use Rattle.qv_ops.specs.declared.op.Op.{Op}
use Rattle.qv_ops.specs.declared.op.Op.TheVariants.{Enter, Leave, Push, Const, Local, Load4, Add as AddOp, Sub}
use Rattle.qv_image.specs.Image.{Qvm}
use Rattle.qasm_write.specs.declared.line.UnitLine.{UnitLine}
use Rattle.qasm_write.specs.declared.line.UnitLine.TheVariants.{Open, Parameter, Load, Constant, Add, Subtract, Return, Close}

abbrev pub instr : Op → ℕ → Instr
instr op operand = record { op = op; operand = operand }

-- the instructions of a line: the first parameter stands 16 bytes above the program stack, behind a frame
-- of 8 bytes, the return place and the number of a trap
abbrev pub line_code : UnitLine → List Instr
line_code Open = instr Enter 8 ∷ []
line_code Parameter = instr Local 16 ∷ []
line_code Load = instr Load4 0 ∷ []
line_code (Constant n) = instr Const n ∷ []
line_code Add = instr AddOp 0 ∷ []
line_code Subtract = instr Sub 0 ∷ []
line_code Return = instr Leave 8 ∷ []
line_code Close = instr Push 0 ∷ instr Leave 8 ∷ []

-- a constant fits a word
abbrev pub constant_fits : UnitLine → Bool
constant_fits (Constant n) = nat_lt n (2 ^ 32)
constant_fits line = true

-- a line that stands between the first and the last
abbrev pub is_inner : UnitLine → Bool
is_inner Open = false
is_inner Close = false
is_inner line = constant_fits line

-- the lines of one function: it is opened once, at the first line, and closed once, at the last
pub record IsUnit (lines : List UnitLine) : Type 0 where
  pub inner : List UnitLine
  pub lines_are : lines ≡ Open ∷ (inner ++ Close ∷ [])
  pub are_inner : IsTrue (list_all is_inner inner)
  pub short : length inner ≤ 2 ^ 20

-- the image of the lines' code, with four zero bytes of data and a stack
abbrev pub unit_image : List UnitLine → Qvm
unit_image lines = record { code = flat_map line_code lines; data_part = 0 ∷ 0 ∷ 0 ∷ 0 ∷ []; lit = []; bss = 65536 }
