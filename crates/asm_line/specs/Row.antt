-- What lines say, with names as lists of bytes.
use Rattle.std.specs.Prelude.{ℕ, ◌==◌, Bool, true, List, Option, Some, None}
use Rattle.qv_ops.specs.declared.op.Op.{Op}
use Rattle.qv_ops.specs.Code.{fits_width}
use Rattle.qv_ops.specs.Table.{width_of_op}
use Rattle.asm_line.specs.declared.line.AsmSegment.{AsmSegment}

-- a number, or a name's number plus a number
pub record Expression : Type 0 where
  pub name : Option (List ℕ)
  pub add : ℕ

-- a number sole_operand
abbrev pub constant : ℕ → Expression
constant n = record { name = None; add = n }

-- a name's number
abbrev pub address : List ℕ → Expression
address name = record { name = Some name; add = 0 }

-- what a line that can be read stands for
pub data Row : Type 0 where
  Nothing : Row
  -- opens a procedure: its name, and its bytes of locals and of arguments
  Proc : List ℕ → ℕ → ℕ → Row
  EndProc : Row
  -- one instruction
  One : Op → Expression → Row
  Call : Row
  Arg : Row
  Ret : Row
  LocalAt : Expression → Row
  ParamAt : Expression → Row
  Into : AsmSegment → Row
  Label : List ℕ → Row
  Equ : List ℕ → ℕ → Row
  Word : Expression → Row
  LitByte : ℕ → Row
  Skip : ℕ → Row
  Align : ℕ → Row

-- a number fits the opcode's width; a name stands only where four bytes are carried
abbrev pub fits_operand : ℕ → Option (List ℕ) → ℕ → Bool
fits_operand width None add = fits_width width add
fits_operand width (Some name) add = width == 4

-- the operand of a line's one instruction can be carried
abbrev pub is_carried : Row → Bool
is_carried (One op e) = fits_operand (width_of_op op) e.name e.add
is_carried row = true
