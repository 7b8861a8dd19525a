-- What a line that can be read stands for: instructions, bytes of a segment, a name.
use Rattle.std.specs.Prelude.{ℕ, ◌+◌, ◌*◌, ◌%◌, ◌^◌, List, [], ◌∷◌, ◌++◌, Option, Some, None, replicate, unwrap_or}
use Rattle.qv_ops.specs.Code.{word_bytes}
use Rattle.qv_ops.specs.Table.{width_of_op}
use Rattle.qv_ops.specs.declared.instr.Instr.{Instr}
use Rattle.qv_ops.specs.declared.op.Op.{Op}
use Rattle.qv_ops.specs.declared.op.Op.TheVariants.{Enter, Leave, Push, Local, Arg as ArgOp, Call as CallOp}
use Rattle.asm_line.specs.Row.{Expression, Row, constant, Proc, EndProc, One, Call, Arg, Ret, LocalAt, ParamAt, Into, Label, Equ, Word, LitByte, Skip, Align}
use Rattle.asm_line.specs.Size.{rounded, zeros_to}
use Rattle.asm_line.specs.declared.frame.FrameSizes.{FrameSizes}
use Rattle.asm_line.specs.declared.line.AsmSegment.{AsmSegment}
use Rattle.asm_line.specs.declared.line.AsmSegment.TheVariants.{Data, Lit}

-- the sizes of a procedure as they are written
abbrev pub sizes_of : ℕ → ℕ → FrameSizes
sizes_of locals args = record { locals = rounded locals; args = rounded args }

-- those of the open procedure. Where none is open the line is a fault, and 0 stands for both
abbrev pub open_sizes : Option FrameSizes → FrameSizes
open_sizes procedure = unwrap_or procedure (record { locals = 0; args = 0 })

-- a frame: the return place, the number of a trap, the arguments that are passed, the local variables
abbrev pub frame_bytes : FrameSizes → ℕ
frame_bytes f = 8 + f.locals + f.args

-- an instruction whose operand is an expression
pub record SymbolicInstr : Type 0 where
  pub op : Op
  pub operand : Expression

-- a number more
abbrev pub offset_by : ℕ → Expression → Expression
offset_by n e = record { name = e.name; add = n + e.add }

abbrev pub only : Op → Expression → List SymbolicInstr
only op e = record { op = op; operand = e } ∷ []

-- the instructions of a line in this open procedure, with so many ARG words since the last call
abbrev pub code_of : Option FrameSizes → ℕ → Row → List SymbolicInstr
code_of procedure arg_words (Proc name locals args) = only Enter (constant (frame_bytes (sizes_of locals args)))
code_of procedure arg_words EndProc = only Push (constant 0) ++ only Leave (constant (frame_bytes (open_sizes procedure)))
code_of procedure arg_words (One op e) = only op e
code_of procedure arg_words Call = only CallOp (constant 0)
code_of procedure arg_words Arg = only ArgOp (constant (8 + 4 * arg_words))
code_of procedure arg_words Ret = only Leave (constant (frame_bytes (open_sizes procedure)))
code_of procedure arg_words (LocalAt e) = only Local (offset_by (8 + (open_sizes procedure).args) e)
code_of procedure arg_words (ParamAt e) = only Local (offset_by (8 + frame_bytes (open_sizes procedure)) e)
code_of procedure arg_words row = []

-- the bytes that instructions take
abbrev pub code_size : List SymbolicInstr → ℕ
code_size [] = 0
code_size (i ∷ code) = 1 + width_of_op i.op + code_size code

-- an instruction, once expressions have values
abbrev pub resolved : (Expression → ℕ) → SymbolicInstr → Instr
resolved value i = record { op = i.op; operand = value i.operand % 2 ^ 32 }

-- what a line adds to a segment: a word, a byte, or zero bytes
pub data Addition : Type 0 where
  WordOf : Expression → Addition
  OneByte : ℕ → Addition
  Zeros : ℕ → Addition

-- the segment that a line adds to, and what it adds, where the current segment has so many bytes
abbrev pub addition_of : AsmSegment → ℕ → Row → Option (AsmSegment × Addition)
addition_of current size (Word e) = Some (Data, WordOf e)
addition_of current size (LitByte b) = Some (Lit, OneByte b)
addition_of current size (Skip n) = Some (current, Zeros n)
addition_of current size (Align n) = Some (current, Zeros (zeros_to n size))
addition_of current size row = None

abbrev pub addition_size : Addition → ℕ
addition_size (WordOf e) = 4
addition_size (OneByte b) = 1
addition_size (Zeros n) = n

-- its bytes, once expressions have values
abbrev pub addition_bytes : (Expression → ℕ) → Addition → List ℕ
addition_bytes value (WordOf e) = word_bytes (value e)
addition_bytes value (OneByte b) = b ∷ []
addition_bytes value (Zeros n) = replicate n 0

-- the segment in which a line settles the labels that wait: that of its word or byte, else the current one
abbrev pub settles : AsmSegment → Row → Option AsmSegment
settles current (Word e) = Some Data
settles current (LitByte b) = Some Lit
settles current (Skip n) = Some current
settles current (Align n) = Some current
settles current (Into segment) = Some current
settles current row = None

-- the name that a line defines
abbrev pub name_defined : Row → Option (List ℕ)
name_defined (Proc name locals args) = Some name
name_defined (Label name) = Some name
name_defined (Equ name value) = Some name
name_defined row = None
