-- What the words of a line stand for, or the first fault.
use Rattle.std.specs.Prelude.{ℕ, ◌+◌, ◌*◌, ◌/◌, ◌%◌, ◌^◌, ◌==◌, Bool, false, ◌||◌, List, [], ◌∷◌, Option, Some, None, Result, Ok, Err, if◌then◌else◌}
use Rattle.std.specs.Option.{option_and_then}
use Rattle.qv_ops.specs.Code.{fits_width}
use Rattle.qv_ops.specs.Table.{op_with_name, width_of_op}
use Rattle.qv_ops.specs.declared.op.Op.{Op}
use Rattle.qv_ops.specs.declared.op.Op.TheVariants.{BlockCopy, Sex8, Sex16}
use Rattle.asm_line.specs.declared.line.LineFault.{LineFault}
use Rattle.asm_line.specs.declared.line.LineFault.TheVariants.{UnknownWord, Float, Byte2, MissingOperand, BadNumber, ExtraWord}
use Rattle.asm_line.specs.declared.words.Meaning.{Meaning}
use Rattle.asm_line.specs.declared.words.Meaning.TheVariants.{Plain, WithExpression, LocalAddress, ParamAddress, CopiesBlock, Extends, MaybeNumber, Argument, Calls, Returns, Opens, Closes, Segment, Labels, Equates, Addresses, Bytes, Skips, Aligns, PassRest, Raw, Floating}
use Rattle.asm_line.specs.Operand.{name_of, number_of, expression}
use Rattle.asm_line.specs.Row.{Row, constant, Nothing, Proc, EndProc, One, Call, Arg, Ret, LocalAt, ParamAt, Into, Label, Equ, Word, LitByte, Skip, Align}
use Rattle.asm_line.specs.Words.{meaning_of, is_float_name}

-- the value of an Ok mapped
abbrev pub with_ok : {A B : Type 0} → (A → B) → Result A LineFault → Result B LineFault
with_ok f (Ok x) = Ok (f x)
with_ok f (Err fault) = Err fault

-- this, where no word is left
abbrev pub end_of_line : {A : Type 0} → A → List (List ℕ) → Result A LineFault
end_of_line x [] = Ok x
end_of_line x (w ∷ ws) = Err ExtraWord

-- what the operands come to, where they are as they are due and no word is left behind them
abbrev pub checked : {A : Type 0} → Option A → List (List ℕ) → Result A LineFault
checked None ws = Err BadNumber
checked (Some x) ws = end_of_line x ws

-- what one word comes to, where it is there and no other is left
abbrev pub sole_operand : {A : Type 0} → (List ℕ → Option A) → List (List ℕ) → Result A LineFault
sole_operand read [] = Err MissingOperand
sole_operand read (w ∷ ws) = checked (read w) ws

-- the number that a word writes, where it passes the test
abbrev pub number_that : (ℕ → Bool) → List ℕ → Option ℕ
number_that test word = option_and_then (λ n. if test n then Some n else None) (number_of word)

-- rounded up to a multiple of 4, mod 2 ^ 32
abbrev pub round_up : ℕ → ℕ
round_up n = (n + 3) / 4 * 4 % 2 ^ 32

-- the instruction that extends the sign of so many bytes
abbrev pub extension : ℕ → Option Op
extension n = if n == 1 then Some Sex8 else (if n == 2 then Some Sex16 else None)

abbrev pub is_alignment : ℕ → Bool
is_alignment n = (n == 1) || (n == 2) || (n == 4) || (n == 8) || (n == 16)

-- nothing, with a number or without
abbrev pub maybe_number : List (List ℕ) → Result Row LineFault
maybe_number [] = Ok Nothing
maybe_number (w ∷ ws) = with_ok (λ n. Nothing) (checked (number_of w) ws)

-- a name and two sizes
abbrev pub procedure_row : Option (List ℕ) → Option ℕ → Option ℕ → Option Row
procedure_row (Some name) (Some locals) (Some args) = Some (Proc name locals args)
procedure_row name locals args = None

abbrev pub procedure : List (List ℕ) → Result Row LineFault
procedure (name ∷ locals ∷ args ∷ ws) = checked (procedure_row (name_of name) (number_of locals) (number_of args)) ws
procedure ws = Err MissingOperand

-- a name and its number
abbrev pub equation_row : Option (List ℕ) → Option ℕ → Option Row
equation_row (Some name) (Some value) = Some (Equ name value)
equation_row name value = None

abbrev pub equation : List (List ℕ) → Result Row LineFault
equation (name ∷ value ∷ ws) = checked (equation_row (name_of name) (number_of value)) ws
equation ws = Err MissingOperand

-- a number of 1 or 4 bytes. Half words are a fault of their own, whatever follows
abbrev pub sized_row : ℕ → ℕ → Option Row
sized_row size value = if size == 1 then Some (LitByte (value % 256)) else (if size == 4 then Some (Word (constant value)) else None)

abbrev pub bytes_row : Option ℕ → Option ℕ → Option Row
bytes_row (Some size) (Some value) = sized_row size value
bytes_row size value = None

abbrev pub is_two : Option ℕ → Bool
is_two None = false
is_two (Some n) = n == 2

abbrev pub sized_bytes : Option ℕ → List (List ℕ) → Result Row LineFault
sized_bytes size ws = if is_two size then Err Byte2 else sole_operand (λ w. bytes_row size (number_of w)) ws

abbrev pub bytes : List (List ℕ) → Result Row LineFault
bytes [] = Err MissingOperand
bytes (size ∷ ws) = sized_bytes (number_of size) ws

-- an opcode with the number that it carries
abbrev pub with_number : ℕ → Op → List (List ℕ) → Result Row LineFault
with_number width op ws = if width == 0 then end_of_line (One op (constant 0)) ws else with_ok (λ n. One op (constant n)) (sole_operand (number_that (fits_width width)) ws)

abbrev pub raw_as : Option Op → List ℕ → List (List ℕ) → Result Row LineFault
raw_as None name ws = Err (if is_float_name name then Float else UnknownWord)
raw_as (Some op) name ws = with_number (width_of_op op) op ws

-- an opcode by its name
abbrev pub raw : List (List ℕ) → Result Row LineFault
raw [] = Err MissingOperand
raw (name ∷ ws) = raw_as (op_with_name name) name ws

-- what a line stands for, by its first word's meaning and its other words
abbrev pub row_as : Meaning → List (List ℕ) → Result Row LineFault
row_as (Plain op) ws = end_of_line (One op (constant 0)) ws
row_as (WithExpression op) ws = with_ok (λ e. One op e) (sole_operand expression ws)
row_as LocalAddress ws = with_ok (λ e. LocalAt e) (sole_operand expression ws)
row_as ParamAddress ws = with_ok (λ e. ParamAt e) (sole_operand expression ws)
row_as CopiesBlock ws = with_ok (λ n. One BlockCopy (constant (round_up n))) (sole_operand number_of ws)
row_as Extends ws = with_ok (λ op. One op (constant 0)) (sole_operand (λ w. option_and_then extension (number_of w)) ws)
row_as MaybeNumber ws = maybe_number ws
row_as Argument ws = end_of_line Arg ws
row_as Calls ws = end_of_line Call ws
row_as Returns ws = end_of_line Ret ws
row_as Opens ws = procedure ws
row_as Closes ws = with_ok (λ row. EndProc) (procedure ws)
row_as (Segment segment) ws = end_of_line (Into segment) ws
row_as Labels ws = with_ok (λ name. Label name) (sole_operand name_of ws)
row_as Equates ws = equation ws
row_as Addresses ws = with_ok (λ e. Word e) (sole_operand expression ws)
row_as Bytes ws = bytes ws
row_as Skips ws = with_ok (λ n. Skip n) (sole_operand number_of ws)
row_as Aligns ws = with_ok (λ n. Align n) (sole_operand (number_that is_alignment) ws)
row_as PassRest ws = Ok Nothing
row_as Raw ws = raw ws
row_as Floating ws = Err Float

abbrev pub row_behind : Option Meaning → List (List ℕ) → Result Row LineFault
row_behind None ws = Err UnknownWord
row_behind (Some meaning) ws = row_as meaning ws

-- what a line of these words stands for. Of several faults the answer is the first of: an unknown word,
-- floating-point arithmetic, byte 2, a missing operand, one that isn't as it is due, a word too many
abbrev pub read_row : List (List ℕ) → Result Row LineFault
read_row [] = Ok Nothing
read_row (w ∷ ws) = row_behind (meaning_of w) ws
