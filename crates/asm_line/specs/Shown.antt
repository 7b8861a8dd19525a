-- The program's lines by what they say.
use Rattle.std.specs.Prelude.{ℕ, List, option_map}
use denote.Ref.{Bor}
use Rattle.asm_line.specs.declared.line.Value.{Value}
use Rattle.asm_line.specs.declared.line.Line.{Line}
use Rattle.asm_line.specs.declared.line.Line.TheVariants.{Nothing, Proc, EndProc, One, Call, Arg, Ret, LocalAt, ParamAt, Into, Label, Equ, Word, LitByte, Skip, Align}
use Rattle.asm_line.specs.declared.words.Meaning.{Meaning}
use Rattle.asm_line.specs.Row.{Expression, Row, Nothing as RowNothing, Proc as RowProc, EndProc as RowEndProc, One as RowOne, Call as RowCall, Arg as RowArg, Ret as RowRet, LocalAt as RowLocalAt, ParamAt as RowParamAt, Into as RowInto, Label as RowLabel, Equ as RowEqu, Word as RowWord, LitByte as RowLitByte, Skip as RowSkip, Align as RowAlign}

-- the bytes that a reference lends
abbrev pub bytes_of : Bor (List ℕ) → List ℕ
bytes_of bytes = bytes.now

abbrev pub expression_of : Value → Expression
expression_of v = record { name = option_map bytes_of v.name; add = v.add }

abbrev pub row_of : Line → Row
row_of Nothing = RowNothing
row_of (Proc name locals args) = RowProc name.now locals args
row_of EndProc = RowEndProc
row_of (One op value) = RowOne op (expression_of value)
row_of Call = RowCall
row_of Arg = RowArg
row_of Ret = RowRet
row_of (LocalAt value) = RowLocalAt (expression_of value)
row_of (ParamAt value) = RowParamAt (expression_of value)
row_of (Into segment) = RowInto segment
row_of (Label name) = RowLabel name.now
row_of (Equ name value) = RowEqu name.now value
row_of (Word value) = RowWord (expression_of value)
row_of (LitByte byte) = RowLitByte byte
row_of (Skip n) = RowSkip n
row_of (Align n) = RowAlign n

-- a word of the table and its meaning
abbrev pub word_of : Bor (List ℕ) × Meaning → List ℕ × Meaning
word_of w = (w.0.now, w.1)
