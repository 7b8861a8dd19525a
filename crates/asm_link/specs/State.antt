-- What the lines before a place come to.
use Rattle.std.specs.Prelude.{List, Bool, ℕ, ◌+◌, length, true, false, Option, Some, None, if◌then◌else◌}
use Rattle.asm_line.specs.Row.{Row, Proc, EndProc, Call, Arg, Into, Label, Word, LitByte, Skip, Align}
use Rattle.asm_line.specs.Stands.{SymbolicInstr, Addition, addition_of, addition_size, code_of, code_size, sizes_of}
use Rattle.asm_line.specs.declared.frame.FrameSizes.{FrameSizes}
use Rattle.asm_line.specs.declared.line.AsmSegment.{AsmSegment}
use Rattle.asm_line.specs.declared.line.AsmSegment.TheVariants.{Code, Data, Lit, Bss}
use Rattle.asm_link.specs.Source.{Entry, SourceLine, Read, Unread, FileEnd}

-- what the lines before a place come to
pub record Before : Type 0 where
  -- the current segment
  pub segment : AsmSegment
  -- the open procedure's sizes
  pub procedure : Option FrameSizes
  -- ARG words since the last call, procedure or start of a file
  pub arg_words : ℕ
  -- the last label outside code since a segment's word or the start of the file, and whether it waits to be settled
  pub last : Option (List ℕ)
  pub waits : Bool
  -- how many instructions, and their bytes
  pub count : ℕ
  pub code_bytes : ℕ
  -- the bytes of each segment
  pub data_size : ℕ
  pub lit_size : ℕ
  pub bss_size : ℕ

-- before the first line: four bytes of data
abbrev pub start : Before
start = record { segment = Code; procedure = None; arg_words = 0; last = None; waits = false; count = 0; code_bytes = 0; data_size = 4; lit_size = 0; bss_size = 0 }

abbrev pub size_in : AsmSegment → Before → ℕ
size_in Code s = 0
size_in Data s = s.data_size
size_in Lit s = s.lit_size
size_in Bss s = s.bss_size

-- the instructions of a line behind these lines, and what it adds to a segment
abbrev pub row_code : Row → Before → List SymbolicInstr
row_code row s = code_of s.procedure s.arg_words row

abbrev pub row_addition : Row → Before → Option (AsmSegment × Addition)
row_addition row s = addition_of s.segment (size_in s.segment s) row

-- whether two segments are one
abbrev pub is_segment : AsmSegment → AsmSegment → Bool
is_segment Code Code = true
is_segment Data Data = true
is_segment Lit Lit = true
is_segment Bss Bss = true
is_segment a b = false

-- the bytes that are added to a segment
abbrev pub added_to : AsmSegment → Option (AsmSegment × Addition) → ℕ
added_to segment None = 0
added_to segment (Some a) = if is_segment segment a.0 then addition_size a.1 else 0

-- the segment behind a line
abbrev pub next_segment : AsmSegment → Row → AsmSegment
next_segment current (Into segment) = segment
next_segment current (Word e) = Data
next_segment current (LitByte b) = Lit
next_segment current row = current

abbrev pub next_procedure : Option FrameSizes → Row → Option FrameSizes
next_procedure procedure (Proc name locals args) = Some (sizes_of locals args)
next_procedure procedure EndProc = None
next_procedure procedure row = procedure

abbrev pub next_arg_words : ℕ → Row → ℕ
next_arg_words n (Proc name locals args) = 0
next_arg_words n Call = 0
next_arg_words n Arg = n + 1
next_arg_words n row = n

-- a label outside code is kept until a segment's word
abbrev pub next_last : AsmSegment → Option (List ℕ) → Row → Option (List ℕ)
next_last current last (Into segment) = None
next_last Code last row = last
next_last current last (Label name) = Some name
next_last current last row = last

-- and waits until it is settled
abbrev pub next_waits : AsmSegment → Bool → Row → Bool
next_waits current waits (Into segment) = false
next_waits current waits (Word e) = false
next_waits current waits (LitByte b) = false
next_waits current waits (Skip n) = false
next_waits current waits (Align n) = false
next_waits Code waits row = waits
next_waits current waits (Label name) = true
next_waits current waits row = waits

abbrev pub step_row : Row → Before → Before
step_row row s = record {
  segment = next_segment s.segment row;
  procedure = next_procedure s.procedure row;
  arg_words = next_arg_words s.arg_words row;
  last = next_last s.segment s.last row;
  waits = next_waits s.segment s.waits row;
  count = s.count + length (row_code row s);
  code_bytes = s.code_bytes + code_size (row_code row s);
  data_size = s.data_size + added_to Data (row_addition row s);
  lit_size = s.lit_size + added_to Lit (row_addition row s);
  bss_size = s.bss_size + added_to Bss (row_addition row s);
}

-- a file begins as the first one does; sizes and counts go on
abbrev pub file_end : Before → Before
file_end s = record s { segment = Code; procedure = None; arg_words = 0; last = None; waits = false }

abbrev pub step_entry : Entry → Before → Before
step_entry (Read row) s = step_row row s
step_entry (Unread fault) s = s
step_entry FileEnd s = file_end s

abbrev pub step : Before → SourceLine → Before
step s x = step_entry x.entry s

-- all its numbers together
abbrev pub frame_weight : Option FrameSizes → ℕ
frame_weight None = 0
frame_weight (Some f) = f.locals + f.args

abbrev pub weight : Before → ℕ
weight s = frame_weight s.procedure + s.arg_words + s.count + s.code_bytes + s.data_size + s.lit_size + s.bss_size
