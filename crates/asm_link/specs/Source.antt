-- The lines of all files, one after the other.
use Rattle.std.specs.Prelude.{ℕ, ◌+◌, Bool, true, List, [], ◌∷◌, Result, Ok, Err}
use Rattle.qv_base.specs.Place.{capped}
use Rattle.asm_line.specs.declared.line.LineFault.{LineFault}
use Rattle.asm_line.specs.Read.{read_row}
use Rattle.asm_line.specs.Row.{Row, is_carried}
use Rattle.asm_line.specs.Text.{lines_of, words_of}

-- what stands at a place of the files: a line that can be read, one that can't, or the end of a file
pub data Entry : Type 0 where
  Read : Row → Entry
  Unread : LineFault → Entry
  FileEnd : Entry

pub record SourceLine : Type 0 where
  -- the file's number, from 0
  pub file : ℕ
  -- the line's number, from 1
  pub line : ℕ
  pub entry : Entry

abbrev pub entry_of_row : Result Row LineFault → Entry
entry_of_row (Ok row) = Read row
entry_of_row (Err fault) = Unread fault

abbrev pub entry_of_text : List ℕ → Entry
entry_of_text text = entry_of_row (read_row (words_of text))

-- the lines of a file from this number on, its end, and then the rest
abbrev pub file_source : ℕ → ℕ → List (List ℕ) → List SourceLine → List SourceLine
file_source file number [] rest = record { file = file; line = number; entry = FileEnd } ∷ rest
file_source file number (line ∷ lines) rest = record { file = file; line = number; entry = entry_of_text line } ∷ file_source file (capped (number + 1)) lines rest

-- the files that have these texts, from this number on
abbrev pub source_from : ℕ → List (List ℕ) → List SourceLine
source_from file [] = []
source_from file (text ∷ texts) = file_source file 1 (lines_of text) (source_from (file + 1) texts)

abbrev pub source_of : List (List ℕ) → List SourceLine
source_of texts = source_from 0 texts

-- the operand of a line that can be read is one that its instruction carries
abbrev pub carries_entry : Entry → Bool
carries_entry (Read row) = is_carried row
carries_entry entry = true

abbrev pub carries : SourceLine → Bool
carries x = carries_entry x.entry
