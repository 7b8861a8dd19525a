-- The rows of files, and texts that are made of rows.
use Rattle.std.proofs.Common.{◌≡◌, ℕ, ◌+◌, List, [], ◌∷◌, ◌++◌, length, refl, ap, ◌∙◌, arith}
use Rattle.qv_base.specs.Place.{capped}
use Rattle.asm_line.specs.Row.{Row, Nothing}
use Rattle.asm_line.specs.Read.{read_row}
use Rattle.asm_line.specs.Text.{lines_of, words_of}
use Rattle.asm_line.proofs.Text.{words_of-nil}
use Rattle.asm_line.proofs.Written.{AllRead, MadeOf, lines_of-lines}
use Rattle.asm_link.specs.Link.{linked, linked_lines}
use Rattle.asm_link.specs.Source.{SourceLine, Read, FileEnd, entry_of_row, file_source, source_from}

-- a row on a line of a file
abbrev pub row_line : ℕ → ℕ → Row → SourceLine
row_line file number row = record { file = file; line = number; entry = Read row }

-- rows of a file, from the line with this number on
abbrev pub row_lines : ℕ → ℕ → List Row → List SourceLine
row_lines file number [] = []
row_lines file number (row ∷ rows) = row_line file number row ∷ row_lines file (capped (number + 1)) rows

-- the number of the line behind rows
abbrev pub line_behind : ℕ → List Row → ℕ
line_behind number [] = number
line_behind number (row ∷ rows) = line_behind (capped (number + 1)) rows

-- a file's rows from this line on, its end, and then the rest
abbrev pub row_source : ℕ → ℕ → List Row → List SourceLine → List SourceLine
row_source file number rows rest = row_lines file number rows ++ record { file = file; line = line_behind number rows; entry = FileEnd } ∷ rest

-- the rows of files, from the file with this number on; behind the last line feed of each a blank line stands
abbrev pub rows_from : ℕ → List (List Row) → List SourceLine
rows_from file [] = []
rows_from file (rows ∷ files) = row_source file 1 (rows ++ Nothing ∷ []) (rows_from (file + 1) files)

-- joined rows

pub row_lines-append : (file : ℕ) (xs ys : List Row) (number : ℕ) → row_lines file number (xs ++ ys) ≡ row_lines file number xs ++ row_lines file (line_behind number xs) ys
row_lines-append file [] ys number = refl
row_lines-append file (x ∷ xs) ys number = ap (λ ls. row_line file number x ∷ ls) (row_lines-append file xs ys (capped (number + 1)))

pub length-row_lines : (file : ℕ) (rows : List Row) (number : ℕ) → length (row_lines file number rows) ≡ length rows
length-row_lines file [] number = refl
length-row_lines file (row ∷ rows) number = omega (arith, length-row_lines file rows (capped (number + 1)))

-- texts made of rows

blank_read : entry_of_row (read_row (words_of [])) ≡ Read Nothing
blank_read = ap (λ ws. entry_of_row (read_row ws)) words_of-nil

lines_read : (file : ℕ) (lines : List (List ℕ)) (rows : List Row) (rest : List SourceLine) → AllRead lines rows → (number : ℕ)
    → file_source file number (lines ++ [] ∷ []) rest ≡ row_source file number (rows ++ Nothing ∷ []) rest
lines_read file [] [] rest h number =
    ap (λ e. record { file = file; line = number; entry = e } ∷ record { file = file; line = capped (number + 1); entry = FileEnd } ∷ rest) blank_read
lines_read file [] (row ∷ rows) rest h number = absurd h
lines_read file (line ∷ lines) [] rest h number = absurd h
lines_read file (line ∷ lines) (row ∷ rows) rest h number =
    ap (λ r. record { file = file; line = number; entry = entry_of_row r } ∷ file_source file (capped (number + 1)) (lines ++ [] ∷ []) rest) h.0.row_is
    ∙ ap (λ ls. row_line file number row ∷ ls) (lines_read file lines rows rest h.1 (capped (number + 1)))

-- a file whose text is made of rows has these rows
pub file_rows : (file : ℕ) (text : List ℕ) (rows : List Row) (rest : List SourceLine) → MadeOf text rows → file_source file 1 (lines_of text) rest ≡ row_source file 1 (rows ++ Nothing ∷ []) rest
file_rows file text rows rest made =
    ap (λ t. file_source file 1 (lines_of t) rest) made.text_is
    ∙ ap (λ ls. file_source file 1 ls rest) (lines_of-lines made.lines rows made.read)
    ∙ lines_read file made.lines rows rest made.read 1

-- texts made of these rows, text by text
abbrev pub AllMade : List (List ℕ) → List (List Row) → Type 0
AllMade [] [] = Unit {0}
AllMade (text ∷ texts) (rows ∷ files) = MadeOf text rows × AllMade texts files
AllMade texts files = ⊥

source_rows : (texts : List (List ℕ)) (files : List (List Row)) → AllMade texts files → (file : ℕ) → source_from file texts ≡ rows_from file files
source_rows [] [] h file = refl
source_rows [] (rows ∷ files) h file = absurd h
source_rows (text ∷ texts) [] h file = absurd h
source_rows (text ∷ texts) (rows ∷ files) h file =
    file_rows file text rows (source_from (file + 1) texts) h.0 ∙ ap (row_source file 1 (rows ++ Nothing ∷ [])) (source_rows texts files h.1 (file + 1))

-- linking such texts is linking their rows
pub texts_linked : (texts : List (List ℕ)) (files : List (List Row)) → AllMade texts files → linked texts ≡ linked_lines (length texts) (rows_from 0 files)
texts_linked texts files h = ap (linked_lines (length texts)) (source_rows texts files h 0)
