-- What lines come to that stand behind others.
use Rattle.std.proofs.Common.{◌≡◌, ℕ, ◌+◌, ◌^◌, ◌<◌, ◌≤◌, Bool, List, [], ◌∷◌, ◌++◌, append-nil, length, Ok, refl, sym, ap, subst, ◌∙◌, arith, add-zero, zero-add, length-append}
use Rattle.std.specs.Prelude.{Option, Some, None, flat_map, map, nat_lt, option_map, replicate, if◌then◌else◌}
use Rattle.std.specs.Option.{option_or}
use Rattle.std.proofs.lemmas.Bool.Decides.{nat_tests}
use Rattle.qv_ops.specs.declared.instr.Instr.{Instr}
use Rattle.qv_image.specs.Image.{Qvm}
use Rattle.asm_line.specs.Row.{Row, Nothing}
use Rattle.asm_line.specs.Stands.{name_defined, resolved}
use Rattle.asm_line.specs.declared.line.AsmSegment.{AsmSegment}
use Rattle.asm_line.specs.declared.line.AsmSegment.TheVariants.{Code, Data, Lit, Bss}
use Rattle.asm_link.specs.Definitions.{state_after}
use Rattle.asm_link.specs.Faults.{code_too_large, kind_at, of_line, redefined_by}
use Rattle.asm_link.specs.Image.{bss_length, bytes_at, bytes_in, code_at, image_of, padded, word}
use Rattle.asm_link.specs.Link.{block_size, end_fault, end_kind, fault_in, first_fault, linked, linked_lines, unless_fault}
use Rattle.asm_link.specs.Source.{SourceLine, FileEnd}
use Rattle.asm_link.specs.State.{Before, file_end, next_last, next_waits, row_addition, row_code, start, step, step_row}
use Rattle.asm_link.specs.Visits.{Visit, visits, visits_from}
use Rattle.asm_link.specs.declared.fault.AsmKind.TheVariants.{CodeTooLarge}
use Rattle.asm_line.proofs.Written.{MadeOf}
use Rattle.asm_link.proofs.Counts.{count-code}
use Rattle.asm_link.proofs.Joined.{first_fault-append, flat_map-visits, state_after-append, visits_from-append}
use Rattle.asm_link.proofs.Rows.{length-row_lines, line_behind, row_line, row_lines, row_lines-append, row_source, rows_from, texts_linked}

-- what these lines come to, the first of which has the number `at` and stands behind lines that come to s: instructions,
-- bytes of the data and of the literals, and what they come to together. No line has a fault where all lines have so many
-- instructions
pub record Comes (all : List SourceLine) (count at : ℕ) (s : Before) (xs : List SourceLine) (code : List Instr) (data_bytes lit_bytes : List ℕ) (last : Before) : Type 0 where
  pub code_is : flat_map (code_at all) (visits_from at s xs) ≡ code
  pub data_is : flat_map (bytes_at all Data) (visits_from at s xs) ≡ data_bytes
  pub lit_is : flat_map (bytes_at all Lit) (visits_from at s xs) ≡ lit_bytes
  pub last_is : state_after s xs ≡ last
  pub no_fault : (state_after start all).count ≡ count → first_fault all (visits_from at s xs) ≡ None

-- a line where it stands
abbrev pub visit : ℕ → Before → SourceLine → Visit
visit at s x = record { at = at; before = s; line = x }

-- the code isn't too large
not_large : (bytes : ℕ) → bytes ≤ 2 ^ 27 → (if nat_lt (2 ^ 27) bytes then Some CodeTooLarge else None) ≡ None
not_large bytes le = grind (arith, nat_tests)

-- no line
pub none-come : (all : List SourceLine) (count at : ℕ) (s : Before) → Comes all count at s [] [] [] [] s
none-come all count at s = record { code_is = refl; data_is = refl; lit_is = refl; last_is = refl; no_fault = λ h. refl }

-- one line that has no fault
pub line-comes : (all : List SourceLine) (count at : ℕ) (s : Before) (x : SourceLine) → ((state_after start all).count ≡ count → kind_at all (visit at s x) ≡ None)
    → Comes all count at s (x ∷ []) (code_at all (visit at s x)) (bytes_at all Data (visit at s x)) (bytes_at all Lit (visit at s x)) (step s x)
line-comes all count at s x well = record {
  code_is = append-nil (code_at all (visit at s x));
  data_is = append-nil (bytes_at all Data (visit at s x));
  lit_is = append-nil (bytes_at all Lit (visit at s x));
  last_is = refl;
  no_fault = λ h. ap (λ k. option_or (option_map (λ kind. record { file = x.file; line = x.line; kind = kind }) k) None) (well h);
}

-- lines behind lines
pub append-come : {all : List SourceLine} {count at : ℕ} {s middle last : Before} {xs ys : List SourceLine} {code more_code : List Instr} {data_bytes more_data lit_bytes more_lit : List ℕ}
    → Comes all count at s xs code data_bytes lit_bytes middle → Comes all count (at + length xs) middle ys more_code more_data more_lit last
    → Comes all count at s (xs ++ ys) (code ++ more_code) (data_bytes ++ more_data) (lit_bytes ++ more_lit) last
append-come {all} {count} {at} {s} {middle} {last} {xs} {ys} first second = record {
  code_is = flat_map-visits (code_at all) xs ys at s middle first.last_is ∙ (λ i. first.code_is i ++ second.code_is i);
  data_is = flat_map-visits (bytes_at all Data) xs ys at s middle first.last_is ∙ (λ i. first.data_is i ++ second.data_is i);
  lit_is = flat_map-visits (bytes_at all Lit) xs ys at s middle first.last_is ∙ (λ i. first.lit_is i ++ second.lit_is i);
  last_is = state_after-append xs ys s ∙ ap (λ t. state_after t ys) first.last_is ∙ second.last_is;
  no_fault = λ h.
      ap (first_fault all) (visits_from-append xs ys at s)
      ∙ first_fault-append all (visits_from at s xs) (visits_from (at + length xs) (state_after s xs) ys)
      ∙ ap (λ f. option_or f (first_fault all (visits_from (at + length xs) (state_after s xs) ys))) (first.no_fault h)
      ∙ ap (λ t. first_fault all (visits_from (at + length xs) t ys)) first.last_is
      ∙ second.no_fault h;
}

-- rows of a file come to this, wherever their lines stand in it
pub record RowsCome (all : List SourceLine) (count file at : ℕ) (s : Before) (rows : List Row) (code : List Instr) (data_bytes lit_bytes : List ℕ) (last : Before) : Type 0 where
  pub from : (number : ℕ) → Comes all count at s (row_lines file number rows) code data_bytes lit_bytes last

pub none_rows-come : (all : List SourceLine) (count file at : ℕ) (s : Before) → RowsCome all count file at s [] [] [] [] s
none_rows-come all count file at s = record { from = λ number. none-come all count at s }

-- one row that has no fault: its instructions are those of the line, their operands resolved
pub row-comes : (all : List SourceLine) (count file at : ℕ) (s : Before) (row : Row) → ((state_after start all).count ≡ count → kind_at all (visit at s (row_line file 1 row)) ≡ None)
    → RowsCome all count file at s (row ∷ []) (map (resolved (word all file)) (row_code row s)) (bytes_in all file Data (row_addition row s)) (bytes_in all file Lit (row_addition row s)) (step_row row s)
row-comes all count file at s row well = record { from = λ number. line-comes all count at s (row_line file number row) well }

-- a row has no fault where it defines no name again, it is well where it stands, and the code stays within its limit
pub row-well : (all : List SourceLine) (file at : ℕ) (s : Before) (row : Row) → redefined_by all at file (name_defined row) ≡ None → of_line all file row s ≡ None → (step_row row s).code_bytes ≤ 2 ^ 27
    → kind_at all (visit at s (row_line file 1 row)) ≡ None
row-well all file at s row once well fits =
    ap (λ o. option_or o (option_or (of_line all file row s) (code_too_large (step_row row s)))) once
    ∙ ap (λ o. option_or o (code_too_large (step_row row s))) well
    ∙ not_large (step_row row s).code_bytes fits

-- rows behind rows
pub append_rows-come : {all : List SourceLine} {count file at : ℕ} {s middle last : Before} {xs ys : List Row} {code more_code : List Instr} {data_bytes more_data lit_bytes more_lit : List ℕ}
    → RowsCome all count file at s xs code data_bytes lit_bytes middle → RowsCome all count file (at + length xs) middle ys more_code more_data more_lit last
    → RowsCome all count file at s (xs ++ ys) (code ++ more_code) (data_bytes ++ more_data) (lit_bytes ++ more_lit) last
append_rows-come {all} {count} {file} {at} {s} {middle} {last} {xs} {ys} {code} {more_code} {data_bytes} {more_data} {lit_bytes} {more_lit} first second = record {
  from = λ number.
      let behind : Comes all count (at + length (row_lines file number xs)) middle (row_lines file (line_behind number xs) ys) more_code more_data more_lit last =
      subst (λ (n : ℕ). Comes all count (at + n) middle (row_lines file (line_behind number xs) ys) more_code more_data more_lit last) (sym (length-row_lines file xs number)) (second.from (line_behind number xs)) in
      subst (λ (ls : List SourceLine). Comes all count at s ls (code ++ more_code) (data_bytes ++ more_data) (lit_bytes ++ more_lit) last) (sym (row_lines-append file xs ys number)) (append-come (first.from number) behind);
}

-- the same, in other words
pub rows-come_as : {all : List SourceLine} {count file at : ℕ} {s last other_last : Before} {rows : List Row} {code other_code : List Instr} {data_bytes other_data lit_bytes other_lit : List ℕ}
    → RowsCome all count file at s rows code data_bytes lit_bytes last → code ≡ other_code → data_bytes ≡ other_data → lit_bytes ≡ other_lit → last ≡ other_last
    → RowsCome all count file at s rows other_code other_data other_lit other_last
rows-come_as come c d l e = record {
  from = λ number.
      let lines = come.from number in
      record { code_is = lines.code_is ∙ c; data_is = lines.data_is ∙ d; lit_is = lines.lit_is ∙ l; last_is = lines.last_is ∙ e; no_fault = lines.no_fault };
}

-- a blank line changes nothing

blank_last : (g : AsmSegment) (last : Option (List ℕ)) → next_last g last Nothing ≡ last
blank_last Code last = refl
blank_last Data last = refl
blank_last Lit last = refl
blank_last Bss last = refl

blank_waits : (g : AsmSegment) (waits : Bool) → next_waits g waits Nothing ≡ waits
blank_waits Code waits = refl
blank_waits Data waits = refl
blank_waits Lit waits = refl
blank_waits Bss waits = refl

blank_step : (s : Before) → step_row Nothing s ≡ s
blank_step s = λ i. record s {
  last = blank_last s.segment s.last i;
  waits = blank_waits s.segment s.waits i;
  count = add-zero s.count i;
  code_bytes = add-zero s.code_bytes i;
  data_size = add-zero s.data_size i;
  lit_size = add-zero s.lit_size i;
  bss_size = add-zero s.bss_size i;
}

blank-comes : (all : List SourceLine) (count file at : ℕ) (s : Before) → s.code_bytes ≤ 2 ^ 27 → RowsCome all count file at s (Nothing ∷ []) [] [] [] s
blank-comes all count file at s fits =
    rows-come_as (row-comes all count file at s Nothing (λ h. row-well all file at s Nothing refl refl (omega arith))) refl refl refl (blank_step s)

-- a file of these rows, the blank line behind its last line feed, and its end
pub file-comes : {all : List SourceLine} {count file at : ℕ} {s middle last : Before} {rows : List Row} {rest : List SourceLine} {code more_code : List Instr} {data_bytes more_data lit_bytes more_lit : List ℕ}
    → RowsCome all count file at s rows code data_bytes lit_bytes middle → middle.code_bytes ≤ 2 ^ 27 → Comes all count (at + length rows + 2) (file_end middle) rest more_code more_data more_lit last
    → Comes all count at s (row_source file 1 (rows ++ Nothing ∷ []) rest) (code ++ more_code) (data_bytes ++ more_data) (lit_bytes ++ more_lit) last
file-comes {all} {count} {file} {at} {s} {middle} {last} {rows} {rest} {code} {more_code} {data_bytes} {more_data} {lit_bytes} {more_lit} come fits behind =
    let whole : List Row = rows ++ Nothing ∷ [] in
    let rows_come : RowsCome all count file at s whole code data_bytes lit_bytes middle =
    rows-come_as (append_rows-come come (blank-comes all count file (at + length rows) middle fits)) (append-nil code) (append-nil data_bytes) (append-nil lit_bytes) refl in
    let end : SourceLine = record { file = file; line = line_behind 1 whole; entry = FileEnd } in
    let behind_rows : ℕ = at + length (row_lines file 1 whole) in
    let places : at + length rows + 2 ≡ behind_rows + 1 = omega (arith, length-row_lines file whole 1, length-append rows (Nothing ∷ [])) in
    let end_comes : Comes all count behind_rows middle (end ∷ []) [] [] [] (file_end middle) = line-comes all count behind_rows middle end (λ h. not_large middle.code_bytes fits) in
    append-come (rows_come.from 1) (append-come end_comes (subst (λ n. Comes all count n (file_end middle) rest more_code more_data more_lit last) places behind))

-- linking

no_end : (last : Before) → 0 < last.count → block_size last ≤ 2 ^ 26 → end_kind last ≡ None
no_end last some le = grind (arith, nat_tests)

-- the image of these instructions, data and literals
abbrev pub image_with : List Instr → List ℕ → List ℕ → Before → Qvm
image_with code data_bytes lit_bytes last = record { code = code; data_part = padded (replicate 4 0 ++ data_bytes); lit = padded lit_bytes; bss = bss_length last }

-- files whose lines come to some instructions and to bytes within the limit are linked to their image
pub comes-linked : {all : List SourceLine} {code : List Instr} {data_bytes lit_bytes : List ℕ} {last : Before} (files : ℕ)
    → Comes all (length code) 0 start all code data_bytes lit_bytes last → 0 < length code → block_size last ≤ 2 ^ 26 → linked_lines files all ≡ Ok (image_with code data_bytes lit_bytes last)
comes-linked {all} {code} {data_bytes} {lit_bytes} {last} files come some fits =
    let count : (state_after start all).count ≡ length code = count-code all 0 all start ∙ zero-add (length (flat_map (code_at all) (visits all))) ∙ ap length come.code_is in
    let last_count : last.count ≡ length code = sym (ap (λ (s : Before). s.count) come.last_is) ∙ count in
    let no_fault : fault_in files all ≡ None =
    ap (λ f. option_or f (end_fault files (state_after start all))) (come.no_fault count)
    ∙ ap (λ s. end_fault files s) come.last_is
    ∙ ap (λ k. option_map (λ kind. record { file = files; line = 0; kind = kind }) k) (no_end last (omega (arith, last_count, some)) fits) in
    let image_is : image_of all ≡ image_with code data_bytes lit_bytes last =
    λ i. image_with (come.code_is i) (come.data_is i) (come.lit_is i) (come.last_is i) in
    ap (λ f. unless_fault f (image_of all)) no_fault ∙ ap (λ (z : Qvm). Ok z) image_is

-- a text that is made of such rows is linked, alone, to their image
pub made-linked : {text : List ℕ} {rows : List Row} {code : List Instr} {data_bytes lit_bytes : List ℕ} {last : Before}
    → MadeOf text rows → RowsCome (rows_from 0 (rows ∷ [])) (length code) 0 0 start rows code data_bytes lit_bytes last → 0 < length code → last.code_bytes ≤ 2 ^ 27 → block_size last ≤ 2 ^ 26
    → linked (text ∷ []) ≡ Ok (image_with code data_bytes lit_bytes last)
made-linked {text} {rows} {code} {data_bytes} {lit_bytes} {last} made come some small fits =
    let all : List SourceLine = rows_from 0 (rows ∷ []) in
    let file = file-comes come small (none-come all (length code) (0 + length rows + 2) (file_end last)) in
    let whole : Comes all (length code) 0 start all code data_bytes lit_bytes (file_end last) =
    record { code_is = file.code_is ∙ append-nil code; data_is = file.data_is ∙ append-nil data_bytes; lit_is = file.lit_is ∙ append-nil lit_bytes; last_is = file.last_is; no_fault = file.no_fault } in
    texts_linked (text ∷ []) (rows ∷ []) (made, tt) ∙ comes-linked 1 whole some fits
