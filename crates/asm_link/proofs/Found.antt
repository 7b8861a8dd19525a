-- What is known of a name that one line defines, and no line before it.
use Rattle.std.proofs.Common.{◌≡◌, ℕ, ◌+◌, ◌%◌, ◌^◌, ◌<◌, Bool, true, false, ◌&&◌, ◌||◌, List, [], ◌∷◌, ◌++◌, append_assoc, length, refl, sym, ap, ◌∙◌, arith, add-zero, zero-add, length-append, mod-eq_of_lt}
use Rattle.std.specs.Prelude.{Option, Some, None, find, flat_map, is_none, not, option_map, unwrap_or, ◌==◌, if◌then◌else◌}
use Rattle.std.specs.List.{list_any}
use Rattle.std.specs.Str.{bytes_eq}
use Rattle.std.proofs.lemmas.Bool.Decides.{nat_tests}
use Rattle.std.proofs.lemmas.List.Folds.{list_any-append}
use Rattle.std.proofs.lemmas.Slice.Eq.{bytes_eq-Decides}
use Rattle.qv_base.specs.Place.{capped}
use Rattle.asm_line.specs.Row.{Row, Label, Proc, address}
use Rattle.asm_line.specs.Stands.{name_defined}
use Rattle.asm_line.specs.declared.line.AsmSegment.{AsmSegment}
use Rattle.asm_line.specs.declared.line.AsmSegment.TheVariants.{Code}
use Rattle.asm_place.specs.Symbols.{is_local, same_name}
use Rattle.asm_place.specs.declared.address.Address.{Address}
use Rattle.asm_place.specs.declared.address.Address.TheVariants.{Absolute}
use Rattle.asm_link.specs.Definitions.{Definition, defined_at, definitions_from, entry_address, known, known_by, label_address, name_in, number, number_of_name, row_address, state_after}
use Rattle.asm_link.specs.Faults.{is_other, redefined_by, undefined_value, when}
use Rattle.asm_link.specs.Image.{code_at, word}
use Rattle.asm_link.specs.Source.{SourceLine}
use Rattle.asm_link.specs.State.{Before, start, step}
use Rattle.asm_link.specs.Visits.{visits_from}
use Rattle.asm_link.specs.declared.fault.AsmKind.TheVariants.{Redefined, UndefinedName}
use Rattle.asm_link.specs.declared.known.Known.{Known}
use Rattle.asm_link.proofs.CodeRows.{count-rows, rows_count}
use Rattle.asm_link.proofs.Counts.{count-code}
use Rattle.asm_link.proofs.Joined.{state_after-append}
use Rattle.asm_link.proofs.Rows.{length-row_lines, line_behind, row_line, row_lines, row_lines-append}

-- whether a name of a file is the one that a line of another file defines, if it defines one
abbrev pub is_defined : ℕ → List ℕ → ℕ → Option (List ℕ) → Bool
is_defined file name other_file None = false
is_defined file name other_file (Some other) = same_name file name other_file other

-- whether a line defines a name of a file
abbrev pub defines : ℕ → List ℕ → SourceLine → Bool
defines file name x = is_defined file name x.file (name_in x.entry)

-- the same of the rows of a file
abbrev pub row_defines : ℕ → List ℕ → ℕ → Row → Bool
row_defines file name other_file row = is_defined file name other_file (name_defined row)

pub defines-rows : (file : ℕ) (name : List ℕ) (other_file : ℕ) (rows : List Row) (n : ℕ) → list_any (defines file name) (row_lines other_file n rows) ≡ list_any (row_defines file name other_file) rows
defines-rows file name other_file [] n = refl
defines-rows file name other_file (row ∷ rows) n = ap (λ b. row_defines file name other_file row || b) (defines-rows file name other_file rows _)

-- a name is itself
pub same_name-itself : (file : ℕ) (name : List ℕ) → same_name file name file name ≡ true
same_name-itself file name =
    let bytes : bytes_eq name name ≡ true = (bytes_eq-Decides name name).1 refl in
    ap (λ b. b && (not (is_local name) || file == file)) bytes ∙ either_way (not (is_local name))
  where
    either_way : (b : Bool) → (b || file == file) ≡ true
    either_way true = refl
    either_way false = grind (arith, nat_tests)

neither : (a b : Bool) → (a || b) ≡ false → (a ≡ false) × (b ≡ false)
neither true b h = absurd (cc)
neither false b h = (refl, h)

module _ (file : ℕ) (name : List ℕ) where
  abbrev finds : List Definition → Option Definition
  finds ds = find (λ d. same_name file name d.file d.name) ds

  -- a line that defines other names, or none
  passed : (o : Option (List ℕ)) (at other_file : ℕ) (a : Address) (ds : List Definition) → is_defined file name other_file o ≡ false → finds (defined_at at other_file o a ++ ds) ≡ finds ds
  passed None at other_file a ds h = refl
  passed (Some other) at other_file a ds h = ap (λ b. if b then Some (record { file = other_file; name = other; known = record { at = at; address = a } }) else finds ds) h

  -- one that defines it
  here : (o : Option (List ℕ)) (at other_file : ℕ) (a : Address) (ds : List Definition) → is_defined file name other_file o ≡ true → known_by (defined_at at other_file o a ++ ds) file name ≡ Some (record { at = at; address = a })
  here None at other_file a ds h = absurd (cc)
  here (Some other) at other_file a ds h =
      ap (λ b. option_map (λ (d : Definition). d.known) (if b then Some (record { file = other_file; name = other; known = record { at = at; address = a } }) else finds ds)) h

  found_from : (xs : List SourceLine) (x : SourceLine) (ys : List SourceLine) (at : ℕ) (s : Before) → list_any (defines file name) xs ≡ false → defines file name x ≡ true
      → known_by (definitions_from at s (xs ++ x ∷ ys)) file name ≡ Some (record { at = at + length xs; address = entry_address x.entry (state_after s xs) ys })
  found_from [] x ys at s none is =
      here (name_in x.entry) at x.file (entry_address x.entry s ys) (definitions_from (at + 1) (step s x) ys) is
      ∙ sym (ap (λ n. Some (record { at = n; address = entry_address x.entry s ys })) (add-zero at))
  found_from (w ∷ xs) x ys at s none is =
      let k = neither (defines file name w) (list_any (defines file name) xs) none in
      let place : at + 1 + length xs ≡ at + length (w ∷ xs) = omega arith in
      ap (option_map (λ (d : Definition). d.known)) (passed (name_in w.entry) at w.file (entry_address w.entry s (xs ++ x ∷ ys)) (definitions_from (at + 1) (step s w) (xs ++ x ∷ ys)) k.0)
      ∙ found_from xs x ys (at + 1) (step s w) k.1 is
      ∙ ap (λ n. Some (record { at = n; address = entry_address x.entry (state_after (step s w) xs) ys })) place

  -- a name that a line defines, and no line before it, is found there
  pub known-found : (xs : List SourceLine) (x : SourceLine) (ys : List SourceLine) → list_any (defines file name) xs ≡ false → defines file name x ≡ true
      → known (xs ++ x ∷ ys) file name ≡ Some (record { at = length xs; address = entry_address x.entry (state_after start xs) ys })
  known-found xs x ys none is = found_from xs x ys 0 start none is ∙ ap (λ n. Some (record { at = n; address = entry_address x.entry (state_after start xs) ys })) (zero-add (length xs))

  none_from : (xs : List SourceLine) (at : ℕ) (s : Before) → list_any (defines file name) xs ≡ false → known_by (definitions_from at s xs) file name ≡ None
  none_from [] at s none = refl
  none_from (x ∷ xs) at s none =
      let k = neither (defines file name x) (list_any (defines file name) xs) none in
      ap (option_map (λ (d : Definition). d.known)) (passed (name_in x.entry) at x.file (entry_address x.entry s xs) (definitions_from (at + 1) (step s x) xs) k.0) ∙ none_from xs (at + 1) (step s x) k.1

  -- one that no line defines is found nowhere
  pub known-none : (xs : List SourceLine) → list_any (defines file name) xs ≡ false → known xs file name ≡ None
  known-none xs none = none_from xs 0 start none

-- addresses in code

-- a procedure's address is the number of instructions on the lines before it
pub procedure-address : (all xs ys : List SourceLine) (name : List ℕ) (locals args : ℕ) → row_address (Proc name locals args) (state_after start xs) ys ≡ Absolute (length (flat_map (code_at all) (visits_from 0 start xs)))
procedure-address all xs ys name locals args = ap Absolute (count-code all 0 xs start ∙ zero-add (length (flat_map (code_at all) (visits_from 0 start xs))))

code_label : (g : AsmSegment) (s : Before) (ys : List SourceLine) → g ≡ Code → label_address g s ys ≡ Absolute s.count
code_label g s ys is = ap (λ g. label_address g s ys) is

-- and so is that of a label in code
pub label_address-code : (all xs ys : List SourceLine) (name : List ℕ) → (state_after start xs).segment ≡ Code
    → row_address (Label name) (state_after start xs) ys ≡ Absolute (length (flat_map (code_at all) (visits_from 0 start xs)))
label_address-code all xs ys name is =
    code_label (state_after start xs).segment (state_after start xs) ys is ∙ ap Absolute (count-code all 0 xs start ∙ zero-add (length (flat_map (code_at all) (visits_from 0 start xs))))

-- names that are known

module _ (all : List SourceLine) (file : ℕ) (name : List ℕ) where
  -- an address in code is the name's number
  pub number-known : (at n : ℕ) → known all file name ≡ Some (record { at = at; address = Absolute n }) → number_of_name all file name ≡ Some n
  number-known at n h = ap (option_map (λ (k : Known). number (state_after start all) k.address)) h

  -- a name with a number more
  pub word-known : (at n add : ℕ) → known all file name ≡ Some (record { at = at; address = Absolute n }) → word all file (record { name = Some name; add = add }) ≡ (n + add) % 2 ^ 32
  word-known at n add h = ap (λ o. unwrap_or (option_map (λ n. (n + add) % 2 ^ 32) o) 0) (number-known at n h)

  -- a name alone
  pub address-known : (at n : ℕ) → known all file name ≡ Some (record { at = at; address = Absolute n }) → n < 2 ^ 32 → word all file (address name) ≡ n
  address-known at n h lt = word-known at n 0 h ∙ ap (λ k. k % 2 ^ 32) (add-zero n) ∙ mod-eq_of_lt lt

  -- it isn't undefined
  pub undefined-known : (k : Known) → known all file name ≡ Some k → undefined_value all file (Some name) ≡ None
  undefined-known k h = ap (λ o. when (is_none (option_map (λ (k : Known). number (state_after start all) k.address) o)) (UndefinedName name)) h

  -- and the line where it is first defined defines it once
  pub redefined-known : (at : ℕ) (a : Address) → known all file name ≡ Some (record { at = at; address = a }) → redefined_by all at file (Some name) ≡ None
  redefined-known at a h = ap (λ o. when (is_other at o) (Redefined name)) h ∙ ap (λ b. when (not b) (Redefined name)) (same at)
    where
      same : (n : ℕ) → (n == n) ≡ true
      same n = grind (arith, nat_tests)

-- names of the rows of a file

-- a row whose name stands for an instruction's number
abbrev pub names_code : Row → Bool
names_code (Proc name locals args) = true
names_code (Label name) = true
names_code row = false

code_address : (row : Row) (s : Before) (ys : List SourceLine) → names_code row ≡ true → s.segment ≡ Code → row_address row s ys ≡ Absolute s.count
code_address (Proc name locals args) s ys h is = refl
code_address (Label name) s ys h is = code_label s.segment s ys is
code_address row s ys h is = absurd (cc)

-- lines, rows of a file, and lines behind them; a row has this name of a file, and nothing before it has
module _ (xs : List SourceLine) (file number : ℕ) (rows : List Row) (row : Row) (more : List Row) (ys : List SourceLine) (from : ℕ) (name : List ℕ) where
  abbrev whole : List SourceLine
  whole = xs ++ (row_lines file number (rows ++ row ∷ more) ++ ys)

  abbrev before : List SourceLine
  before = xs ++ row_lines file number rows

  abbrev behind : List SourceLine
  behind = row_lines file (capped (line_behind number rows + 1)) more ++ ys

  cut : whole ≡ before ++ row_line file (line_behind number rows) row ∷ behind
  cut =
      ap (λ ls. xs ++ (ls ++ ys)) (row_lines-append file rows (row ∷ more) number)
      ∙ ap (λ ls. xs ++ ls) (append_assoc (row_lines file number rows) (row_lines file (line_behind number rows) (row ∷ more)) ys)
      ∙ sym (append_assoc xs (row_lines file number rows) (row_line file (line_behind number rows) row ∷ behind))

  -- it is found there: a procedure, or a label in code, stands for the number of the instructions before it
  pub row-found : list_any (defines from name) xs ≡ false → list_any (row_defines from name file) rows ≡ false → row_defines from name file row ≡ true → names_code row ≡ true
      → (state_after (state_after start xs) (row_lines file number rows)).segment ≡ Code
      → known whole from name ≡ Some (record { at = length xs + length rows; address = Absolute ((state_after start xs).count + rows_count rows) })
  row-found none fresh is code in_code =
      let state : state_after start before ≡ state_after (state_after start xs) (row_lines file number rows) = state_after-append xs (row_lines file number rows) start in
      let absent : list_any (defines from name) before ≡ false =
      list_any-append (defines from name) xs (row_lines file number rows)
      ∙ ap (λ b. b || list_any (defines from name) (row_lines file number rows)) none
      ∙ defines-rows from name file rows number
      ∙ fresh in
      let place : length before ≡ length xs + length rows = omega (arith, length-append xs (row_lines file number rows), length-row_lines file rows number) in
      ap (λ ls. known ls from name) cut
      ∙ known-found from name before (row_line file (line_behind number rows) row) behind absent is
      ∙ ap (λ a. Some (record { at = length before; address = a })) (code_address row (state_after start before) behind code (ap (λ (s : Before). s.segment) state ∙ in_code))
      ∙ ap (λ n. Some (record { at = length before; address = Absolute n })) (ap (λ (s : Before). s.count) state ∙ count-rows file rows number (state_after start xs))
      ∙ ap (λ n. Some (record { at = n; address = Absolute ((state_after start xs).count + rows_count rows) })) place
