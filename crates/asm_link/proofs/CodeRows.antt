-- Rows that stand for instructions, or for nothing, in the code.
use Rattle.std.proofs.Common.{◌≡◌, ℕ, ◌+◌, ◌^◌, ◌≤◌, Bool, true, false, List, [], ◌∷◌, length, refl, sym, ap, ◌∙◌, arith, add-zero}
use Rattle.std.specs.Prelude.{Option, None, map}
use Rattle.std.specs.List.{list_all}
use Rattle.qv_base.specs.Place.{capped}
use Rattle.asm_line.specs.Row.{Row, Nothing, Proc, EndProc, One, Call, Arg, Ret, LocalAt, ParamAt, Into, Word, LitByte, Skip, Align}
use Rattle.asm_line.specs.Stands.{Addition, addition_of, code_size, name_defined, resolved}
use Rattle.asm_line.specs.declared.line.AsmSegment.{AsmSegment}
use Rattle.asm_line.specs.declared.line.AsmSegment.TheVariants.{Code, Data, Lit, Bss}
use Rattle.asm_line.proofs.Text.{both_true}
use Rattle.asm_link.specs.Definitions.{state_after}
use Rattle.asm_link.specs.Faults.{of_line, redefined_by}
use Rattle.asm_link.specs.Image.{bytes_in, word}
use Rattle.asm_link.specs.Source.{SourceLine}
use Rattle.asm_link.specs.State.{Before, added_to, next_arg_words, next_last, next_procedure, next_segment, next_waits, row_addition, row_code, size_in, start, step_row}
use Rattle.asm_link.proofs.Comes.{RowsCome, row-comes, row-well, rows-come_as}
use Rattle.asm_link.proofs.Rows.{row_lines}

-- a row that neither adds to a segment nor changes it
abbrev pub is_code_row : Row → Bool
is_code_row (Into segment) = false
is_code_row (Word e) = false
is_code_row (LitByte b) = false
is_code_row (Skip n) = false
is_code_row (Align n) = false
is_code_row row = true

-- the instructions that a row stands for
abbrev pub row_count : Row → ℕ
row_count (Proc name locals args) = 1
row_count EndProc = 2
row_count (One op e) = 1
row_count Call = 1
row_count Arg = 1
row_count Ret = 1
row_count (LocalAt e) = 1
row_count (ParamAt e) = 1
row_count row = 0

length-row_code : (row : Row) (s : Before) → length (row_code row s) ≡ row_count row
length-row_code Nothing s = refl
length-row_code row s = refl

abbrev pub rows_count : List Row → ℕ
rows_count [] = 0
rows_count (row ∷ rows) = row_count row + rows_count rows

-- rows come to so many instructions together
pub count-rows : (file : ℕ) (rows : List Row) (number : ℕ) (s : Before) → (state_after s (row_lines file number rows)).count ≡ s.count + rows_count rows
count-rows file [] number s = sym (add-zero s.count)
count-rows file (row ∷ rows) number s = count-rows file rows (capped (number + 1)) (step_row row s) ∙ omega (arith, length-row_code row s)

-- what such a row leaves alone

keeps_segment : (row : Row) (g : AsmSegment) → is_code_row row ≡ true → next_segment g row ≡ g
keeps_segment (Into segment) g h = absurd (cc)
keeps_segment (Word e) g h = absurd (cc)
keeps_segment (LitByte b) g h = absurd (cc)
keeps_segment row g h = refl

keeps_last : (row : Row) (last : Option (List ℕ)) → is_code_row row ≡ true → next_last Code last row ≡ last
keeps_last (Into segment) last h = absurd (cc)
keeps_last row last h = refl

keeps_waits : (row : Row) (waits : Bool) → is_code_row row ≡ true → next_waits Code waits row ≡ waits
keeps_waits (Into segment) waits h = absurd (cc)
keeps_waits (Word e) waits h = absurd (cc)
keeps_waits (LitByte b) waits h = absurd (cc)
keeps_waits (Skip n) waits h = absurd (cc)
keeps_waits (Align n) waits h = absurd (cc)
keeps_waits row waits h = refl

adds_nothing : (row : Row) (g : AsmSegment) (size : ℕ) → is_code_row row ≡ true → addition_of g size row ≡ None
adds_nothing (Word e) g size h = absurd (cc)
adds_nothing (LitByte b) g size h = absurd (cc)
adds_nothing (Skip n) g size h = absurd (cc)
adds_nothing (Align n) g size h = absurd (cc)
adds_nothing row g size h = refl

-- the segment stays the current one behind such rows
pub segment-rows : (file : ℕ) (rows : List Row) (number : ℕ) (s : Before) → list_all is_code_row rows ≡ true → (state_after s (row_lines file number rows)).segment ≡ s.segment
segment-rows file [] number s h = refl
segment-rows file (row ∷ rows) number s h =
    let k = both_true (is_code_row row) (list_all is_code_row rows) h in
    segment-rows file rows (capped (number + 1)) (step_row row s) k.1 ∙ keeps_segment row s.segment k.0

-- the state behind such a row
abbrev pub behind_row : Row → Before → Before
behind_row row s = record s {
  procedure = next_procedure s.procedure row;
  arg_words = next_arg_words s.arg_words row;
  count = s.count + length (row_code row s);
  code_bytes = s.code_bytes + code_size (row_code row s);
}

none_added : (g : AsmSegment) (n : ℕ) (a : Option (AsmSegment × Addition)) → a ≡ None → n + added_to g a ≡ n
none_added g n a none = ap (λ a. n + added_to g a) none ∙ add-zero n

code_step : (row : Row) (s : Before) → is_code_row row ≡ true → s.segment ≡ Code → step_row row s ≡ behind_row row s
code_step row s h is =
    let last = ap (λ g. next_last g s.last row) is ∙ keeps_last row s.last h in
    let waits = ap (λ g. next_waits g s.waits row) is ∙ keeps_waits row s.waits h in
    let none : row_addition row s ≡ None = adds_nothing row s.segment (size_in s.segment s) h in
    let segment = keeps_segment row s.segment h in
    let data_size = none_added Data s.data_size (row_addition row s) none in
    let lit_size = none_added Lit s.lit_size (row_addition row s) none in
    let bss_size = none_added Bss s.bss_size (row_addition row s) none in
    λ i. record (behind_row row s) { segment = segment i; last = last i; waits = waits i; data_size = data_size i; lit_size = lit_size i; bss_size = bss_size i }

-- such a row, which defines no name again and is well where it stands, comes to its instructions
pub code_row-comes : (all : List SourceLine) (count file at : ℕ) (s : Before) (row : Row) → is_code_row row ≡ true → s.segment ≡ Code → redefined_by all at file (name_defined row) ≡ None
    → ((state_after start all).count ≡ count → of_line all file row s ≡ None) → (behind_row row s).code_bytes ≤ 2 ^ 27
    → RowsCome all count file at s (row ∷ []) (map (resolved (word all file)) (row_code row s)) [] [] (behind_row row s)
code_row-comes all count file at s row h is once well fits =
    let none : row_addition row s ≡ None = adds_nothing row s.segment (size_in s.segment s) h in
    rows-come_as (row-comes all count file at s row (λ e. row-well all file at s row once (well e) fits)) refl (ap (bytes_in all file Data) none) (ap (bytes_in all file Lit) none) (code_step row s h is)
