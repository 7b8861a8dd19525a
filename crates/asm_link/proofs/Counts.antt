-- What the lines before a place come to counts their instructions and bytes.
use Rattle.std.proofs.Common.{◌≡◌, ℕ, suc, ap, ◌∙◌, ◌+◌, ◌%◌, ◌^◌, List, [], ◌∷◌, length, refl, arith, length-append}
use Rattle.std.specs.Prelude.{Bool, Option, Some, None, true, false, flat_map, map, if◌then◌else◌}
use Rattle.std.proofs.lemmas.List.{length-map, length-replicate}
use Rattle.std.proofs.lemmas.Grind.{flat_map-append}
use Rattle.qv_ops.specs.Code.{code_bytes, instr_bytes, operand_bytes}
use Rattle.qv_ops.specs.Table.{width_of_op}
use Rattle.qv_ops.specs.declared.op.Op.{Op}
use Rattle.qv_ops.specs.declared.op.Op.TheVariants.{Ignore}
use Rattle.asm_line.specs.Row.{Expression}
use Rattle.asm_line.specs.Stands.{SymbolicInstr, Addition, WordOf, OneByte, Zeros, addition_bytes, addition_size, code_size, resolved}
use Rattle.asm_line.specs.declared.line.AsmSegment.{AsmSegment}
use Rattle.asm_line.specs.declared.line.AsmSegment.TheVariants.{Data, Lit}
use Rattle.asm_link.specs.Definitions.{state_after}
use Rattle.asm_link.specs.Image.{bytes_at, bytes_in, code_at, entry_addition, entry_code, word}
use Rattle.asm_link.specs.Source.{Entry, SourceLine, Read, Unread, FileEnd}
use Rattle.asm_link.specs.State.{Before, added_to, is_segment, step, step_entry}
use Rattle.asm_link.specs.Visits.{visits_from}

-- instructions

count_entry : (value : Expression → ℕ) (s : Before) (e : Entry) → (step_entry e s).count ≡ s.count + length (map (resolved value) (entry_code e s))
count_entry value s (Read row) = omega (arith, length-map (entry_code (Read row) s) (resolved value))
count_entry value s (Unread fault) = omega arith
count_entry value s FileEnd = omega arith

pub count-code : (all : List SourceLine) (at : ℕ) (xs : List SourceLine) (s : Before) → (state_after s xs).count ≡ s.count + length (flat_map (code_at all) (visits_from at s xs))
count-code all at [] s = omega arith
count-code all at (x ∷ xs) s =
    omega (arith, count_entry (word all x.file) s x.entry, count-code all (at + 1) xs (step s x), length-append (map (resolved (word all x.file)) (entry_code x.entry s)) (flat_map (code_at all) (visits_from (at + 1) (step s x) xs)))

-- their bytes

length-operand : (op : Op) (v : ℕ) → length (operand_bytes (width_of_op op) v) ≡ width_of_op op
length-operand Ignore v = refl
length-operand op v = refl

size-code : (value : Expression → ℕ) (code : List SymbolicInstr) → length (code_bytes (map (resolved value) code)) ≡ code_size code
size-code value [] = refl
size-code value (i ∷ code) =
    length-append (instr_bytes (resolved value i)) (code_bytes (map (resolved value) code))
    ∙ ap (λ n. suc n + length (code_bytes (map (resolved value) code))) (length-operand i.op (value i.operand % 2 ^ 32))
    ∙ ap (λ n. suc (width_of_op i.op) + n) (size-code value code)
    ∙ omega arith

bytes_entry : (value : Expression → ℕ) (s : Before) (e : Entry) → (step_entry e s).code_bytes ≡ s.code_bytes + length (code_bytes (map (resolved value) (entry_code e s)))
bytes_entry value s (Read row) = omega (arith, size-code value (entry_code (Read row) s))
bytes_entry value s (Unread fault) = omega arith
bytes_entry value s FileEnd = omega arith

pub code_bytes-code : (all : List SourceLine) (at : ℕ) (xs : List SourceLine) (s : Before) → (state_after s xs).code_bytes ≡ s.code_bytes + length (code_bytes (flat_map (code_at all) (visits_from at s xs)))
code_bytes-code all at [] s = omega arith
code_bytes-code all at (x ∷ xs) s =
    let here = map (resolved (word all x.file)) (entry_code x.entry s) in
    let behind = flat_map (code_at all) (visits_from (at + 1) (step s x) xs) in
    rw (flat_map-append instr_bytes here behind) (omega (arith, bytes_entry (word all x.file) s x.entry, code_bytes-code all (at + 1) xs (step s x), length-append (code_bytes here) (code_bytes behind)))

-- bytes of the data and of the literals

length-addition : (value : Expression → ℕ) (a : Addition) → length (addition_bytes value a) ≡ addition_size a
length-addition value (WordOf e) = refl
length-addition value (OneByte b) = refl
length-addition value (Zeros n) = let zero_byte : ℕ = 0 in length-replicate n zero_byte

length-where : (b : Bool) (value : Expression → ℕ) (a : Addition) → length {A = ℕ} (if b then addition_bytes value a else []) ≡ (if b then addition_size a else 0)
length-where true value a = length-addition value a
length-where false value a = refl

length-added : (all : List SourceLine) (file : ℕ) (g : AsmSegment) (a : Option (AsmSegment × Addition)) → length (bytes_in all file g a) ≡ added_to g a
length-added all file g None = refl
length-added all file g (Some a) = length-where (is_segment g a.0) (word all file) a.1

data_entry : (all : List SourceLine) (file : ℕ) (s : Before) (e : Entry) → (step_entry e s).data_size ≡ s.data_size + length (bytes_in all file Data (entry_addition e s))
data_entry all file s (Read row) = omega (arith, length-added all file Data (entry_addition (Read row) s))
data_entry all file s (Unread fault) = omega arith
data_entry all file s FileEnd = omega arith

pub data_size-bytes : (all : List SourceLine) (at : ℕ) (xs : List SourceLine) (s : Before) → (state_after s xs).data_size ≡ s.data_size + length (flat_map (bytes_at all Data) (visits_from at s xs))
data_size-bytes all at [] s = omega arith
data_size-bytes all at (x ∷ xs) s =
    omega (arith, data_entry all x.file s x.entry, data_size-bytes all (at + 1) xs (step s x), length-append (bytes_in all x.file Data (entry_addition x.entry s)) (flat_map (bytes_at all Data) (visits_from (at + 1) (step s x) xs)))

lit_entry : (all : List SourceLine) (file : ℕ) (s : Before) (e : Entry) → (step_entry e s).lit_size ≡ s.lit_size + length (bytes_in all file Lit (entry_addition e s))
lit_entry all file s (Read row) = omega (arith, length-added all file Lit (entry_addition (Read row) s))
lit_entry all file s (Unread fault) = omega arith
lit_entry all file s FileEnd = omega arith

pub lit_size-bytes : (all : List SourceLine) (at : ℕ) (xs : List SourceLine) (s : Before) → (state_after s xs).lit_size ≡ s.lit_size + length (flat_map (bytes_at all Lit) (visits_from at s xs))
lit_size-bytes all at [] s = omega arith
lit_size-bytes all at (x ∷ xs) s =
    omega (arith, lit_entry all x.file s x.entry, lit_size-bytes all (at + 1) xs (step s x), length-append (bytes_in all x.file Lit (entry_addition x.entry s)) (flat_map (bytes_at all Lit) (visits_from (at + 1) (step s x) xs)))
