-- Lines without a fault come to an image within its limits.
use Rattle.std.proofs.Common.{◌≡◌, ℕ, zero, suc, ◌+◌, ◌-◌, ◌*◌, ◌%◌, ◌^◌, ◌<◌, ◌≤◌, Bool, true, false, ◌&&◌, ◌||◌, List, [], ◌∷◌, ◌++◌, length, refl, sym, ap, ◌∙◌, arith, length-append}
use Rattle.std.specs.Prelude.{Option, Some, None, IsTrue, is_none, not, nat_le, nat_lt, ◌==◌, flat_map, map, option_map, replicate, unwrap_or, if◌then◌else◌}
use Rattle.std.specs.List.{list_all}
use Rattle.std.specs.Option.{option_or}
use Rattle.std.proofs.lemmas.Bool.Decides.{nat_tests}
use Rattle.std.proofs.lemmas.List.{length-replicate}
use Rattle.std.proofs.lemmas.List.Folds.{list_all-append}
use Rattle.qv_ops.specs.Code.{code_bytes, fits_width, is_encodable, stays_within}
use Rattle.qv_ops.specs.Table.{is_branch, width_of_op}
use Rattle.qv_ops.specs.declared.instr.Instr.{Instr}
use Rattle.qv_ops.proofs.Sizes.{length-code_bytes}
use Rattle.qv_image.specs.Image.{padded_code, padding}
use Rattle.asm_line.specs.Row.{Row, fits_operand, is_carried, Proc, EndProc, One, Arg, Ret, LocalAt, ParamAt}
use Rattle.asm_line.specs.declared.line.AsmSegment.TheVariants.{Data, Lit}
use Rattle.asm_link.specs.declared.fault.AsmKind.{AsmKind}
use Rattle.asm_link.specs.declared.fault.AsmKind.TheVariants.{ArgTooFar, UndefinedName, BranchFar, CodeTooLarge, EmptyCode, DataTooLarge}
use Rattle.asm_line.specs.Size.{rounded, zeros_to}
use Rattle.asm_line.specs.Stands.{frame_bytes, offset_by, open_sizes, resolved, sizes_of}
use Rattle.asm_link.specs.Definitions.{number_of_name, state_after, value_at, value_of}
use Rattle.asm_link.specs.Source.{Entry, SourceLine, Read, carries, carries_entry}
use Rattle.asm_link.specs.State.{Before, row_code, start, step}
use Rattle.asm_link.specs.Visits.{visits, visits_from}
use Rattle.asm_link.specs.Faults.{when, unread, redefined, mixed, wrong_segment, outside_proc, too_large, too_far, undefined, undefined_value, is_past, branch_far, code_too_large, of_line, of_entry, kind_at}
use Rattle.asm_link.specs.Image.{bytes_at, code_at, entry_code, image_of, padded, word}
use Rattle.asm_link.specs.Link.{fault_at, first_fault, block_size, end_kind}
use Rattle.asm_link.proofs.Counts.{count-code, code_bytes-code, data_size-bytes, lit_size-bytes}

-- none of two is none of each

or_none : {X : Type 0} (a b : Option X) → option_or a b ≡ None → (a ≡ None) × (b ≡ None)
or_none None b h = (refl, h)
or_none (Some x) b h = (h, cc)

map_none : {X Y : Type 0} (f : X → Y) (o : Option X) → option_map f o ≡ None → o ≡ None
map_none f None h = refl
map_none f (Some x) h = cc

when_none : (b : Bool) (k : AsmKind) → when b k ≡ None → b ≡ false
when_none true k h = cc
when_none false k h = refl

and_both : (a b : Bool) → IsTrue (a && b) → IsTrue a × IsTrue b
and_both true b h = (refl, h)
and_both false b h = (h, cc)

both_and : (a b : Bool) → IsTrue a → IsTrue b → IsTrue (a && b)
both_and a b h k = ap (λ x. x && b) h ∙ k

-- a line without a fault

line_well : (all : List SourceLine) (file : ℕ) (row : Row) (s : Before) → of_line all file row s ≡ None → (too_far row s ≡ None) × (undefined all file row ≡ None) × (branch_far all file row ≡ None)
line_well all file row s h =
    let far : Option AsmKind = option_or (too_far row s) (option_or (undefined all file row) (branch_far all file row)) in
    let a = or_none (mixed row s) (option_or (wrong_segment row s) (option_or (outside_proc row s) (option_or (too_large row) far))) h in
    let b = or_none (wrong_segment row s) (option_or (outside_proc row s) (option_or (too_large row) far)) a.1 in
    let c = or_none (outside_proc row s) (option_or (too_large row) far) b.1 in
    let d = or_none (too_large row) far c.1 in
    let e = or_none (too_far row s) (option_or (undefined all file row) (branch_far all file row)) d.1 in
    let f = or_none (undefined all file row) (branch_far all file row) e.1 in
    (e.0, f.0, f.1)

kind_well : (all : List SourceLine) (at : ℕ) (s : Before) (x : SourceLine) → kind_at all (record { at = at; before = s; line = x }) ≡ None → (of_entry all x.file x.entry s ≡ None) × (code_too_large (step s x) ≡ None)
kind_well all at s x h =
    let rest : Option AsmKind = option_or (of_entry all x.file x.entry s) (code_too_large (step s x)) in
    let a = or_none (unread x.entry) (option_or (redefined all (record { at = at; before = s; line = x })) rest) h in
    let b = or_none (redefined all (record { at = at; before = s; line = x })) rest a.1 in
    or_none (of_entry all x.file x.entry s) (code_too_large (step s x)) b.1

seen_well : (all : List SourceLine) (at : ℕ) (s : Before) (x : SourceLine) (xs : List SourceLine) → first_fault all (visits_from at s (x ∷ xs)) ≡ None → (of_entry all x.file x.entry s ≡ None) × (code_too_large (step s x) ≡ None) × (first_fault all (visits_from (at + 1) (step s x) xs) ≡ None)
seen_well all at s x xs h =
    let a = or_none (fault_at all (record { at = at; before = s; line = x })) (first_fault all (visits_from (at + 1) (step s x) xs)) h in
    let k : kind_at all (record { at = at; before = s; line = x }) ≡ None = map_none (λ kind. record { file = x.file; line = x.line; kind = kind }) (kind_at all (record { at = at; before = s; line = x })) a.0 in
    let w = kind_well all at s x k in
    (w.0, w.1, a.1)

-- operands fit

word_fits : (n : ℕ) → IsTrue (nat_lt (n % 2 ^ 32) (2 ^ 32))
word_fits n = grind (arith, nat_tests)

fits_mod : (w n : ℕ) → IsTrue (fits_width w n) → IsTrue (fits_width w (n % 2 ^ 32))
fits_mod zero n h = grind (arith, nat_tests)
fits_mod (suc zero) n h = grind (arith, nat_tests)
fits_mod (suc (suc w)) n h = word_fits n

fits_any : (w n : ℕ) → w ≡ 4 → IsTrue (fits_width w (n % 2 ^ 32))
fits_any zero n e = absurd (omega arith)
fits_any (suc zero) n e = absurd (omega arith)
fits_any (suc (suc w)) n e = word_fits n

arg_fits : (k : ℕ) → when (nat_le 256 (8 + 4 * k)) ArgTooFar ≡ None → IsTrue (nat_lt ((8 + 4 * k) % 2 ^ 32) 256)
arg_fits k h = grind (arith, nat_tests)

is_four : (w : ℕ) → IsTrue (w == 4) → w ≡ 4
is_four w h = grind (arith, nat_tests)

one_fits : (all : List SourceLine) (file w : ℕ) (name : Option (List ℕ)) (add : ℕ) → IsTrue (fits_operand w name add) → IsTrue (fits_width w (word all file (record { name = name; add = add }) % 2 ^ 32))
one_fits all file w None add h = fits_mod w add h
one_fits all file w (Some name) add h = fits_any w (word all file (record { name = Some name; add = add })) (is_four w h)

encodable_row : (all : List SourceLine) (file : ℕ) (s : Before) (row : Row) → IsTrue (is_carried row) → too_far row s ≡ None → IsTrue (list_all is_encodable (map (resolved (word all file)) (row_code row s)))
encodable_row all file s (One op v) w h = both_and (fits_width (width_of_op op) (word all file v % 2 ^ 32)) true (one_fits all file (width_of_op op) v.name v.add w) refl
encodable_row all file s Arg w h = both_and (nat_lt ((8 + 4 * s.arg_words) % 2 ^ 32) 256) true (arg_fits s.arg_words h) refl
encodable_row all file s (Proc name l a) w h = both_and (nat_lt ((frame_bytes (sizes_of l a)) % 2 ^ 32) (2 ^ 32)) true (word_fits (frame_bytes (sizes_of l a))) refl
encodable_row all file s EndProc w h = both_and (nat_lt (frame_bytes (open_sizes s.procedure) % 2 ^ 32) (2 ^ 32)) true (word_fits (frame_bytes (open_sizes s.procedure))) refl
encodable_row all file s Ret w h = both_and (nat_lt (frame_bytes (open_sizes s.procedure) % 2 ^ 32) (2 ^ 32)) true (word_fits (frame_bytes (open_sizes s.procedure))) refl
encodable_row all file s (LocalAt v) w h = both_and (nat_lt ((word all file (offset_by (8 + (open_sizes s.procedure).args) v)) % 2 ^ 32) (2 ^ 32)) true (word_fits (word all file (offset_by (8 + (open_sizes s.procedure).args) v))) refl
encodable_row all file s (ParamAt v) w h = both_and (nat_lt ((word all file (offset_by (8 + frame_bytes (open_sizes s.procedure)) v)) % 2 ^ 32) (2 ^ 32)) true (word_fits (word all file (offset_by (8 + frame_bytes (open_sizes s.procedure)) v))) refl
encodable_row all file s row w h = refl

encodable_entry : (all : List SourceLine) (file : ℕ) (s : Before) (e : Entry) → IsTrue (carries_entry e) → of_entry all file e s ≡ None → IsTrue (list_all is_encodable (map (resolved (word all file)) (entry_code e s)))
encodable_entry all file s (Read row) w h = encodable_row all file s row w (line_well all file row s h).0
encodable_entry all file s e w h = refl

encodable_seen : (all : List SourceLine) (at : ℕ) (xs : List SourceLine) (s : Before) → first_fault all (visits_from at s xs) ≡ None → IsTrue (list_all carries xs) → IsTrue (list_all is_encodable (flat_map (code_at all) (visits_from at s xs)))
encodable_seen all at [] s h w = refl
encodable_seen all at (x ∷ xs) s h w =
    let k = seen_well all at s x xs h in
    let c = and_both (carries x) (list_all carries xs) w in
    rw (list_all-append is_encodable (map (resolved (word all x.file)) (entry_code x.entry s)) (flat_map (code_at all) (visits_from (at + 1) (step s x) xs)))
    (both_and (list_all is_encodable (map (resolved (word all x.file)) (entry_code x.entry s))) (list_all is_encodable (flat_map (code_at all) (visits_from (at + 1) (step s x) xs))) (encodable_entry all x.file s x.entry c.0 k.0) (encodable_seen all (at + 1) xs (step s x) k.2 c.1))

-- branches stay within the code

stays : (b : Bool) (o : Option ℕ) (count : ℕ) → when (b && is_past count o) BranchFar ≡ None → is_none o ≡ false → IsTrue (not b || nat_lt (unwrap_or o 0 % 2 ^ 32) count)
stays false o count h some = refl
stays true None count h some = cc
stays true (Some n) count h some = grind (arith, nat_tests, when_none (nat_le count n) BranchFar h)

has_value : (all : List SourceLine) (file : ℕ) (name : List ℕ) (add : ℕ) (o : Option ℕ) → when (is_none o) (UndefinedName name) ≡ None → is_none (option_map (λ n. (n + add) % 2 ^ 32) o) ≡ false
has_value all file name add None h = cc
has_value all file name add (Some n) h = refl

value_some : (all : List SourceLine) (file : ℕ) (name : Option (List ℕ)) (add : ℕ) → undefined_value all file name ≡ None → is_none (value_at all file name add) ≡ false
value_some all file None add h = refl
value_some all file (Some name) add h = has_value all file name add (number_of_name all file name) h

stays_row : (all : List SourceLine) (file : ℕ) (s : Before) (row : Row) → undefined all file row ≡ None → branch_far all file row ≡ None → IsTrue (list_all (stays_within (state_after start all).count) (map (resolved (word all file)) (row_code row s)))
stays_row all file s (One op v) u h = both_and (not (is_branch op) || nat_lt (word all file v % 2 ^ 32) (state_after start all).count) true (stays (is_branch op) (value_of all file v) (state_after start all).count h (value_some all file v.name v.add u)) refl
stays_row all file s row u h = refl

stays_entry : (all : List SourceLine) (file : ℕ) (s : Before) (e : Entry) → of_entry all file e s ≡ None → IsTrue (list_all (stays_within (state_after start all).count) (map (resolved (word all file)) (entry_code e s)))
stays_entry all file s (Read row) h = let k = line_well all file row s h in stays_row all file s row k.1 k.2
stays_entry all file s e h = refl

stays_seen : (all : List SourceLine) (at : ℕ) (xs : List SourceLine) (s : Before) → first_fault all (visits_from at s xs) ≡ None → IsTrue (list_all (stays_within (state_after start all).count) (flat_map (code_at all) (visits_from at s xs)))
stays_seen all at [] s h = refl
stays_seen all at (x ∷ xs) s h =
    let k = seen_well all at s x xs h in
    rw (list_all-append (stays_within (state_after start all).count) (map (resolved (word all x.file)) (entry_code x.entry s)) (flat_map (code_at all) (visits_from (at + 1) (step s x) xs)))
    (both_and (list_all (stays_within (state_after start all).count) (map (resolved (word all x.file)) (entry_code x.entry s))) (list_all (stays_within (state_after start all).count) (flat_map (code_at all) (visits_from (at + 1) (step s x) xs))) (stays_entry all x.file s x.entry k.0) (stays_seen all (at + 1) xs (step s x) k.2))

-- the code fits

fits_step : (n : ℕ) → when (nat_lt (2 ^ 27) n) CodeTooLarge ≡ None → n ≤ 2 ^ 27
fits_step n h = grind (arith, nat_tests, when_none (nat_lt (2 ^ 27) n) CodeTooLarge h)

code_small : (all : List SourceLine) (at : ℕ) (xs : List SourceLine) (s : Before) → s.code_bytes ≤ 2 ^ 27 → first_fault all (visits_from at s xs) ≡ None → (state_after s xs).code_bytes ≤ 2 ^ 27
code_small all at [] s small h = small
code_small all at (x ∷ xs) s small h =
    let k = seen_well all at s x xs h in
    code_small all (at + 1) xs (step s x) (fits_step (step s x).code_bytes k.1) k.2

-- padding goes to a multiple of 4

length-padded : (bytes : List ℕ) → length (padded bytes) ≡ rounded (length bytes)
length-padded bytes =
    let zero_byte : ℕ = 0 in
    omega (arith, length-append bytes (replicate (zeros_to 4 (length bytes)) 0), length-replicate (zeros_to 4 (length bytes)) zero_byte)

length-padded_code : (code : List Instr) → length (code_bytes code) ≤ 2 ^ 27 → length (padded_code code) ≤ 2 ^ 27
length-padded_code code h =
    let zero_byte : ℕ = 0 in
    omega (arith, h, length-append (code_bytes code) (padding (code_bytes code)), length-replicate ((4 - length (code_bytes code) % 4) % 4) zero_byte)

-- what the end's tests say

unless : {X : Type 0} (b : Bool) (x : X) (o : Option X) → (if b then Some x else o) ≡ None → (b ≡ false) × (o ≡ None)
unless true x o h = (cc, cc)
unless false x o h = (refl, h)

end_well : (last : Before) → end_kind last ≡ None → ((last.count == 0) ≡ false) × (nat_lt (2 ^ 26) (block_size last) ≡ false)
end_well last h =
    let k = unless (last.count == 0) EmptyCode (if nat_lt (2 ^ 26) (block_size last) then Some (DataTooLarge (block_size last)) else None) h in
    (k.0, (unless (nat_lt (2 ^ 26) (block_size last)) (DataTooLarge (block_size last)) None k.1).0)

positive : (n : ℕ) → (n == 0) ≡ false → 0 < n
positive n h = grind (arith, nat_tests)

at_most : (n m : ℕ) → nat_lt m n ≡ false → n ≤ m
at_most n m h = grind (arith, nat_tests)

-- the limits of the image of all lines

pub some_code : (all : List SourceLine) → end_kind (state_after start all) ≡ None → 0 < length (image_of all).code
some_code all h = omega (arith, positive (state_after start all).count (end_well (state_after start all) h).0, count-code all 0 all start)

code_bytes_fit : (all : List SourceLine) → first_fault all (visits all) ≡ None → length (code_bytes (image_of all).code) ≤ 2 ^ 27
code_bytes_fit all h = omega (arith, code_small all 0 all start (omega arith) h, code_bytes-code all 0 all start)

pub code_fits : (all : List SourceLine) → first_fault all (visits all) ≡ None → length (padded_code (image_of all).code) ≤ 2 ^ 27
code_fits all h = length-padded_code (image_of all).code (code_bytes_fit all h)

pub count_fits : (all : List SourceLine) → first_fault all (visits all) ≡ None → length (image_of all).code ≤ 2 ^ 27
count_fits all h = omega (arith, code_bytes_fit all h, length-code_bytes (image_of all).code)

pub encodable : (all : List SourceLine) → first_fault all (visits all) ≡ None → IsTrue (list_all carries all) → IsTrue (list_all is_encodable (image_of all).code)
encodable all h w = encodable_seen all 0 all start h w

pub branches_within : (all : List SourceLine) → first_fault all (visits all) ≡ None → IsTrue (list_all (stays_within (length (image_of all).code)) (image_of all).code)
branches_within all h =
    let e : (state_after start all).count ≡ length (image_of all).code = omega (arith, count-code all 0 all start) in
    ap (λ n. list_all (stays_within n) (image_of all).code) (sym e) ∙ stays_seen all 0 all start h

pub block_fits : (all : List SourceLine) → end_kind (state_after start all) ≡ None → length (image_of all).data_part + length (image_of all).lit + (image_of all).bss ≤ 2 ^ 26
block_fits all h =
    let fits : block_size (state_after start all) ≤ 2 ^ 26 = at_most (block_size (state_after start all)) (2 ^ 26) (end_well (state_after start all) h).1 in
    let d : length (replicate 4 0 ++ flat_map (bytes_at all Data) (visits all)) ≡ (state_after start all).data_size = omega (arith, data_size-bytes all 0 all start) in
    let l : length (flat_map (bytes_at all Lit) (visits all)) ≡ (state_after start all).lit_size = omega (arith, lit_size-bytes all 0 all start) in
    omega (arith, fits, d, l, length-padded (replicate 4 0 ++ flat_map (bytes_at all Data) (visits all)), length-padded (flat_map (bytes_at all Lit) (visits all)))
