-- A line that settles no label changes neither the segment nor the sizes.
use Rattle.std.proofs.Common.{◌≡◌, ℕ, false, List, ◌∷◌, Some, None, refl, ap, ◌∙◌, arith}
use Rattle.std.specs.Prelude.{unwrap_or}
use Rattle.asm_line.specs.Row.{Row, Proc, Into, Label, Equ, Word, LitByte, Skip, Align}
use Rattle.asm_line.specs.Stands.{addition_of, settles}
use Rattle.asm_line.specs.declared.line.AsmSegment.{AsmSegment}
use Rattle.asm_line.specs.declared.line.AsmSegment.TheVariants.{Code, Data, Lit, Bss}
use Rattle.asm_place.specs.declared.address.Address.TheVariants.{Relative}
use Rattle.asm_link.specs.Definitions.{end_of, label_address, name_in, settled_in, settles_entry}
use Rattle.asm_link.specs.Source.{Entry, SourceLine, Read, Unread, FileEnd}
use Rattle.asm_link.specs.State.{Before, added_to, is_segment, next_segment, size_in, row_addition, step_entry, step_row}

adds_nothing : (g : AsmSegment) (n : ℕ) (row : Row) → settles g row ≡ None → addition_of g n row ≡ None
adds_nothing g n (Word e) h = absurd (cc)
adds_nothing g n (LitByte b) h = absurd (cc)
adds_nothing g n (Skip k) h = absurd (cc)
adds_nothing g n (Align k) h = absurd (cc)
adds_nothing g n row h = refl

stays_in : (g : AsmSegment) (row : Row) → settles g row ≡ None → next_segment g row ≡ g
stays_in g (Word e) h = absurd (cc)
stays_in g (LitByte b) h = absurd (cc)
stays_in g (Into other) h = absurd (cc)
stays_in g row h = refl

grows_by_none : (g : AsmSegment) (s : Before) (row : Row) → row_addition row s ≡ None → size_in g (step_row row s) ≡ size_in g s
grows_by_none Code s row h = refl
grows_by_none Data s row h = let none : added_to Data (row_addition row s) ≡ 0 = ap (added_to Data) h in omega (arith, none)
grows_by_none Lit s row h = let none : added_to Lit (row_addition row s) ≡ 0 = ap (added_to Lit) h in omega (arith, none)
grows_by_none Bss s row h = let none : added_to Bss (row_addition row s) ≡ 0 = ap (added_to Bss) h in omega (arith, none)

-- the ends of segments stay where a line settles nothing
pub end_stays : (s : Before) (e : Entry) (behind : List SourceLine) → settles_entry s.segment e ≡ None → end_of (settled_in (step_entry e s).segment behind) (step_entry e s) ≡ end_of (settled_in s.segment behind) s
end_stays s (Read row) behind h =
    ap (λ g. end_of (settled_in g behind) (step_row row s)) (stays_in s.segment row h)
    ∙ ap (λ n. Relative (settled_in s.segment behind) n) (grows_by_none (settled_in s.segment behind) s row (adds_nothing s.segment (size_in s.segment s) row h))
end_stays s (Unread fault) behind h = refl
end_stays s FileEnd behind h = absurd (cc)

-- labels before a line are settled by it, or as those behind it
pub settled_here : (current : AsmSegment) (x : SourceLine) (behind : List SourceLine) (g : AsmSegment) → settles_entry current x.entry ≡ Some g → settled_in current (x ∷ behind) ≡ g
settled_here current x behind g h = ap (λ o. unwrap_or o (settled_in current behind)) h

pub settled_later : (current : AsmSegment) (x : SourceLine) (behind : List SourceLine) → settles_entry current x.entry ≡ None → settled_in current (x ∷ behind) ≡ settled_in current behind
settled_later current x behind h = ap (λ o. unwrap_or o (settled_in current behind)) h

-- a line that defines a name settles nothing
defines_only : (g : AsmSegment) (row : Row) (name : List ℕ) → name_in (Read row) ≡ Some name → settles g row ≡ None
defines_only g (Proc n l a) name h = refl
defines_only g (Label n) name h = refl
defines_only g (Equ n v) name h = refl
defines_only g row name h = absurd (cc)

pub namer_settles_none : (g : AsmSegment) (e : Entry) (name : List ℕ) → name_in e ≡ Some name → settles_entry g e ≡ None
namer_settles_none g (Read row) name h = defines_only g row name h
namer_settles_none g (Unread fault) name h = absurd (cc)
namer_settles_none g FileEnd name h = absurd (cc)

-- a label outside code stands where it is settled
pub label_outside : (g : AsmSegment) (s : Before) (behind : List SourceLine) → is_segment g Code ≡ false → end_of (settled_in g behind) s ≡ label_address g s behind
label_outside Code s behind h = absurd (cc)
label_outside Data s behind h = refl
label_outside Lit s behind h = refl
label_outside Bss s behind h = refl
