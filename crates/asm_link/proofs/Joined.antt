-- What lines come to that are joined.
use Rattle.std.proofs.Common.{◌≡◌, ℕ, ◌+◌, List, [], ◌∷◌, ◌++◌, length, refl, sym, ap, ◌∙◌, arith, add-zero}
use Rattle.std.specs.Prelude.{Option, Some, None, flat_map}
use Rattle.std.specs.Option.{option_or}
use Rattle.std.proofs.lemmas.Grind.{flat_map-append}
use Rattle.asm_link.specs.Definitions.{state_after}
use Rattle.asm_link.specs.Link.{fault_at, first_fault}
use Rattle.asm_link.specs.Source.{SourceLine}
use Rattle.asm_link.specs.State.{Before, step}
use Rattle.asm_link.specs.Visits.{Visit, visits_from}
use Rattle.asm_link.specs.declared.fault.AsmFault.{AsmFault}

pub state_after-append : (xs ys : List SourceLine) (s : Before) → state_after s (xs ++ ys) ≡ state_after (state_after s xs) ys
state_after-append [] ys s = refl
state_after-append (x ∷ xs) ys s = state_after-append xs ys (step s x)

pub visits_from-append : (xs ys : List SourceLine) (at : ℕ) (s : Before) → visits_from at s (xs ++ ys) ≡ visits_from at s xs ++ visits_from (at + length xs) (state_after s xs) ys
visits_from-append [] ys at s = sym (ap (λ n. visits_from n s ys) (add-zero at))
visits_from-append (x ∷ xs) ys at s =
    let same : at + 1 + length xs ≡ at + length (x ∷ xs) = omega arith in
    ap (λ vs. record { at = at; before = s; line = x } ∷ vs) (
    visits_from-append xs ys (at + 1) (step s x)
    ∙ ap (λ n. visits_from (at + 1) (step s x) xs ++ visits_from n (state_after (step s x) xs) ys) same
    )

-- the lists of what each line gives are joined
pub flat_map-visits : {A : Type 0} (f : Visit → List A) (xs ys : List SourceLine) (at : ℕ) (s middle : Before) → state_after s xs ≡ middle
    → flat_map f (visits_from at s (xs ++ ys)) ≡ flat_map f (visits_from at s xs) ++ flat_map f (visits_from (at + length xs) middle ys)
flat_map-visits f xs ys at s middle e =
    ap (flat_map f) (visits_from-append xs ys at s)
    ∙ flat_map-append f (visits_from at s xs) (visits_from (at + length xs) (state_after s xs) ys)
    ∙ ap (λ t. flat_map f (visits_from at s xs) ++ flat_map f (visits_from (at + length xs) t ys)) e

or-assoc : (a b c : Option AsmFault) → option_or a (option_or b c) ≡ option_or (option_or a b) c
or-assoc None b c = refl
or-assoc (Some f) b c = refl

pub first_fault-append : (all : List SourceLine) (us vs : List Visit) → first_fault all (us ++ vs) ≡ option_or (first_fault all us) (first_fault all vs)
first_fault-append all [] vs = refl
first_fault-append all (u ∷ us) vs = ap (option_or (fault_at all u)) (first_fault-append all us vs) ∙ or-assoc (fault_at all u) (first_fault all us) (first_fault all vs)
