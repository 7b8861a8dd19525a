-- One more sign and term.
use Rattle.std.proofs.Common.{◌≡◌, ℕ, false, List, [], ◌∷◌, ◌++◌, Option, Some, None, refl, sym, ap, ◌∙◌, append_assoc}
use Rattle.std.specs.Prelude.{if◌then◌else◌, codes}
use Rattle.std.specs.Str.{bytes_eq}
use Rattle.qcc_front.specs.declared.sum.Term.{Term}
use Rattle.qcc_front.specs.declared.sum.Sign.{Sign}
use Rattle.qcc_front.specs.declared.sum.SignedTerm.{SignedTerm}
use Rattle.qcc_front.specs.FirstForm.{sign_of, term_of, signed_and, rest_of, closed}

-- terms before those that stand there
abbrev pub with_terms : List SignedTerm → Option (List SignedTerm) → Option (List SignedTerm)
with_terms ts None = None
with_terms ts (Some us) = Some (ts ++ us)

one_more : (ts : List SignedTerm) (t : SignedTerm) (o : Option (List SignedTerm)) → with_terms ts (signed_and (Some t.sign) (Some t.term) o) ≡ with_terms (ts ++ t ∷ []) o
one_more ts t None = refl
one_more ts t (Some us) = ap Some (sym (append_assoc ts (t ∷ []) us))

term_step : (terms : List SignedTerm) (s t : List ℕ) (ts : List (List ℕ)) (sign : Sign) (term : Term) → bytes_eq s (codes ";") ≡ false → Some sign ≡ sign_of s → Some term ≡ term_of t →
    with_terms terms (rest_of (s ∷ t ∷ ts)) ≡ with_terms (terms ++ record { sign = sign; term = term } ∷ []) (rest_of ts)
term_step terms s t ts sign term other is_sign is_term =
    ap (λ b. with_terms terms (if b then closed (t ∷ ts) else signed_and (sign_of s) (term_of t) (rest_of ts))) other
    ∙ ap (λ o. with_terms terms (signed_and o (term_of t) (rest_of ts))) (sym is_sign)
    ∙ ap (λ o. with_terms terms (signed_and (Some sign) o (rest_of ts))) (sym is_term)
    ∙ one_more terms (record { sign = sign; term = term }) (rest_of ts)

-- the same with the tokens that stand there
pub term_step_at : (terms now : List SignedTerm) (s t : List ℕ) (toks last : List (List ℕ)) (sign : Sign) (term : Term) → toks ≡ s ∷ t ∷ last →
    bytes_eq s (codes ";") ≡ false → Some sign ≡ sign_of s → Some term ≡ term_of t → now ≡ terms ++ record { sign = sign; term = term } ∷ [] →
    with_terms now (rest_of last) ≡ with_terms terms (rest_of toks)
term_step_at terms now s t toks last sign term both other is_sign is_term is =
    sym (ap (λ ts. with_terms terms (rest_of ts)) both ∙ term_step terms s t last sign term other is_sign is_term
    ∙ ap (λ l. with_terms l (rest_of last)) (sym is))
