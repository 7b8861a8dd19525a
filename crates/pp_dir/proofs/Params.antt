-- Parameters that are read one after another.
use Rattle.std.proofs.Common.{◌≡◌, List, [], ◌∷◌, ◌++◌, Option, Some, None, refl, sym, ap, append_assoc}
use Rattle.std.specs.Prelude.{ℕ, option_map}
use Rattle.pp_tok.specs.declared.token.PpTok.{PpTok}

-- these names before others
abbrev pub with_names : List (List ℕ) → List (List ℕ) × List PpTok → List (List ℕ) × List PpTok
with_names names p = (names ++ p.0, p.1)

pub with_one_more : (names : List (List ℕ)) (name : List ℕ) (o : Option (List (List ℕ) × List PpTok))
    → option_map (with_names names) (option_map (λ p. (name ∷ p.0, p.1)) o) ≡ option_map (with_names (names ++ name ∷ [])) o
with_one_more names name None = refl
with_one_more names name (Some p) = ap (λ (ns : List (List ℕ)). Some (ns, p.1)) (sym (append_assoc names (name ∷ []) p.0))

pub with_none : (o : Option (List (List ℕ) × List PpTok)) → option_map (with_names []) o ≡ o
with_none None = refl
with_none (Some p) = refl
