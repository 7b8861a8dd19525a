-- Numbered tokens.
use Rattle.std.proofs.Common.{◌≡◌, ℕ, suc, ◌<◌, List, [], ◌∷◌, length, None, refl, ap, arith}
use Rattle.c_tok.specs.declared.token.CTok.{CTok}
use Rattle.c_decl.specs.Tokens.{numbered, head_of, tail_of}

pub numbered_length : (k : ℕ) (ts : List CTok) → length (numbered k ts) ≡ length ts
unfolding numbered
numbered_length k [] = refl
numbered_length k (t ∷ ts) = ap suc (numbered_length (suc k) ts)

pub none_second : (k : ℕ) (ts : List CTok) → length ts < 2 → None ≡ head_of (tail_of (numbered k ts))
unfolding numbered
none_second k [] few = refl
none_second k (t ∷ []) few = refl
none_second k (t ∷ u ∷ ts) few = let no : ⊥ = omega arith in absurd no
