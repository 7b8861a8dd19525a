-- The cutting of a body.
use Rattle.std.proofs.Common.{◌≡◌, ℕ, Bool, List, [], ◌∷◌, ◌++◌, None, length, arith, refl, sym, ap, ◌∙◌}
use Rattle.std.proofs.lemmas.List.{append-nil}
use Rattle.pp_tok.specs.declared.token.PpTok.{PpTok}
use Rattle.pp_macro.specs.declared.pieces.Piece.{Piece}
use Rattle.pp_macro.specs.Pieces.{pieces}

none_left : (params : List (List ℕ)) (pasted : Bool) (rest : List PpTok) → length rest ≡ 0 → pieces params None pasted rest ≡ []
unfolding pieces
none_left params pasted [] none = refl
none_left params pasted (t ∷ ts) none = absurd (omega arith)

pub cut : (params : List (List ℕ)) (pasted : Bool) (found all : List Piece) (rest : List PpTok) → all ≡ found ++ pieces params None pasted rest → length rest ≡ 0 → found ≡ all
cut params pasted found all rest so_far none = sym (so_far ∙ ap (λ (ps : List Piece). found ++ ps) (none_left params pasted rest none) ∙ append-nil found)
