-- A body cut into pieces.
use Rattle.std.specs.Prelude.{ℕ, Bool, false, ◌&&◌, ◌||◌, ◌==◌, codes, position, is_some, unwrap_or, if◌then◌else◌, List, [], ◌∷◌, Option, Some, None}
use Rattle.std.specs.List.{list_any}
use Rattle.std.specs.Str.{bytes_eq}
use Rattle.pp_tok.specs.declared.token.PpTok.{PpTok}
use Rattle.pp_macro.specs.declared.pieces.Piece.{Piece}
use Rattle.pp_macro.specs.declared.pieces.Piece.TheVariants as p
use Rattle.pp_macro.specs.Tokens.{is_ident, is_mark}

abbrev pub is_hash : PpTok → Bool
is_hash t = is_mark (codes "#") t

abbrev pub is_paste : PpTok → Bool
is_paste t = is_mark (codes "##") t

-- whether the first token is a `##`
abbrev pub paste_first : List PpTok → Bool
paste_first [] = false
paste_first (t ∷ ts) = is_paste t

-- a parameter stands as it is beside a `##`, and is expanded elsewhere
abbrev pub param_piece : Bool → ℕ → Piece
param_piece beside i = if beside then p.Standing i else p.Expanded i

abbrev pub plain_piece : PpTok → Bool → Option ℕ → Piece
plain_piece t beside None = p.Plain t
plain_piece t beside (Some i) = param_piece beside i

module _ (params : List (List ℕ)) where
  -- the number of the parameter that a token is
  abbrev pub param_of : PpTok → Option ℕ
  param_of t = if is_ident t.kind then position (bytes_eq t.spelling) params else None

  -- the parameter that the first token is
  abbrev pub param_first : List PpTok → Option ℕ
  param_first [] = None
  param_first (t ∷ ts) = param_of t

  -- The pieces of a body, behind a `#` that has a parameter behind it, or behind none. The test says
  -- whether the token before is a `##`.
  unfoldable pub pieces : Option PpTok → Bool → List PpTok → List Piece
  pieces hash pasted [] = []
  pieces None pasted (t ∷ ts) =
      if is_hash t && is_some (param_first ts) then pieces (Some t) false ts
      else plain_piece t (pasted || paste_first ts) (param_of t) ∷ pieces None (is_paste t) ts
  pieces (Some hash) pasted (t ∷ ts) = p.Spelled hash (unwrap_or (param_of t) 0) ∷ pieces None false ts

abbrev pub expands : ℕ → Piece → Bool
expands i (p.Expanded j) = i == j
expands i _ = false

-- whether a body asks for the argument expanded
abbrev pub wants : ℕ → List Piece → Bool
wants i ps = list_any (expands i) ps
