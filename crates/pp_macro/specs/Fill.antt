-- A body's pieces filled with the arguments.
use Rattle.std.specs.Prelude.{ℕ, ◌-◌, length, take, slice_get, Bool, true, false, ◌||◌, slice_index_or, flat_map, if◌then◌else◌, List, [], ◌∷◌, ◌++◌, Option, Some, None, Result, Ok, Err}
use Rattle.qv_base.specs.declared.place.Place.{Place}
use Rattle.pp_tok.specs.declared.token.PpTok.{PpTok}
use Rattle.pp_tok.specs.declared.token.PpKind.{PpKind}
use Rattle.pp_tok.specs.declared.token.PpKind.TheVariants as k
use Rattle.pp_tok.specs.Sole.{sole_kind_of}
use Rattle.pp_macro.specs.declared.fault.ExpandFault.{ExpandFault}
use Rattle.pp_macro.specs.declared.fault.ExpandFault.TheVariants.{BadPaste}
use Rattle.pp_macro.specs.declared.pieces.Piece.{Piece}
use Rattle.pp_macro.specs.declared.pieces.Piece.TheVariants as p
use Rattle.pp_macro.specs.Tokens.{common, escaped, made, quoted}
use Rattle.pp_macro.specs.Pieces.{is_paste}

-- `#`

abbrev pub is_quote : PpKind → Bool
is_quote k.Char = true
is_quote k.Text = true
is_quote _ = false

abbrev pub spelled_token : PpTok → List ℕ
spelled_token t = if is_quote t.kind then escaped t.spelling else t.spelling

-- a line end counts as a blank
abbrev pub spelled_behind : PpTok → List ℕ
spelled_behind t = if t.space || t.first then 32 ∷ spelled_token t else spelled_token t

-- an argument's spelling
abbrev pub spelling_of : List PpTok → List ℕ
spelling_of [] = []
spelling_of (t ∷ ts) = spelled_token t ++ flat_map spelled_behind ts

abbrev pub text_of : PpTok → List PpTok → PpTok
text_of hash argument = made k.Text (quoted (spelling_of argument)) hash

-- `##`

abbrev pub Filled : Type 0
Filled = Result (List PpTok) ExpandFault

abbrev pub behind_front : List PpTok → Filled → Filled
behind_front front (Ok ts) = Ok (front ++ ts)
behind_front front (Err e) = Err e

-- a token joined with nothing is made by the `##`
abbrev pub moved : PpTok → PpTok → PpTok
moved paste t = record { kind = t.kind; spelling = t.spelling; place = paste.place; space = t.space; first = t.first; hidden = t.hidden }

-- a token joined with another one hides what both hide
abbrev pub joined_as : PpTok → PpTok → PpTok → PpKind → PpTok
joined_as paste l r kind = record { kind = kind; spelling = l.spelling ++ r.spelling; place = paste.place; space = l.space; first = l.first; hidden = common l.hidden r.hidden }

abbrev pub last_of : List PpTok → Option PpTok
last_of ts = slice_get ts (length ts - 1)

abbrev pub before_last : List PpTok → List PpTok
before_last ts = take (length ts - 1) ts

abbrev pub last_moved : PpTok → List PpTok → Option PpTok → List PpTok
last_moved paste left None = left
last_moved paste left (Some l) = left ++ moved paste l ∷ []

abbrev pub made_among : List PpTok → List PpTok → Result PpTok ExpandFault → Filled
made_among left right (Ok t) = Ok (left ++ t ∷ right)
made_among left right (Err e) = Err e

module _ (at : Place) (paste : PpTok) where
  abbrev pub joined_one : PpTok → PpTok → Option PpKind → Result PpTok ExpandFault
  joined_one l r None = Err (BadPaste at)
  joined_one l r (Some kind) = Ok (joined_as paste l r kind)

  -- the last token of the left part, if there is one, and the first one of the right part
  abbrev pub joined_between : Option PpTok → PpTok → Result PpTok ExpandFault
  joined_between None r = Ok (moved paste r)
  joined_between (Some l) r = joined_one l r (sole_kind_of (l.spelling ++ r.spelling))

  -- a left and a right part
  abbrev pub joined : List PpTok → List PpTok → Filled
  joined left [] = Ok (last_moved paste (before_last left) (last_of left))
  joined left (r ∷ rs) = made_among (before_last left) rs (joined_between (last_of left) r)

-- a `##` with a piece behind it joins
abbrev pub paste_of : Piece → List Piece → Option PpTok
paste_of (p.Plain t) (q ∷ qs) = if is_paste t then Some t else None
paste_of _ _ = None

abbrev pub joined_to : (List PpTok → Option PpTok → Filled) → Filled → Filled
joined_to go (Ok left) = go left None
joined_to go (Err e) = Err e

-- the arguments as they stand and expanded
module _ (raw expanded : List (List PpTok)) where
  -- what a piece brings
  abbrev pub brought : Piece → List PpTok
  brought (p.Plain t) = t ∷ []
  brought (p.Expanded i) = slice_index_or expanded i []
  brought (p.Standing i) = slice_index_or raw i []
  brought (p.Spelled hash i) = text_of hash (slice_index_or raw i []) ∷ []

  abbrev pub next_piece : (List PpTok → Option PpTok → Filled) → List PpTok → Piece → Option PpTok → Filled
  next_piece go left q None = behind_front left (go (brought q) None)
  next_piece go left q (Some paste) = go left (Some paste)

  module _ (at : Place) where
    -- the pieces behind those that bring `left`, and behind a `##` where one stands there
    unfoldable pub filled_behind : List Piece → List PpTok → Option PpTok → Filled
    filled_behind [] left paste = Ok left
    filled_behind (q ∷ qs) left None = next_piece (filled_behind qs) left q (paste_of q qs)
    filled_behind (q ∷ qs) left (Some paste) = joined_to (filled_behind qs) (joined at paste left (brought q))

    -- the tokens that a body brings
    abbrev pub filled : List Piece → Filled
    filled [] = Ok []
    filled (q ∷ qs) = filled_behind qs (brought q) None
