-- The filling of a body, piece by piece.
use Rattle.std.proofs.Common.{◌≡◌, ℕ, ◌-◌, true, List, [], ◌∷◌, ◌++◌, Option, Some, None, Ok, Err, length, take, slice_get, slice_set, MatchOption, reverse, arith, refl, sym, ap, ◌∙◌, append_assoc, length-append}
use Rattle.std.proofs.lemmas.List.{reverse-append}
use Rattle.qv_base.specs.declared.place.Place.{Place}
use Rattle.pp_tok.specs.declared.token.PpTok.{PpTok}
use Rattle.pp_macro.specs.declared.fault.ExpandFault.{ExpandFault}
use Rattle.pp_macro.specs.declared.pieces.Piece.{Piece}
use Rattle.pp_macro.specs.declared.pieces.Piece.TheVariants as p
use Rattle.pp_macro.specs.Pieces.{is_paste}
use Rattle.pp_macro.specs.Fill.{Filled, before_last, behind_front, brought, filled, filled_behind, joined, joined_between, joined_to, last_moved, last_of, moved, paste_of}

popped : {A : Type 0} (old new : List A) (t : A) → old ≡ new ++ t ∷ [] → reverse old ≡ t ∷ reverse new
popped old new t is = rw (is, reverse-append new (t ∷ [])) refl

one_less : (ts : List PpTok) (t : PpTok) → length (ts ++ t ∷ []) - 1 ≡ length ts
one_less ts t = omega (arith, length-append ts (t ∷ []))

at_end : (ts : List PpTok) (t : PpTok) → slice_get (ts ++ t ∷ []) (length ts) ≡ Some t
at_end [] t = refl
at_end (u ∷ ts) t = at_end ts t

all_before : (ts : List PpTok) (t : PpTok) → take (length ts) (ts ++ t ∷ []) ≡ ts
all_before [] t = refl
all_before (u ∷ ts) t = ap (λ (rest : List PpTok). u ∷ rest) (all_before ts t)

last-pushed : (ts : List PpTok) (t : PpTok) → last_of (ts ++ t ∷ []) ≡ Some t
last-pushed ts t = ap (slice_get (ts ++ t ∷ [])) (one_less ts t) ∙ at_end ts t

before-pushed : (ts : List PpTok) (t : PpTok) → before_last (ts ++ t ∷ []) ≡ ts
before-pushed ts t = ap (λ (n : ℕ). take n (ts ++ t ∷ [])) (one_less ts t) ∙ all_before ts t

-- what is left and what was taken from the end
pub popped_last : (old new : List PpTok) (o : Option PpTok) → MatchOption o ((old ≡ []) × (new ≡ [])) (λ last. old ≡ new ++ last ∷ []) → (last_of old ≡ o) × (before_last old ≡ new)
popped_last old new None h = (ap last_of h.0, ap before_last h.0 ∙ sym h.1)
popped_last old new (Some t) h = (ap last_of h ∙ last-pushed new t, ap before_last h ∙ before-pushed new t)

pub moved_last : (paste : PpTok) (old new : List PpTok) (last : PpTok) → old ≡ new ++ last ∷ [] → new ++ moved paste last ∷ [] ≡ last_moved paste (before_last old) (last_of old)
moved_last paste old new last is = rw (is, last-pushed new last, before-pushed new last) refl

pub joined_is : (at : Place) (paste : PpTok) (old new right : List PpTok) (o : Option PpTok) (first made : PpTok)
    → MatchOption o ((old ≡ []) × (new ≡ [])) (λ last. old ≡ new ++ last ∷ []) → Some first ≡ slice_get right 0 → joined_between at paste o first ≡ Ok made
    → joined at paste old right ≡ Ok (new ++ slice_set right 0 made)
joined_is at paste old new [] o first made left some is = absurd cc
joined_is at paste old new (r ∷ rs) o first made left some is =
    let same : r ≡ first = cc in
    let parts = popped_last old new o left in
    rw (parts.0, parts.1, same, is) refl

plain : (r : Filled) → behind_front [] r ≡ r
plain (Ok ts) = refl
plain (Err e) = refl

fronts : (xs ys : List PpTok) (r : Filled) → behind_front xs (behind_front ys r) ≡ behind_front (xs ++ ys) r
fronts xs ys (Ok ts) = ap (λ (all : List PpTok). Ok all) (sym (append_assoc xs ys ts))
fronts xs ys (Err e) = refl

module _ (raw expanded : List (List PpTok)) (at : Place) where
  -- a `##` with a piece behind it
  pastes : (paste : PpTok) (right : Piece) (after : List Piece) (left : List PpTok) → is_paste paste ≡ true
      → filled_behind raw expanded at (p.Plain paste ∷ right ∷ after) left None ≡ joined_to (filled_behind raw expanded at after) (joined at paste left (brought raw expanded right))
  unfolding filled_behind
  pastes paste right after left is = rw is refl

  alone : (q : Piece) (qs : List Piece) (left : List PpTok) → paste_of q qs ≡ None
      → filled_behind raw expanded at (q ∷ qs) left None ≡ behind_front left (filled_behind raw expanded at qs (brought raw expanded q) None)
  unfolding filled_behind
  alone q qs left is = rw is refl

  nothing : (left : List PpTok) → filled_behind raw expanded at [] left None ≡ Ok left
  unfolding filled_behind
  nothing left = refl

  pub begun : (all : List Piece) (stack rest : List Piece) (first : Piece) → reverse stack ≡ all → stack ≡ rest ++ first ∷ []
      → filled raw expanded at all ≡ behind_front [] (filled_behind raw expanded at (reverse rest) (brought raw expanded first) None)
  begun all stack rest first turned is =
      ap (filled raw expanded at) (sym turned ∙ popped stack rest first is) ∙ sym (plain (filled_behind raw expanded at (reverse rest) (brought raw expanded first) None))

  pub empty : (all stack : List Piece) → reverse stack ≡ all → stack ≡ [] → filled raw expanded at all ≡ Ok []
  empty all stack turned is = ap (filled raw expanded at) (sym turned ∙ ap reverse is)

  module _ (total : Filled) (out left : List PpTok) (old : List Piece) (so_far : total ≡ behind_front out (filled_behind raw expanded at (reverse old) left None)) where
    pub finished : old ≡ [] → total ≡ Ok (out ++ left)
    finished is = so_far ∙ ap (λ (ps : List Piece). behind_front out (filled_behind raw expanded at (reverse ps) left None)) is ∙ ap (behind_front out) (nothing left)

    module _ (new : List Piece) (piece : Piece) (is : old ≡ new ++ piece ∷ []) where
      pub taken_alone : (q : Piece) (after : List Piece) → q ≡ piece → after ≡ reverse new → paste_of piece (reverse new) ≡ None
          → total ≡ behind_front (out ++ left) (filled_behind raw expanded at after (brought raw expanded q) None)
      taken_alone q after same rest none =
          so_far ∙ ap (λ (ps : List Piece). behind_front out (filled_behind raw expanded at ps left None)) (popped old new piece is)
          ∙ ap (behind_front out) (alone piece (reverse new) left none)
          ∙ fronts out left (filled_behind raw expanded at (reverse new) (brought raw expanded piece) None)
          ∙ ap (λ (r : Piece). behind_front (out ++ left) (filled_behind raw expanded at (reverse new) (brought raw expanded r) None)) (sym same)
          ∙ ap (λ (ps : List Piece). behind_front (out ++ left) (filled_behind raw expanded at ps (brought raw expanded q) None)) (sym rest)

      joining : (paste : PpTok) (right : Piece) (after : List Piece) → piece ≡ p.Plain paste → is_paste paste ≡ true → reverse new ≡ right ∷ after
          → total ≡ behind_front out (joined_to (filled_behind raw expanded at after) (joined at paste left (brought raw expanded right)))
      joining paste right after same mark rest =
          so_far ∙ ap (λ (ps : List Piece). behind_front out (filled_behind raw expanded at ps left None)) (popped old new piece is)
          ∙ ap (λ (q : Piece). behind_front out (filled_behind raw expanded at (q ∷ reverse new) left None)) same
          ∙ ap (λ (ps : List Piece). behind_front out (filled_behind raw expanded at (p.Plain paste ∷ ps) left None)) rest
          ∙ ap (behind_front out) (pastes paste right after left mark)

      pub taken_joined : (paste : PpTok) (right : Piece) (after : List Piece) → piece ≡ p.Plain paste → is_paste paste ≡ true → reverse new ≡ right ∷ after
          → (made : List PpTok) → joined at paste left (brought raw expanded right) ≡ Ok made → total ≡ behind_front out (filled_behind raw expanded at after made None)
      taken_joined paste right after same mark rest made joins =
          joining paste right after same mark rest ∙ ap (λ (r : Filled). behind_front out (joined_to (filled_behind raw expanded at after) r)) joins

      pub refused : (paste : PpTok) (right : Piece) (after : List Piece) → piece ≡ p.Plain paste → is_paste paste ≡ true → reverse new ≡ right ∷ after
          → (e : ExpandFault) → joined at paste left (brought raw expanded right) ≡ Err e → total ≡ Err e
      refused paste right after same mark rest e joins =
          joining paste right after same mark rest ∙ ap (λ (r : Filled). behind_front out (joined_to (filled_behind raw expanded at after) r)) joins
