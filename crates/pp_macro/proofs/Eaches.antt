-- Arguments that are expanded one after the other.
use Rattle.std.proofs.Common.{◌≡◌, ℕ, zero, suc, ◌+◌, ◌<◌, ◌≤◌, List, [], ◌∷◌, ◌++◌, Result, Ok, Err, length, drop, get_or, arith, refl, sym, ap, ◌∙◌, append_assoc}
use Rattle.std.proofs.Math.Seq.{drop-cons}
use Rattle.std.proofs.lemmas.List.{append-nil}
use Rattle.qv_base.specs.declared.place.Place.{Place}
use Rattle.pp_tok.specs.declared.token.PpTok.{PpTok}
use Rattle.pp_macro.specs.declared.fault.ExpandFault.{ExpandFault}
use Rattle.pp_macro.specs.declared.pieces.Piece.{Piece}
use Rattle.pp_macro.specs.Pieces.{wants}
use Rattle.pp_macro.specs.Calls.{Outcome, each, one_of, ◌>>=◌}

abbrev pub Expanded : Type 0
Expanded = Result (List (List PpTok) × ℕ) ExpandFault

-- what was expanded before, and what still is
abbrev pub with_done : List (List PpTok) → Expanded → Expanded
with_done front (Ok p) = Ok (front ++ p.0, p.1)
with_done front (Err e) = Err e

regroup : (front : List (List PpTok)) (x : List PpTok) (r : Expanded) → with_done front (r >>= λ xs. Ok (x ∷ xs.0, xs.1)) ≡ with_done (front ++ x ∷ []) r
regroup front x (Ok p) = ap (λ (ts : List (List PpTok)). Ok (ts, p.1)) (simp append_assoc)
regroup front x (Err e) = refl

pub all_left : (r : Expanded) → r ≡ with_done [] r
all_left (Ok p) = refl
all_left (Err e) = refl

nothing_behind : (args : List (List PpTok)) (at : ℕ) → length args ≤ at → drop at args ≡ []
nothing_behind [] zero past = refl
nothing_behind [] (suc n) past = refl
nothing_behind (a ∷ more) zero past = absurd (omega arith)
nothing_behind (a ∷ more) (suc n) past = nothing_behind more n (omega arith)

module _ (inner : Place → ℕ → List PpTok → Outcome) (place : Place) (body : List Piece) where
  step : (front : List (List PpTok)) (at count later : ℕ) (a x : List PpTok) (more : List (List PpTok)) → one_of inner place count (wants at body) a ≡ Ok (x, later)
      → with_done front (each inner place body at count (a ∷ more)) ≡ with_done (front ++ x ∷ []) (each inner place body (at + 1) later more)
  unfolding each
  step front at count later a x more is = rw is (regroup front x (each inner place body (at + 1) later more))

  stop : (front : List (List PpTok)) (at count : ℕ) (a : List PpTok) (more : List (List PpTok)) (e : ExpandFault) → one_of inner place count (wants at body) a ≡ Err e
      → with_done front (each inner place body at count (a ∷ more)) ≡ Err e
  unfolding each
  stop front at count a more e is = rw is refl

  end : (front : List (List PpTok)) (at count : ℕ) → with_done front (each inner place body at count []) ≡ Ok (front, count)
  unfolding each
  end front at count = ap (λ (ts : List (List PpTok)). Ok (ts, count)) (append-nil front)

  module _ (total : Expanded) (front : List (List PpTok)) (at count : ℕ) (args : List (List PpTok)) (so_far : total ≡ with_done front (each inner place body at count (drop at args))) where
    cut : (a : List PpTok) → at < length args → a ≡ get_or args at a → drop at args ≡ a ∷ drop (at + 1) args
    cut a some is =
        let next : suc at ≡ at + 1 = omega arith in
        drop-cons args at a some ∙ ap (λ (b : List PpTok). b ∷ drop (suc at) args) (sym is) ∙ ap (λ (n : ℕ). a ∷ drop n args) next

    pub goes : (a x : List PpTok) (later : ℕ) → at < length args → a ≡ get_or args at a → one_of inner place count (wants at body) a ≡ Ok (x, later)
        → total ≡ with_done (front ++ x ∷ []) (each inner place body (at + 1) later (drop (at + 1) args))
    goes a x later some is expands =
        so_far ∙ ap (λ (as' : List (List PpTok)). with_done front (each inner place body at count as')) (cut a some is) ∙ step front at count later a x (drop (at + 1) args) expands

    pub halts : (a : List PpTok) (e : ExpandFault) → at < length args → a ≡ get_or args at a → one_of inner place count (wants at body) a ≡ Err e → total ≡ Err e
    halts a e some is refuses =
        so_far ∙ ap (λ (as' : List (List PpTok)). with_done front (each inner place body at count as')) (cut a some is) ∙ stop front at count a (drop (at + 1) args) e refuses

    pub done : length args ≤ at → total ≡ Ok (front, count)
    done past = let none = nothing_behind args at past in so_far ∙ ap (λ (as' : List (List PpTok)). with_done front (each inner place body at count as')) none ∙ end front at count
