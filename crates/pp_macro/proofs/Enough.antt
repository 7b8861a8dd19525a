-- The bound on turns that a walk is given doesn't matter, as long as it is large enough.
use Rattle.std.proofs.Common.{◌≡◌, ℕ, zero, suc, ◌+◌, ◌-◌, ◌<◌, ◌≤◌, Bool, true, false, cond, leb, List, [], ◌∷◌, ◌++◌, Option, Some, None, Result, Ok, Err, MatchOption, refl, sym, ap, ◌∙◌, subst, append_assoc, arith}
use Rattle.std.proofs.lemmas.Bool.{leb-false}
use Rattle.std.proofs.lemmas.List.{append-nil}
use Rattle.qv_base.specs.declared.place.Place.{Place}
use Rattle.pp_tok.specs.declared.token.PpTok.{PpTok}
use Rattle.pp_macro.specs.declared.fault.ExpandFault.{ExpandFault}
use Rattle.pp_macro.specs.declared.macros.Macro.{Macro}
use Rattle.pp_macro.specs.declared.meaning.Found.{Found}
use Rattle.pp_macro.specs.declared.pending.Pending.{Pending}
use Rattle.pp_macro.specs.declared.pieces.Piece.{Piece}
use Rattle.pp_macro.specs.Macros.{Entry}
use Rattle.pp_macro.specs.Pieces.{pieces, wants}
use Rattle.pp_macro.specs.Fill.{Filled, filled}
use Rattle.pp_macro.specs.Calls.{Change, Outcome, Taken, began, by_params, call_at, called, change, changed, counts, each, if_taken, limit, one_of, tail_of, ◌>>=◌}
use Rattle.pp_macro.specs.Expand.{due, expand_in, pass, replaced, walk, with_front, within}
use Rattle.pp_macro.specs.Nests.{Moves, macro_of}

-- holds of the value, if there is one
pub data OnValue {A : Type 0} (P : A → Type 0) : Result A ExpandFault → Type 0 where
  value : {x : A} → P x → OnValue P (Ok x)
  fault : {e : ExpandFault} → OnValue P (Err e)

bind_value : {A B : Type 0} {P : A → Type 0} {Q : B → Type 0} (r : Result A ExpandFault) (f : A → Result B ExpandFault) → OnValue P r → ((x : A) → P x → OnValue Q (f x)) → OnValue Q (r >>= f)
bind_value _ f (value {x = x} h) k = k x h
bind_value _ f fault k = fault

if_value : {A : Type 0} {P : A → Type 0} (b : Bool) (x y : Result A ExpandFault) → (b ≡ true → OnValue P x) → (b ≡ false → OnValue P y) → OnValue P (cond b x y)
if_value true x y t f = t refl
if_value false x y t f = f refl

weaker : {A : Type 0} {P Q : A → Type 0} (r : Result A ExpandFault) → OnValue P r → ((x : A) → P x → Q x) → OnValue Q r
weaker _ (value {x = x} h) k = value (k x h)
weaker _ fault k = fault

leb-less : (a b : ℕ) → leb a b ≡ false → b < a
leb-less a b e = leb-false a b e

changed_keeps : (place : Place) (names : List (List ℕ)) (count : ℕ) (rest : List Pending) (r : Filled) → OnValue (λ (c : Change). count ≤ c.count) (changed place names count rest r)
changed_keeps place names count rest (Ok ts) = value (omega arith)
changed_keeps place names count rest (Err e) = fault

-- no count falls
abbrev pub Rises : (Place → ℕ → List PpTok → Outcome) → Type 0
Rises inner = (place : Place) (count : ℕ) (ts : List PpTok) → OnValue (λ x. count ≤ x.1) (inner place count ts)

abbrev pub Climbs : (ℕ → List Pending → Outcome) → Type 0
Climbs again = (count : ℕ) (ts : List Pending) → OnValue (λ x. count ≤ x.1) (again count ts)

module _ (inner : Place → ℕ → List PpTok → Outcome) (rises : Rises inner) where
  one_rises : (place : Place) (count : ℕ) (wanted : Bool) (a : List PpTok) → OnValue (λ x. count ≤ x.1) (one_of inner place count wanted a)
  one_rises place count true a = rises place count a
  one_rises place count false a = value (omega arith)

  each_rises : (place : Place) (body : List Piece) (at count : ℕ) (args : List (List PpTok)) → OnValue (λ x. count ≤ x.1) (each inner place body at count args)
  unfolding each
  each_rises place body at count [] = value (omega arith)
  each_rises place body at count (a ∷ more) =
      bind_value (one_of inner place count (wants at body) a) _ (one_rises place count (wants at body) a) λ x up.
      bind_value (each inner place body (at + 1) x.1 more) _ (each_rises place body (at + 1) x.1 more) λ xs higher. value (omega arith)

  called_rises : (count : ℕ) (t : Pending) (body : List Piece) (c : Taken) → OnValue (λ (c : Change). count ≤ c.count) (called inner count t body c)
  called_rises count t body c =
      bind_value (each inner (began t) body 0 count c.args) _ (each_rises (began t) body 0 count c.args) λ x up.
      weaker _ (changed_keeps (began t) _ x.1 c.after (filled c.args x.0 (began t) body)) (λ d same. omega arith)

  taken_rises : (count : ℕ) (t : Pending) (params : List (List ℕ)) (body : List PpTok) (o : Option Taken) → OnValue (λ (c : Change). count ≤ c.count) (if_taken inner count t params body o)
  taken_rises count t params body None = fault
  taken_rises count t params body (Some c) = if_value (counts params c.args) _ _ (λ _. called_rises count t (pieces params None false body) c) (λ _. fault)

  by_params_rises : (count : ℕ) (t : Pending) (body : List PpTok) (ts : List Pending) (o : Option (List (List ℕ))) → OnValue (λ (c : Change). count ≤ c.count) (by_params inner count t body ts o)
  by_params_rises count t body ts None = changed_keeps (began t) _ count ts (filled [] [] (began t) (pieces [] None false body))
  by_params_rises count t body ts (Some params) = taken_rises count t params body (call_at (tail_of ts) 0 [] [])

  pub change_rises : (count : ℕ) (t : Pending) (m : Macro) (ts : List Pending) → OnValue (λ (c : Change). (count < c.count) × (count < limit)) (change inner count t m ts)
  unfolding change
  change_rises count t m ts =
      if_value (leb limit count) _ _ (λ _. fault) (λ less. weaker (by_params inner (count + 1) t m.body ts m.params) (by_params_rises (count + 1) t m.body ts m.params) (λ c up. (omega arith, leb-less limit count less)))

bind_same : {A B : Type 0} {P : A → Type 0} (r : Result A ExpandFault) (f g : A → Result B ExpandFault) → OnValue P r → ((x : A) → P x → f x ≡ g x) → (r >>= f) ≡ (r >>= g)
bind_same _ f g (value {x = x} h) same = same x h
bind_same _ f g fault same = refl

module _ (table : List Entry) (names : List (List ℕ)) (inner : Place → ℕ → List PpTok → Outcome) (rises : Rises inner) where
  module _ (again again' : ℕ → List Pending → Outcome) (count : ℕ) (same : (later : ℕ) (ts : List Pending) → count < later → count < limit → again later ts ≡ again' later ts) where
    replaced_same : (t : Pending) (ts : List Pending) (stays stays' : Outcome) (o : Option Macro) → stays ≡ stays' → replaced table names inner again count t ts stays o ≡ replaced table names inner again' count t ts stays' o
    replaced_same t ts stays stays' None e = e
    replaced_same t ts stays stays' (Some m) e = bind_same (change inner count t m ts) _ _ (change_rises inner rises count t m ts) λ c up. same c.count _ up.0 up.1

    pass_same : (ts : List Pending) → pass table names inner again count ts ≡ pass table names inner again' count ts
    unfolding pass
    pass_same [] = refl
    pass_same (t ∷ ts) = replaced_same t ts _ _ (due table names t ts) (ap (with_front (t.token ∷ [])) (pass_same ts))

  pub walk_same : (n k count : ℕ) (ts : List Pending) → limit ≤ n + count → limit ≤ k + count → walk table names inner n count ts ≡ walk table names inner k count ts
  unfolding walk
  walk_same zero zero count ts some more = refl
  walk_same zero (suc k) count ts some more = pass_same _ (walk table names inner k) count (λ later ts up less. absurd (omega arith)) ts
  walk_same (suc n) zero count ts some more = pass_same (walk table names inner n) _ count (λ later ts up less. absurd (omega arith)) ts
  walk_same (suc n) (suc k) count ts some more = pass_same (walk table names inner n) (walk table names inner k) count (λ later ts up _. walk_same n k later ts (omega arith) (omega arith)) ts

  stay_rises : (t : PpTok) (count : ℕ) (r : Outcome) → OnValue (λ x. count ≤ x.1) r → OnValue (λ (x : List PpTok × ℕ). count ≤ x.1) (with_front (t ∷ []) r)
  stay_rises t count _ (value h) = value h
  stay_rises t count _ fault = fault

  module _ (again : ℕ → List Pending → Outcome) (later_rises : Climbs again) where
    replaced_rises : (count : ℕ) (t : Pending) (ts : List Pending) (stays : Outcome) (o : Option Macro) → OnValue (λ x. count ≤ x.1) stays → OnValue (λ x. count ≤ x.1) (replaced table names inner again count t ts stays o)
    replaced_rises count t ts stays None h = h
    replaced_rises count t ts stays (Some m) h =
        bind_value (change inner count t m ts) _ (change_rises inner rises count t m ts) λ c up. weaker (again c.count (c.tokens ++ c.rest)) (later_rises c.count (c.tokens ++ c.rest)) (λ x higher. omega arith)

    pass_rises : Climbs (pass table names inner again)
    unfolding pass
    pass_rises count [] = value (omega arith)
    pass_rises count (t ∷ ts) = replaced_rises count t ts _ (due table names t ts) (stay_rises t.token count _ (pass_rises count ts))

  walk_rises : (n : ℕ) → Climbs (walk table names inner n)
  unfolding walk
  walk_rises zero = pass_rises _ (λ _ _. fault)
  walk_rises (suc n) = pass_rises (walk table names inner n) (walk_rises n)

pub expand_rises : (table : List Entry) (names : List (List ℕ)) (depth : ℕ) → Rises (expand_in table names depth)
unfolding expand_in
expand_rises table names zero place count ts = fault
expand_rises table names (suc depth) place count ts = walk_rises table names (expand_in table names depth) (expand_rises table names depth) (limit - count) count (within (Some place) ts)

-- ---- one step of the code

module _ (old new : List Pending) where
  pub taken_next : (o : Option Pending) (t : Pending) → MatchOption o ((old ≡ []) × (new ≡ [])) (λ t. old ≡ t ∷ new) → o ≡ Some t → old ≡ t ∷ new
  taken_next o t h is = subst (λ (o : Option Pending). MatchOption o ((old ≡ []) × (new ≡ [])) (λ t. old ≡ t ∷ new)) is h

  pub taken_none : (o : Option Pending) → MatchOption o ((old ≡ []) × (new ≡ [])) (λ t. old ≡ t ∷ new) → o ≡ None → old ≡ []
  taken_none o h is = (subst (λ (o : Option Pending). MatchOption o ((old ≡ []) × (new ≡ [])) (λ t. old ≡ t ∷ new)) is h).0

fronts : (xs ys : List PpTok) (r : Outcome) → with_front xs (with_front ys r) ≡ with_front (xs ++ ys) r
fronts xs ys (Ok p) = ap (λ (ts : List PpTok). Ok (ts, p.1)) (sym (append_assoc xs ys p.0))
fronts xs ys (Err e) = refl

pub plain : (r : Outcome) → r ≡ with_front [] r
plain (Ok p) = refl
plain (Err e) = refl

module _ (table : List Entry) (names : List (List ℕ)) where
  module _ (inner : Place → ℕ → List PpTok → Outcome) where
    -- a walk is a pass, and reads results again with fewer turns
    again_of : (n : ℕ) → (again : ℕ → List Pending → Outcome) × (walk table names inner n ≡ pass table names inner again)
    unfolding walk
    again_of zero = (_, refl)
    again_of (suc n) = (_, refl)

  module _ (inner : Place → ℕ → List PpTok → Outcome) (again : ℕ → List Pending → Outcome) (count : ℕ) (t : Pending) (ts : List Pending) (out : List PpTok) where
    pub stays_due : due table names t ts ≡ None → with_front out (pass table names inner again count (t ∷ ts)) ≡ with_front (out ++ t.token ∷ []) (pass table names inner again count ts)
    unfolding pass
    stays_due is = rw is (fronts out (t.token ∷ []) (pass table names inner again count ts))

    pub found_due : (m : Macro) → due table names t ts ≡ Some m
        → with_front out (pass table names inner again count (t ∷ ts)) ≡ with_front out (change inner count t m ts >>= λ c. again c.count (c.tokens ++ c.rest))
    unfolding pass
    found_due m is = rw is refl

  pub ended_due : (inner : Place → ℕ → List PpTok → Outcome) (again : ℕ → List Pending → Outcome) (count : ℕ) (out : List PpTok) → with_front out (pass table names inner again count []) ≡ Ok (out, count)
  unfolding pass
  ended_due inner again count out = ap (λ (ts : List PpTok). Ok (ts, count)) (append-nil out)

  module _ (depth : ℕ) (old : List Pending) (out : List PpTok) (new : List Pending) (after : List PpTok) (o : Option (Pending × Found)) (moves : Moves table names old out (Ok o) new after) (total : Outcome) (count : ℕ)
      (so_far : total ≡ with_front out (walk table names (expand_in table names depth) (limit - count) count old)) where
    moved : (t : Pending) (f : Found) → o ≡ Some (t, f) → (n : ℕ) → limit - count ≡ suc n
        → total ≡ with_front after (change (expand_in table names depth) count t (macro_of f) new >>= λ c. walk table names (expand_in table names depth) n c.count (c.tokens ++ c.rest))
    unfolding walk
    moved t f is n turns =
        let h : Moves table names old out (Ok (Some (t, f))) new after = subst (λ (o : Option (Pending × Found)). Moves table names old out (Ok o) new after) is moves in
        so_far ∙ rw turns (h (expand_in table names depth) (walk table names (expand_in table names depth) n) count)

    pub turned : (t : Pending) (f : Found) → o ≡ Some (t, f) → (tokens rest : List Pending) (later : ℕ) → count < later → count < limit
        → change (expand_in table names depth) count t (macro_of f) new ≡ Ok (record { tokens = tokens; count = later; rest = rest })
        → total ≡ with_front after (walk table names (expand_in table names depth) (limit - later) later (tokens ++ rest))
    turned t f is tokens rest later up less changed =
        let step = moved t f is (limit - count - 1) (omega arith) in
        step ∙ rw changed (ap (with_front after) (walk_same table names (expand_in table names depth) (expand_rises table names depth) (limit - count - 1) (limit - later) later (tokens ++ rest) (omega arith) (omega arith)))

    pub halted : (t : Pending) (f : Found) → o ≡ Some (t, f) → (e : ExpandFault) → change (expand_in table names depth) count t (macro_of f) new ≡ Err e → total ≡ Err e
    halted t f is e changed =
        let h : Moves table names old out (Ok (Some (t, f))) new after = subst (λ (o : Option (Pending × Found)). Moves table names old out (Ok o) new after) is moves in
        let a = again_of (expand_in table names depth) (limit - count) in
        so_far ∙ rw a.1 (h (expand_in table names depth) a.0 count ∙ rw changed refl)

    pub finished : o ≡ None → total ≡ Ok (after, count)
    finished is =
        let h : Moves table names old out (Ok None) new after = subst (λ (o : Option (Pending × Found)). Moves table names old out (Ok o) new after) is moves in
        let a = again_of (expand_in table names depth) (limit - count) in
        so_far ∙ rw a.1 (h (expand_in table names depth) a.0 count)

pub deeper : {X : Type 0} (f : ℕ → X) (n : ℕ) → 0 < n → f n ≡ f (suc (n - 1))
deeper f n some = let e : n ≡ suc (n - 1) = omega arith in ap f e
