-- What a reading gives: what was taken is as it says, or what was seen can be ended.
use Rattle.std.proofs.Common.{◌≡◌, ℕ, zero, suc, ◌<◌, Bool, true, false, cond, List, [], ◌∷◌, ◌++◌, length, Option, Some, None, Ok, Err, refl, sym, ap, subst, ◌∙◌, arith, append_assoc, length-append}
use Rattle.std.proofs.lemmas.List.{append-nil}
use Rattle.c_tok.specs.declared.mark.Mark.{Mark}
use Rattle.c_tok.specs.declared.mark.Mark.TheVariants as m
use Rattle.c_tok.specs.declared.token.CTokKind.{CTokKind}
use Rattle.c_tok.specs.declared.token.CTokKind.TheVariants as c
use Rattle.c_tree.specs.declared.at.At.{At}
use Rattle.c_tree.specs.declared.height.Heights.{Heights}
use Rattle.c_tree.specs.declared.height.Tall.{Tall}
use Rattle.c_tree.specs.Heights.{is_below}
use Rattle.c_decl.specs.declared.fault.Halt.{Halt}
use Rattle.c_decl.specs.declared.fault.Halt.TheVariants.{Syntax}
use Rattle.c_decl.specs.declared.kind.Mode.{Mode}
use Rattle.c_decl.specs.Tokens.{Token, tok, mark, name, ending, head_of, at_of, nowhere}
use Rattle.c_decl.specs.State.{State}
use Rattle.c_decl.specs.Grammar.{Phrase, Tree, Derives}
use Rattle.c_decl.specs.Input.{Input, Outcome, Parser, and_then, left, next, here, after, head, sees, refusal, expect, a_name, turns, looped}
use Rattle.c_decl.specs.Entries.{fits}
use Rattle.c_decl.proofs.Runs.{at, Meets, fine, refused, weaker, if_meets, sees_is, Needs, looped_meets}

-- what a value says about the tokens that it was read from, and what follows them
abbrev pub Says : Type 0 → Type 1
Says A = A → List Token → Input → Type 0

-- a tree of a phrase
abbrev pub Of : (mode : Mode) (p : Phrase) → State → Says (Tall (Tree p))
Of mode p S x ts k = Derives mode p S x.height ts x.tree k.state

-- ts were taken before j, and the reading goes on to k
pub record Took {A : Type 0} (D : Says A) (ts : List Token) (j : Input) (a : A) (k : Input) : Type 0 where
  pub text : List Token
  pub parts : j.rest ≡ text ++ k.rest
  pub derives : D a (ts ++ text) k

pub record Can {A : Type 0} (D : Says A) (ts : List Token) : Type 0 where
  pub tree : A
  pub behind : State
  pub derives : D tree ts (at [] behind)

-- ts can be ended
pub record Open {A : Type 0} (D : Says A) (ts : List Token) : Type 0 where
  pub closing : List Token
  pub can : Can D (ts ++ closing)

-- ts were taken before j, and what was seen behind them can be ended
pub record Halts {A : Type 0} (D : Says A) (ts : List Token) (j : Input) (error : Halt) : Type 0 where
  pub seen : List Token
  pub more : List Token
  pub ending : List Token
  pub parts : j.rest ≡ seen ++ more
  pub place : error ≡ Syntax (length more)
  pub can : Can D (ts ++ (seen ++ ending))

abbrev pub Goes : {A : Type 0} → Says A → List Token → Input → Outcome A → Type 0
Goes D ts j o = Meets (Took D ts j) (Halts D ts j) o

-- and less is left
abbrev pub Moves : {A : Type 0} → Says A → List Token → Input → Outcome A → Type 0
Moves D ts j o = Meets (λ x k. Took D ts j x k × (left k < left j)) (Halts D ts j) o

abbrev pub Reads : (mode : Mode) (p : Phrase) → Input → Outcome (Tall (Tree p)) → Type 0
Reads mode p i o = Goes (Of mode p i.state) [] i o

none_at_end : {A : Type 0} (more : A → Input → Bool) → Needs more → (x : A) (S : State) → more x (at [] S) ≡ false
unfolding left
none_at_end more needs x S = by (more x (at [] S)) refl where
  by : (b : Bool) → more x (at [] S) ≡ b → b ≡ false
  by true on = absurd (let some : 0 < left (at [] S) = needs x (at [] S) on in omega arith)
  by false off = refl

no_rest : (text rest : List Token) → [] ≡ text ++ rest → rest ≡ []
no_rest [] rest e = sym e
no_rest (t ∷ text) rest e = absurd cc

module _ {A : Type 0} {D : Says A} where
  move : {ts us : List Token} → ts ≡ us → Can D ts → Can D us
  move same can_ = let C : List Token → Type 0 = λ us. Can D us in subst C same can_

  pub can : {ts us : List Token} (x : A) (T : State) → D x ts (at [] T) → ts ≡ us → Can D us
  can x T d same = move same (record { tree = x; behind = T; derives = d })

  -- what was taken is derived, and nothing more is taken
  pub done : {ts us : List Token} {x : A} {k : Input} → D x us k → us ≡ ts → Goes D ts k (Ok (x, k))
  done {ts = ts} {x = x} {k = k} d same =
      let C : List Token → Type 0 = λ us. D x us k in fine (record {
        text = [];
        parts = refl;
        derives = subst C (same ∙ sym (append-nil ts)) d;
      })

  -- what is known changes
  pub knowing : {ts : List Token} {j k : Input} {o : Outcome A} → j.rest ≡ k.rest → Goes D ts k o → Goes D ts j o
  knowing same m = weaker m
      (λ e h. record { seen = h.seen; more = h.more; ending = h.ending; parts = same ∙ h.parts; place = h.place; can = h.can })
      (λ x l t. record { text = t.text; parts = same ∙ t.parts; derives = t.derives })

  pub opened : {ts : List Token} (us : List Token) → Can D (ts ++ us) → Open D ts
  opened us c = record { closing = us; can = c }

  -- what goes on where nothing is left can be ended
  pub open_ : {ts : List Token} {S : State} {o : Outcome A} → Goes D ts (at [] S) o → Open D ts
  open_ {ts = ts} (fine {a = x} {i = k} t) =
      let C : List Token → Type 0 = λ r. D x (ts ++ t.text) (at r k.state) in
      opened t.text (record { tree = x; behind = k.state; derives = subst C (no_rest t.text k.rest t.parts) t.derives })
  open_ (refused h) = opened (h.seen ++ h.ending) h.can

  -- what stands before a closing is closed with it
  pub shut : {ts : List Token} (us : List Token) → Open D (ts ++ us) → Open D ts
  shut {ts = ts} us o = opened (us ++ o.closing) (move (append_assoc ts us o.closing) o.can)

  pub closed : {ts : List Token} (x : A) (T : State) → D x ts (at [] T) → Open D ts
  closed {ts = ts} x T d = opened [] (move (sym (append-nil ts)) (record { tree = x; behind = T; derives = d }))

  pub halts : {ts : List Token} {j : Input} → Open D ts → Halts D ts j (refusal j)
  unfolding refusal left
  halts {j = j} o = record { seen = []; more = j.rest; ending = o.closing; parts = refl; place = refl; can = o.can }

  pub refuses : {ts : List Token} {j : Input} → Open D ts → Goes D ts j (Err (refusal j))
  refuses o = refused (halts o)

  took_behind : {ts : List Token} {j k : Input} (us : List Token) → j.rest ≡ us ++ k.rest → (x : A) (l : Input) → Took D (ts ++ us) k x l
      → Took D ts j x l
  took_behind {ts = ts} us is x l t = let C : List Token → Type 0 = λ z. D x z l in record {
    text = us ++ t.text;
    parts = is ∙ ap (λ (z : List Token). us ++ z) t.parts ∙ sym (append_assoc us t.text l.rest);
    derives = subst C (append_assoc ts us t.text) t.derives;
  }

  halts_behind : {ts : List Token} {j k : Input} (us : List Token) → j.rest ≡ us ++ k.rest → (e : Halt) → Halts D (ts ++ us) k e
      → Halts D ts j e
  halts_behind us is e h = record {
    seen = us ++ h.seen;
    more = h.more;
    ending = h.ending;
    place = h.place;
    parts = is ∙ ap (λ (z : List Token). us ++ z) h.parts ∙ sym (append_assoc us h.seen h.more);
    can = move (simp append_assoc) h.can;
  }

  -- us come next
  pub behind : {ts : List Token} {j k : Input} {o : Outcome A} (us : List Token) → j.rest ≡ us ++ k.rest → Goes D (ts ++ us) k o
      → Goes D ts j o
  behind us is m = weaker m (halts_behind us is) (took_behind us is)

  -- one token is taken
  pub token : {ts : List Token} {o : CTokKind} {a : At} {rest : List Token} {S : State} {r : Outcome A}
      → Goes D (ts ++ (tok o a ∷ [])) (at rest S) r → Goes D ts (at (tok o a ∷ rest) S) r
  token {o = o} {a = a} m = behind (tok o a ∷ []) refl m

  -- a mark that comes next is taken
  pub here_skip : {ts : List Token} {j : Input} (m : Mark) (q : At → Parser A) → sees m j ≡ true
      → ((a : At) (more : List Token) → Goes D (ts ++ mark a m) (at more j.state) (q a (at more j.state)))
      → Goes D ts j (q (here j) (next j))
  unfolding next here
  here_skip {ts = ts} {j = j} m q on go =
      let n = sees_is m j on in
      let G : List Token → Type 0 = λ r. Goes D ts j (q (at_of r) (next (at r j.state))) in
      subst G (sym n.is) (behind {k = at n.more j.state} (mark n.place m) n.is (go n.place n.more))

  pub skip_mark : {ts : List Token} {j : Input} (m : Mark) (q : Parser A) → sees m j ≡ true
      → ((a : At) (more : List Token) → Goes D (ts ++ mark a m) (at more j.state) (q (at more j.state))) → Goes D ts j (q (next j))
  skip_mark m q on go = here_skip m (λ _. q) on go

  marks_by : {ts : List Token} {j : Input} (m : Mark) (f : At → Unit {0} → Parser A) (b : Bool) → sees m j ≡ b
      → ((a : At) (more : List Token) → Goes D (ts ++ mark a m) (at more j.state) (f a tt (at more j.state)))
      → Goes D ts j (and_then (cond b (Ok (tt {0}, next j)) (Err (refusal j))) (f (here j)))
  marks_by m f true on go = here_skip m (λ a. f a tt) on go
  marks_by {j = j} m f false off go = refuses (shut (mark (here j) m) (open_ (go (here j) [])))

  -- the mark is expected
  pub here_mark_then : {ts : List Token} {j : Input} (m : Mark) (f : At → Unit {0} → Parser A)
      → ((a : At) (more : List Token) → Goes D (ts ++ mark a m) (at more j.state) (f a tt (at more j.state)))
      → Goes D ts j (and_then (expect m j) (f (here j)))
  unfolding expect
  here_mark_then {j = j} m f go = marks_by m f (sees m j) refl go

  pub mark_then : {ts : List Token} {j : Input} (m : Mark) (f : Unit {0} → Parser A)
      → ((a : At) (more : List Token) → Goes D (ts ++ mark a m) (at more j.state) (f tt (at more j.state)))
      → Goes D ts j (and_then (expect m j) f)
  mark_then m f go = here_mark_then m (λ _. f) go

  eats_by : {ts : List Token} {j : Input} (m : Mark) (f : At → Bool → Parser A) (b : Bool) → sees m j ≡ b
      → ((a : At) (more : List Token) → sees m j ≡ true → Goes D (ts ++ mark a m) (at more j.state) (f a true (at more j.state)))
      → (sees m j ≡ false → Goes D ts j (f (here j) false j)) → Goes D ts j (f (here j) b (cond b (next j) j))
  eats_by m f true on go else_ = here_skip m (λ a. f a true) on (λ a more. go a more on)
  eats_by m f false off go else_ = else_ off

  -- the mark may come
  pub here_eat_then : {ts : List Token} {j : Input} (m : Mark) (f : At → Bool → Parser A)
      → ((a : At) (more : List Token) → Goes D (ts ++ mark a m) (at more j.state) (f a true (at more j.state)))
      → (sees m j ≡ false → Goes D ts j (f (here j) false j)) → Goes D ts j (f (here j) (sees m j) (after m j))
  unfolding after
  here_eat_then {j = j} m f go else_ = eats_by m f (sees m j) refl (λ a more _. go a more) else_

  pub eat_on_then : {ts : List Token} {j : Input} (m : Mark) (f : Bool → Parser A)
      → ((a : At) (more : List Token) → sees m j ≡ true → Goes D (ts ++ mark a m) (at more j.state) (f true (at more j.state)))
      → (sees m j ≡ false → Goes D ts j (f false j)) → Goes D ts j (f (sees m j) (after m j))
  unfolding after
  eat_on_then {j = j} m f go else_ = eats_by m (λ _. f) (sees m j) refl go else_

  pub eat_then : {ts : List Token} {j : Input} (m : Mark) (f : Bool → Parser A)
      → ((a : At) (more : List Token) → Goes D (ts ++ mark a m) (at more j.state) (f true (at more j.state)))
      → (sees m j ≡ false → Goes D ts j (f false j)) → Goes D ts j (f (sees m j) (after m j))
  eat_then m f go else_ = here_eat_then m (λ _. f) go else_

  -- a comma may end a list
  pub ending_then : {ts : List Token} {j : Input} (f : Bool → Parser A)
      → ((b : Bool) (a : At) (more : List Token) → Goes D (ts ++ ending b a) (at more j.state) (f b (at more j.state)))
      → Goes D ts j (f (sees m.Comma j) (after m.Comma j))
  ending_then {ts = ts} {j = j} f go =
      eat_then m.Comma f (λ a more. go true a more) (λ _. let G : List Token → Type 0 = λ z. Goes D z j (f false j) in
      subst G (append-nil ts) (go false nowhere j.rest))

  -- what comes next decides
  pub by_token : {ts : List Token} {j : Input} (f : At → Option CTokKind → Parser A)
      → Goes D ts (at [] j.state) (f nowhere None (at [] j.state))
      → ((o : CTokKind) (a : At) (rest : List Token) → Goes D ts (at (tok o a ∷ rest) j.state)
      (f a (Some o) (at (tok o a ∷ rest) j.state)))
      → Goes D ts j (f (here j) (head j) j)
  unfolding here head
  by_token {ts = ts} {j = j} f none_ some_ = by_rest j.rest where
    by_rest : (rest : List Token) → Goes D ts (at rest j.state) (f (at_of rest) (head_of rest) (at rest j.state))
    by_rest [] = none_
    by_rest (t ∷ rest) = some_ t.kind t.at rest

  named_by : {ts : List Token} (f : List ℕ → Parser A) (o : CTokKind) (a : At) (rest : List Token) (S : State)
      → ((n : List ℕ) (more : List Token) → Goes D (ts ++ name a n) (at more S) (f n (at more S)))
      → Goes D ts (at (tok o a ∷ rest) S) (and_then (a_name (Some o) (at (tok o a ∷ rest) S)) f)
  unfolding next
  named_by f (c.Ident n) a rest S go = token (go n rest)
  named_by f o a rest S go = refuses (shut (name a []) (open_ (go [] [])))

  -- a name is expected here
  pub here_name_then : {ts : List Token} {j : Input} (f : At → List ℕ → Parser A)
      → ((a : At) (n : List ℕ) (more : List Token) → Goes D (ts ++ name a n) (at more j.state) (f a n (at more j.state)))
      → Goes D ts j (and_then (a_name (head j) j) (f (here j)))
  unfolding head here
  here_name_then {ts = ts} {j = j} f go = by_rest j.rest where
    by_rest : (rest : List Token) → Goes D ts (at rest j.state) (and_then (a_name (head_of rest) (at rest j.state)) (f (at_of rest)))
    by_rest [] = refuses (shut (name nowhere []) (open_ (go nowhere [] [])))
    by_rest (t ∷ rest) = named_by (f t.at) t.kind t.at rest j.state (go t.at)

  -- a name is expected
  pub name_then : {ts : List Token} {j : Input} (f : List ℕ → Parser A)
      → ((a : At) (n : List ℕ) (more : List Token) → Goes D (ts ++ name a n) (at more j.state) (f n (at more j.state)))
      → Goes D ts j (and_then (a_name (head j) j) f)
  name_then f go = here_name_then (λ _. f) go

  -- parsers in a row
  pub in_row : {B C : Type 0} {ts : List Token} {j : Input} (r : Outcome B) (f : B → Parser C) (h : C → Parser A)
      → Goes D ts j (and_then r (λ x k. and_then (f x k) h)) → Goes D ts j (and_then (and_then r f) h)
  in_row (Ok p) f h go = go
  in_row (Err e) f h go = go

  fits_by : {ts : List Token} {j : Input} (f : Unit {0} → Parser A) (b : Bool)
      → ((rest : List Token) → Goes D ts (at rest j.state) (f tt (at rest j.state)))
      → Goes D ts j (and_then (cond b (Ok (tt {0}, j)) (Err (refusal j))) f)
  fits_by {j = j} f true go = go j.rest
  fits_by f false go = refuses (open_ (go []))

  -- what fits goes on at the same place
  pub fits_then : {ts : List Token} {j : Input} (room h : Heights) (f : Unit {0} → Parser A)
      → ((rest : List Token) → Goes D ts (at rest j.state) (f tt (at rest j.state))) → Goes D ts j (and_then (fits room h j) f)
  unfolding fits
  fits_then room h f go = fits_by f (is_below h room) go

  -- a test decides
  pub choose : {ts : List Token} {j : Input} (b : Bool) (p q : Parser A) → (b ≡ true → Goes D ts j (p j))
      → (b ≡ false → Goes D ts j (q j)) → Goes D ts j (cond b p q j)
  choose true p q t f = t refl
  choose false p q t f = f refl

  -- ---- loops

  turns_go : {more : A → Input → Bool} {step : A → Parser A}
      → ((x : A) (j : Input) (us : List Token) → more x j ≡ true → D x us j → Goes D us j (step x j))
      → (n : ℕ) (x : A) (j : Input) (us : List Token) → D x us j → Goes D us j (turns more step n x j)
  unfolding turns
  turns_go steps zero x j us d = done d refl
  turns_go {more = more} {step = step} steps (suc n) x j us d = if_meets (more x j)
      (λ on. turn (steps x j us on d) (λ y k vs e. turns_go steps n y k vs e))
      (λ _. done d refl) where
        turn : {r : Outcome A} → Goes D us j r → ((y : A) (k : Input) (vs : List Token) → D y vs k → Goes D vs k (turns more step n y k))
            → Goes D us j (and_then r (turns more step n))
        turn (fine {a = y} {i = k} t) go = behind t.text t.parts (go y k (us ++ t.text) t.derives)
        turn (refused h) go = refused h

  pub loop : {more : A → Input → Bool} {step : A → Parser A}
      → ((x : A) (j : Input) (us : List Token) → more x j ≡ true → D x us j → Goes D us j (step x j))
      → (x : A) (j : Input) (us : List Token) → D x us j → Goes D us j (looped more step x j)
  unfolding looped
  loop steps x j us d = turns_go steps (left j) x j us d

  -- a token is taken, so less is left
  pub moves : {ts : List Token} {o : CTokKind} {a : At} {rest : List Token} {S : State} {r : Outcome A}
      → Goes D (ts ++ (tok o a ∷ [])) (at rest S) r → Moves D ts (at (tok o a ∷ rest) S) r
  unfolding left
  moves {o = o} {a = a} m = weaker m (halts_behind (tok o a ∷ []) refl)
      (λ x k t. (took_behind (tok o a ∷ []) refl x k t, let l = ap length t.parts in omega (arith, simp length-append at l)))

module _ {A : Type 0} {D E : Says A} where
  pub loop_to : (more : A → Input → Bool) → Needs more → (step : A → Parser A)
      → ((x : A) (j : Input) (us : List Token) → more x j ≡ true → D x us j → Moves D us j (step x j))
      → ((x : A) (us : List Token) (k : Input) → D x us k → more x k ≡ false → E x us k)
      → (x : A) (j : Input) (us : List Token) → D x us j → Goes E us j (looped more step x j)
  loop_to more needs step steps stop x j us d =
      weaker (looped_meets more needs step (λ y k. Took D us j y k) (Halts D us j) turn x j (at_start d))
      (λ e h. record {
        seen = h.seen;
        more = h.more;
        ending = h.ending;
        parts = h.parts;
        place = h.place;
        can = record {
          tree = h.can.tree;
          behind = h.can.behind;
          derives = stop h.can.tree _ _ h.can.derives (none_at_end more needs h.can.tree h.can.behind);
        };
      })
      (λ y k t. record { text = t.0.text; parts = t.0.parts; derives = stop y _ k t.0.derives t.1 }) where
        at_start : {x : A} {j : Input} {us : List Token} → D x us j → Took D us j x j
        at_start {x = x} {j = j} {us = us} d = let C : List Token → Type 0 = λ z. D x z j in
            record { text = []; parts = refl; derives = subst C (sym (append-nil us)) d }

        turn : (y : A) (k : Input) → more y k ≡ true → Took D us j y k
            → Meets (λ z l. Took D us j z l × (left l < left k)) (Halts D us j) (step y k)
        turn y k on t = weaker (steps y k (us ++ t.text) on t.derives) (halts_behind t.text t.parts)
            (λ z l s. (took_behind t.text t.parts z l s.0, s.1))

  pub as_ : {ts : List Token} {j : Input} {o : Outcome A} → ((x : A) (us : List Token) (k : Input) → D x us k → E x us k) → Goes D ts j o
      → Goes E ts j o
  as_ {ts = ts} up m = weaker m
      (λ e h. record {
        seen = h.seen;
        more = h.more;
        ending = h.ending;
        parts = h.parts;
        place = h.place;
        can = record { tree = h.can.tree; behind = h.can.behind; derives = up h.can.tree _ _ h.can.derives };
      })
      (λ x k t. record { text = t.text; parts = t.parts; derives = up x _ k t.derives })

module _ {A B : Type 0} {D : Says A} {E : Says B} where
  -- a part; what is refused in it is ended by `finish`
  pub then_by : {ts : List Token} {j : Input} {r : Outcome A} {f : A → Parser B} → Goes D [] j r
      → ((seen more ending : List Token) (x : A) (T : State) → j.rest ≡ seen ++ more → D x (seen ++ ending) (at [] T)
      → Open E (ts ++ seen))
      → ((x : A) (k : Input) (us : List Token) → j.rest ≡ us ++ k.rest → D x us k → Goes E (ts ++ us) k (f x k))
      → Goes E ts j (and_then r f)
  then_by {ts = ts} (fine {a = x} {i = k} t) finish go = behind t.text t.parts (go x k t.text t.parts t.derives)
  then_by {ts = ts} (refused h) finish go =
      let o = finish h.seen h.more h.ending h.can.tree h.can.behind h.parts h.can.derives in
      refused (record {
        seen = h.seen;
        more = h.more;
        ending = o.closing;
        parts = h.parts;
        place = h.place;
        can = move (append_assoc ts h.seen o.closing) o.can;
      })

  -- a part; what goes on behind each goes on behind what ends one that is refused
  pub then_ : {ts : List Token} {j : Input} {r : Outcome A} {f : A → Parser B} → Goes D [] j r
      → ((x : A) (k : Input) (us : List Token) → D x us k → Goes E (ts ++ us) k (f x k)) → Goes E ts j (and_then r f)
  then_ {ts = ts} m go = then_by m
      (λ seen more ending x T _ d. let o = open_ (go x (at [] T) (seen ++ ending) d) in
      opened (ending ++ o.closing) (move (simp append_assoc) o.can))
      (λ x k us _ d. go x k us d)

  -- what was begun before goes on
  pub then_on : (ts : List Token) {us : List Token} {j : Input} {r : Outcome A} {f : A → Parser B} → Goes D us j r
      → ((x : A) (k : Input) (vs : List Token) → D x vs k → Goes E (ts ++ vs) k (f x k)) → Goes E (ts ++ us) j (and_then r f)
  then_on ts {us = us} {f = f} (fine {a = x} {i = k} t) go =
      let G : List Token → Type 0 = λ z. Goes E z k (f x k) in
      behind t.text t.parts (subst G (sym (append_assoc ts us t.text)) (go x k (us ++ t.text) t.derives))
  then_on ts {us = us} (refused h) go =
      let o = open_ (go h.can.tree (at [] h.can.behind) (us ++ (h.seen ++ h.ending)) h.can.derives) in
      refused (record {
        seen = h.seen;
        more = h.more;
        ending = h.ending ++ o.closing;
        parts = h.parts;
        place = h.place;
        can = move (simp append_assoc) o.can;
      })

  -- a part that takes a token, so less is left
  pub then_moves : {ts : List Token} {j : Input} {r : Outcome A} {f : A → Parser B} → Goes D [] j r
      → ((x : A) (us : List Token) (k : Input) → D x us k → 0 < length us)
      → ((x : A) (k : Input) (us : List Token) → D x us k → Goes E (ts ++ us) k (f x k)) → Moves E ts j (and_then r f)
  unfolding left
  then_moves {ts = ts} {j = j} (fine {a = x} {i = k} t) some go = weaker (go x k t.text t.derives) (halts_behind t.text t.parts)
      (λ y l s. (
        took_behind t.text t.parts y l s,
        let a = ap length t.parts in let b = ap length s.parts in let c : 0 < length t.text = some x t.text k t.derives in
            omega (arith, simp length-append at a, simp length-append at b),
      ))
  then_moves {ts = ts} (refused h) some go =
      let o = open_ (go h.can.tree (at [] h.can.behind) (h.seen ++ h.ending) h.can.derives) in
      refused (record {
        seen = h.seen;
        more = h.more;
        ending = h.ending ++ o.closing;
        parts = h.parts;
        place = h.place;
        can = move (simp append_assoc) o.can;
      })
