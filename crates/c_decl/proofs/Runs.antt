-- What a parser's outcome meets, step by step.
use Rattle.std.proofs.Common.{◌≡◌, ℕ, zero, suc, ◌-◌, ◌<◌, ◌≤◌, Bool, true, false, cond, List, [], ◌∷◌, ◌++◌, length, Some, Ok, Err, refl, sym, subst, arith, rules}
use Rattle.c_tok.specs.declared.mark.Mark.{Mark}
use Rattle.c_tok.specs.contracts.mark.Mark.{the_type}
use Rattle.c_tok.specs.declared.token.CTokKind.{CTokKind}
use Rattle.c_tok.specs.declared.token.CTokKind.TheVariants as c
use Rattle.c_tree.specs.declared.at.At.{At}
use Rattle.c_decl.specs.declared.fault.Halt.{Halt}
use Rattle.c_decl.specs.declared.fault.Halt.TheVariants.{Syntax}
use denote.Enum.Bare.{same_true}
use Rattle.c_decl.specs.Tokens.{Token, tok, mark, same_mark}
use Rattle.c_decl.specs.State.{State}
use Rattle.c_decl.specs.Input.{Input, Outcome, Parser, and_then, left, next, after, head, sees, refusal, turns, looped, expect, is_mark}

abbrev pub at : List Token → State → Input
at rest state = record { rest = rest; state = state }

pub data Meets {A : Type 0} (P : A → Input → Type 0) (Q : Halt → Type 0) : Outcome A → Type 0 where
  fine : {a : A} {i : Input} → P a i → Meets P Q (Ok (a, i))
  refused : {e : Halt} → Q e → Meets P Q (Err e)

pub bind_meets : {A B : Type 0} {P : A → Input → Type 0} {Q Q' : Halt → Type 0} {P' : B → Input → Type 0} {r : Outcome A} {f : A
    → Parser B}
    → Meets P Q r → ((e : Halt) → Q e → Q' e) → ((a : A) (j : Input) → P a j → Meets P' Q' (f a j)) → Meets P' Q' (and_then r f)
bind_meets (fine {a = a} {i = i} h) q k = k a i h
bind_meets (refused {e = e} h) q k = refused (q e h)

pub weaker : {A : Type 0} {P P' : A → Input → Type 0} {Q Q' : Halt → Type 0} {r : Outcome A}
    → Meets P Q r → ((e : Halt) → Q e → Q' e) → ((a : A) (j : Input) → P a j → P' a j) → Meets P' Q' r
weaker (fine {a = a} {i = i} h) q k = fine (k a i h)
weaker (refused {e = e} h) q k = refused (q e h)

-- ---- a choice by a test
pub if_meets : {A : Type 0} {P : A → Input → Type 0} {Q : Halt → Type 0} (b : Bool) {x y : Outcome A}
    → (b ≡ true → Meets P Q x) → (b ≡ false → Meets P Q y) → Meets P Q (cond b x y)
if_meets true t f = t refl
if_meets false t f = f refl

-- ---- the next mark

pub same_mark_is : (a b : Mark) → same_mark a b ≡ true → a ≡ b
unfolding same_mark
same_mark_is a b e = same_true the_type (search rules) _ _ e

pub data Sight (m : Mark) : List Token → Bool → Type 0 where
  seen : (p : At) {rest : List Token} → Sight m (mark p m ++ rest) true
  other : {rest : List Token} → Sight m rest false

sight_mark : (m k : Mark) (p : At) (rest : List Token) (b : Bool) → same_mark k m ≡ b → Sight m (mark p k ++ rest) b
sight_mark m k p rest true e = subst (λ (x : Mark). Sight m (mark p x ++ rest) true) (sym (same_mark_is k m e)) (seen p)
sight_mark m k p rest false e = other

sight_kind : (m : Mark) (k : CTokKind) (p : At) (rest : List Token) → Sight m (tok k p ∷ rest) (is_mark m (Some k))
sight_kind m (c.Mark k) p rest = sight_mark m k p rest _ refl
sight_kind m (c.Ident n) p rest = other
sight_kind m (c.Constant v) p rest = other
sight_kind m (c.Text bytes) p rest = other

pub sight : (m : Mark) (rest : List Token) (state : State) → Sight m rest (sees m (at rest state))
unfolding sees head
sight m [] state = other
sight m (t ∷ rest) state = sight_kind m t.kind t.at rest

-- a mark that is seen comes next
pub record Next (m : Mark) (rest : List Token) : Type 0 where
  pub place : At
  pub more : List Token
  pub is : rest ≡ mark place m ++ more

seen_is : (m : Mark) (rest : List Token) (b : Bool) → Sight m rest b → b ≡ true → Next m rest
seen_is m _ _ (seen p {rest = rest}) e = record { place = p; more = rest; is = refl }
seen_is m _ _ other e = absurd cc

pub sees_is : (m : Mark) (i : Input) → sees m i ≡ true → Next m i.rest
sees_is m i e = seen_is m i.rest (sees m i) (sight m i.rest i.state) e

expects : {B : Type 0} {P : B → Input → Type 0} {Q : Halt → Type 0} (m : Mark) (rest : List Token) (state : State) (b : Bool)
    (f : Unit {0} → Parser B) → Sight m rest b
    → Q (Syntax (length rest)) → ((p : At) (more : List Token) → rest ≡ mark p m ++ more → Meets P Q (f tt (at more state)))
    → Meets P Q (and_then (cond b (Ok (tt, next (at rest state))) (Err (refusal (at rest state)))) f)
unfolding next refusal left
expects m _ state _ f (seen p {rest = rest}) q k = k p rest refl
expects m _ state _ f other q k = refused q

pub expect_then : {B : Type 0} {P : B → Input → Type 0} {Q : Halt → Type 0} (m : Mark) (i : Input) (f : Unit {0} → Parser B)
    → Q (Syntax (length i.rest)) → ((p : At) (more : List Token) → i.rest ≡ mark p m ++ more → Meets P Q (f tt (at more i.state)))
    → Meets P Q (and_then (expect m i) f)
unfolding expect
expect_then m i f q k = expects m i.rest i.state (sees m i) f (sight m i.rest i.state) q k

eats : {B : Type 0} {P : B → Input → Type 0} {Q : Halt → Type 0} (m : Mark) (rest : List Token) (state : State) (b : Bool) (f : Bool
    → Parser B) → Sight m rest b
    → (sees m (at rest state) ≡ b) → ((p : At) (more : List Token) → rest ≡ mark p m ++ more → sees m (at rest state) ≡ true
    → Meets P Q (f true (at more state))) → (sees m (at rest state) ≡ false → Meets P Q (f false (at rest state)))
    → Meets P Q (f b (cond b (next (at rest state)) (at rest state)))
unfolding next
eats m _ state _ f (seen p {rest = rest}) e k z = k p rest refl e
eats m _ state _ f other e k z = z e

pub eat_then : {B : Type 0} {P : B → Input → Type 0} {Q : Halt → Type 0} (m : Mark) (i : Input) (f : Bool → Parser B)
    → ((p : At) (more : List Token) → i.rest ≡ mark p m ++ more → sees m i ≡ true → Meets P Q (f true (at more i.state)))
    → (sees m i ≡ false → Meets P Q (f false i))
    → Meets P Q (f (sees m i) (after m i))
unfolding after
eat_then m i f k z = eats m i.rest i.state (sees m i) f (sight m i.rest i.state) refl k z

-- ---- loops
-- what begins a turn has a token
abbrev pub Needs : {A : Type 0} → (A → Input → Bool) → Type 0
Needs {A = A} more = (a : A) (i : Input) → more a i ≡ true → 0 < left i

off_at_end : {A : Type 0} (more : A → Input → Bool) (needs : Needs more) (a : A) (i : Input) (b : Bool) → more a i ≡ b → left i ≤ 0
    → more a i ≡ false
off_at_end more needs a i true on none = absurd (let some : 0 < left i = needs a i on in omega arith)
off_at_end more needs a i false off none = off

module _ {A : Type 0} (more : A → Input → Bool) (needs : Needs more) (step : A → Parser A) (P : A → Input → Type 0) (Q : Halt → Type 0)
    (steps : (a : A) (i : Input) → more a i ≡ true → P a i → Meets (λ b j. P b j × (left j < left i)) Q (step a i)) where
  pub turns_meet : (n : ℕ) (a : A) (i : Input) → left i ≤ n → P a i → Meets (λ b j. P b j × (more b j ≡ false)) Q (turns more step n a i)
  unfolding turns
  turns_meet zero a i few h = fine (h, off_at_end more needs a i _ refl few)
  turns_meet (suc n) a i few h = if_meets (more a i)
      (λ yes. bind_meets (steps a i yes h) (λ _ q. q) (λ b j k.
      turns_meet n b j (let smaller : left j < left i = k.1 in omega arith) k.0))
      (λ no. fine (h, no))

  pub looped_meets : (a : A) (i : Input) → P a i → Meets (λ b j. P b j × (more b j ≡ false)) Q (looped more step a i)
  unfolding looped
  looped_meets a i h = turns_meet (left i) a i (omega arith) h

  goes_same : (n k : ℕ) (i : Input) (r : Outcome A) → Meets (λ b j. P b j × (left j < left i)) Q r
      → ((b : A) (j : Input) → left j < left i → P b j → turns more step n b j ≡ turns more step k b j)
      → and_then r (turns more step n) ≡ and_then r (turns more step k)
  goes_same n k i _ (fine {a = a} {i = j} h) same = same a j (let lt : left j < left i = h.1 in lt) h.0
  goes_same n k i _ (refused _) same = refl

  tests_same : (b : Bool) (x y last : Outcome A) → (b ≡ true → x ≡ y) → cond b x last ≡ cond b y last
  tests_same true x y last same = same refl
  tests_same false x y last same = refl

  -- any count of turns that is large enough does the same
  pub turns_same : (n k : ℕ) (a : A) (i : Input) → left i ≤ n → left i ≤ k → P a i → turns more step n a i ≡ turns more step k a i
  unfolding turns
  turns_same zero zero a i few many h = refl
  turns_same zero (suc k) a i few many h = rw (off_at_end more needs a i _ refl few) refl
  turns_same (suc n) zero a i few many h = rw (off_at_end more needs a i _ refl many) refl
  turns_same (suc n) (suc k) a i few many h =
      tests_same (more a i) _ _ _ (λ on. goes_same n k i (step a i) (steps a i on h)
      (λ b j lt p. turns_same n k b j (omega arith) (omega arith) p))

  pub looped_more : (a b : A) (i j : Input) → P a i → more a i ≡ true → step a i ≡ Ok (b, j) → left j < left i → P b j
      → looped more step a i ≡ looped more step b j
  unfolding looped turns
  looped_more a b i j h on is lt p =
      let e : left i ≡ suc (left i - 1) = omega arith in
      rw (e, on, is) (turns_same (left i - 1) (left j) b j (omega arith) (omega arith) p)

module _ {A : Type 0} (more : A → Input → Bool) (step : A → Parser A) where
  stop_at : (n : ℕ) (a : A) (i : Input) → more a i ≡ false → turns more step n a i ≡ Ok (a, i)
  unfolding turns
  stop_at zero a i off = refl
  stop_at (suc n) a i off = rw off refl

  pub looped_stop : (a : A) (i : Input) → more a i ≡ false → looped more step a i ≡ Ok (a, i)
  unfolding looped
  looped_stop a i off = stop_at (left i) a i off

pub sees_needs : {A : Type 0} (m : Mark) → Needs {A = A} (λ _. sees m)
unfolding left
sees_needs m _ i on = let h = sees_is m i on in rw h.is (omega arith)
