-- How deep what is read nests: within the room; and no step goes back.
use Rattle.std.proofs.Common.{◌≡◌, ℕ, zero, suc, ◌≤◌, Bool, true, false, cond, List, [], ◌∷◌, length, Option, Some, None, Ok, Err, refl, arith}
use Rattle.c_tok.specs.declared.mark.Mark.{Mark}
use Rattle.c_tok.specs.declared.mark.Mark.TheVariants as m
use Rattle.c_tok.specs.declared.token.CTokKind.{CTokKind}
use Rattle.c_tok.specs.declared.token.CTokKind.TheVariants as c
use Rattle.c_tree.specs.declared.height.Heights.{Heights}
use Rattle.c_tree.specs.declared.height.Tall.{Tall}
use Rattle.c_tree.specs.Heights.{is_below, Below}
use Rattle.c_decl.specs.declared.fault.Halt.{Halt}
use Rattle.c_decl.specs.Tokens.{Token, tail_of}
use Rattle.c_decl.specs.State.{State}
use Rattle.c_decl.specs.Input.{Input, Outcome, Parser, and_then, left, next, after, sees, refusal, expect, a_name, turns, looped}
use Rattle.c_decl.specs.Entries.{comma_before, comma_then, parted, parted_before, then_one, some_while, fits}
use Rattle.c_decl.proofs.Runs.{Meets, fine, refused, bind_meets, weaker, if_meets}
use Rattle.c_decl.proofs.Room.{both_below, below_of}

-- the value is so, and no more is left
pub record Sunk {A : Type 0} (P : A → Type 0) (i : Input) (x : A) (j : Input) : Type 0 where
  pub is : P x
  pub less : left j ≤ left i

abbrev pub Refused : Halt → Type 0
Refused e = Unit {0}

abbrev pub Sinks : {A : Type 0} → (A → Type 0) → Input → Outcome A → Type 0
Sinks P i r = Meets (Sunk P i) Refused r

abbrev pub Any : {A : Type 0} → A → Type 0
Any x = Unit {0}

-- it nests within the room
abbrev pub Low : {X : Type 0} → Heights → Tall X → Type 0
Low room x = Below x.height room

pub then_less : {A : Type 0} {P : A → Type 0} {i j : Input} {r : Outcome A} → left j ≤ left i → Sinks P j r → Sinks P i r
then_less {i = i} {j = j} le h = weaker h (λ _ q. q)
    (λ x k s. record { is = s.is; less = let le' : left k ≤ left j = s.less in omega arith })

pub binds : {A B : Type 0} {P : A → Type 0} {Q : B → Type 0} {i : Input} {r : Outcome A} {f : A → Parser B} → Sinks P i r
    → ((x : A) (j : Input) → P x → Sinks Q j (f x j)) → Sinks Q i (and_then r f)
binds h k = bind_meets h (λ _ q. q) (λ x j s. then_less s.less (k x j s.is))

pub gives : {A : Type 0} {P : A → Type 0} {i : Input} {x : A} → P x → Sinks P i (Ok (x, i))
gives p = fine (record { is = p; less = omega arith })

pub refuses : {A : Type 0} {P : A → Type 0} {i : Input} {e : Halt} → Sinks P i (Err e)
refuses = refused tt

pub next_less : (i : Input) → left (next i) ≤ left i
unfolding next left
next_less i = by i.rest where
  by : (rest : List Token) → length (tail_of rest) ≤ length rest
  by [] = omega arith
  by (t ∷ rest) = omega arith

-- behind a token
pub skips : {A : Type 0} {P : A → Type 0} {i : Input} {r : Outcome A} → Sinks P (next i) r → Sinks P i r
skips {i = i} h = then_less (next_less i) h

-- what is known changes
pub changes : {A : Type 0} {P : A → Type 0} {i : Input} {r : Outcome A} (S : State) → Sinks P (record i { state = S }) r → Sinks P i r
unfolding left
changes {i = i} S h = then_less (omega arith) h

pub pick : {A : Type 0} {P : A → Type 0} {i j : Input} (b : Bool) (p q : Parser A) → (b ≡ true → Sinks P i (p j))
    → (b ≡ false → Sinks P i (q j)) → Sinks P i (cond b p q j)
pick true p q t f = t refl
pick false p q t f = f refl

pub eats : {A : Type 0} {P : A → Type 0} {i : Input} (k : Mark) (f : Bool → Parser A) → ((b : Bool) (j : Input) → Sinks P j (f b j))
    → Sinks P i (f (sees k i) (after k i))
unfolding after
eats {P = P} {i = i} k f h = by (sees k i) where
  by : (b : Bool) → Sinks P i (f b (cond b (next i) i))
  by true = skips (h true (next i))
  by false = h false i

pub eat_pick : {A : Type 0} {P : A → Type 0} {i : Input} (k : Mark) (p q : Parser A) → ((j : Input) → Sinks P j (p j))
    → ((j : Input) → Sinks P j (q j)) → Sinks P i (cond (sees k i) p q (after k i))
unfolding after
eat_pick {P = P} {i = i} k p q t f = by (sees k i) where
  by : (b : Bool) → Sinks P i (cond b p q (cond b (next i) i))
  by true = skips (t (next i))
  by false = f i

pub expects : {A : Type 0} {P : A → Type 0} {i : Input} (k : Mark) (f : Unit {0} → Parser A) → ((j : Input) → Sinks P j (f tt j))
    → Sinks P i (and_then (expect k i) f)
unfolding expect
expects {P = P} {i = i} k f h = by (sees k i) where
  by : (b : Bool) → Sinks P i (and_then (cond b (Ok (tt {0}, next i)) (Err (refusal i))) f)
  by true = skips (h (next i))
  by false = refuses

pub names_then : {A : Type 0} {P : A → Type 0} {i : Input} (o : Option CTokKind) (f : List ℕ → Parser A)
    → ((n : List ℕ) (j : Input) → Sinks P j (f n j)) → Sinks P i (and_then (a_name o i) f)
names_then {i = i} (Some (c.Ident n)) f h = skips (h n (next i))
names_then (Some o) f h = refuses
names_then None f h = refuses

-- what fits is within the room
pub fits_then : {A : Type 0} {P : A → Type 0} {i : Input} (room h : Heights) (f : Unit {0} → Parser A)
    → (Below h room → Sinks P i (f tt i)) → Sinks P i (and_then (fits room h i) f)
unfolding fits
fits_then {P = P} {i = i} room h f go = by (is_below h room) refl where
  by : (b : Bool) → is_below h room ≡ b → Sinks P i (and_then (cond b (Ok (tt {0}, i)) (Err (refusal i))) f)
  by true is = go (below_of h room is)
  by false is = refuses

-- ---- loops and lists

pub turns_sink : {A : Type 0} {P : A → Type 0} (more : A → Input → Bool) (step : A → Parser A)
    → ((x : A) (j : Input) → P x → Sinks P j (step x j)) → (n : ℕ) (x : A) (i : Input) → P x → Sinks P i (turns more step n x i)
unfolding turns
turns_sink more step steps zero x i p = gives p
turns_sink more step steps (suc n) x i p = if_meets (more x i)
    (λ _. binds (steps x i p) (λ y j q. turns_sink more step steps n y j q)) (λ _. gives p)

pub loops : {A : Type 0} {P : A → Type 0} (more : A → Input → Bool) (step : A → Parser A)
    → ((x : A) (j : Input) → P x → Sinks P j (step x j)) → (x : A) (i : Input) → P x → Sinks P i (looped more step x i)
unfolding looped
loops more step steps x i p = turns_sink more step steps (left i) x i p

module _ {X : Type 0} (room : Heights) (q : Parser (Tall X)) (low : (i : Input) → Sinks (Low room) i (q i)) where
  pub comma_sinks : (row : Tall (List X)) (i : Input) → Below row.height room → Sinks (Low room) i (comma_then q row i)
  unfolding comma_then
  comma_sinks row i l = skips (binds (low (next i)) λ x j l'. gives (both_below row.height x.height room l l'))

  pub parted_sinks : (i : Input) → Sinks (Low room) i (parted q i)
  unfolding parted
  parted_sinks i = binds (low i) λ x j l. loops (λ _. sees m.Comma) (comma_then q) comma_sinks _ j l

  pub before_sinks : (stop : Mark) (i : Input) → Sinks (Low room) i (parted_before stop q i)
  unfolding parted_before
  before_sinks stop i = binds (low i) λ x j l. loops (λ _. comma_before stop) (comma_then q) comma_sinks _ j l

  pub some_sinks : (more : Input → Bool) (i : Input) → Sinks (Low room) i (some_while more q i)
  unfolding some_while then_one
  some_sinks more i = binds (low i) λ x j l. loops (λ _. more) (then_one q)
      (λ row k l. binds (low k) λ y j' l'. gives (both_below row.height y.height room l l')) _ j l
