-- Two lists that agree up to a token and with it are read alike up to there.
use Rattle.std.proofs.Common.{◌≡◌, ℕ, zero, suc, ◌-◌, ◌<◌, ◌≤◌, Bool, true, false, cond, List, [], ◌∷◌, ◌++◌, length, Option, Some, None, Ok, Err, refl, subst, arith, length-append}
use Rattle.c_tok.specs.declared.mark.Mark.{Mark}
use Rattle.c_tok.specs.declared.mark.Mark.TheVariants as m
use Rattle.c_tok.specs.declared.token.CTokKind.{CTokKind}
use Rattle.c_tok.specs.declared.token.CTokKind.TheVariants as c
use Rattle.c_tree.specs.declared.at.At.{At}
use Rattle.c_tree.specs.declared.height.Heights.{Heights}
use Rattle.c_tree.specs.declared.height.Tall.{Tall}
use Rattle.c_tree.specs.Heights.{tall, is_below}
use Rattle.c_decl.specs.declared.fault.Halt.{Halt}
use Rattle.c_decl.specs.declared.fault.Halt.TheVariants.{Syntax, NoMemory}
use Rattle.c_decl.specs.Tokens.{Token}
use Rattle.c_decl.specs.State.{State}
use Rattle.c_decl.specs.Input.{Input, Outcome, Parser, and_then, left, next, after, head, here, sees, refusal, turns, looped, expect, a_name, is_mark}
use Rattle.c_decl.specs.Entries.{comma_then, parted, parted_before, then_one, some_while, comma_before, fits, with_next}
use Rattle.c_decl.proofs.Runs.{at, Meets, fine, refused, bind_meets, weaker, if_meets}

abbrev pub IsAtMost : ℕ → Halt → Type 0
IsAtMost n (Syntax k) = k ≤ n
IsAtMost n NoMemory = Unit {0}

-- at most n tokens are left of it
abbrev pub Passes : {A : Type 0} → ℕ → Outcome A → Type 0
Passes n r = Meets (λ _ j. left j ≤ n) (IsAtMost n) r

pub pick_passes : {A : Type 0} (x : Bool) (p q : Parser A) (n : ℕ) (i : Input) → Passes n (p i) → Passes n (q i) → Passes n (cond x p q i)
pick_passes true p q n i h k = h
pick_passes false p q n i h k = k

-- from n tokens that were left to k; true: it took one, if there was one
pub record Went (b : Bool) (n k : ℕ) : Type 0 where
  pub least : k ≤ n
  pub less : b ≡ true → 0 < n → k < n

abbrev pub Goes : {A : Type 0} → Bool → Input → Outcome A → Type 0
Goes b i r = Meets (λ _ j. Went b (left i) (left j)) (IsAtMost (left i)) r

strict : (n k l : ℕ) → 0 < n → k ≤ n → l ≤ k → (0 < k → l < k) → l < n
strict n zero l some x y z = omega arith
strict n (suc k) l some x y z = let w : l < suc k = z (omega arith) in omega arith

pub later : {b b' : Bool} {n k l : ℕ} → Went b n k → Went b' k l → Went b' n l
later {n = n} {k = k} {l = l} h g = record {
  least = let x : k ≤ n = h.least in let y : l ≤ k = g.least in omega arith;
  less = λ on some. strict n k l some h.least g.least (g.less on);
}

pub sooner : {b b' : Bool} {n k l : ℕ} → Went b n k → Went b' k l → Went b n l
sooner {n = n} {k = k} {l = l} h g = record {
  least = let x : k ≤ n = h.least in let y : l ≤ k = g.least in omega arith;
  less = λ on some. let x : k < n = h.less on some in let y : l ≤ k = g.least in omega arith;
}

pub stays : {n : ℕ} → Went false n n
stays = record { least = omega arith; less = λ off. absurd cc }

-- with less said of it
pub looser : {b : Bool} {n k : ℕ} → Went b n k → Went false n k
looser h = record { least = h.least; less = λ off. absurd cc }

pub at_most : {n k : ℕ} (error : Halt) → k ≤ n → IsAtMost k error → IsAtMost n error
at_most (Syntax p) le h = omega arith
at_most NoMemory le h = tt

pub passes_goes : {A : Type 0} {b : Bool} {n : ℕ} {r : Outcome A} (i : Input) → left i ≤ n → Goes b i r → Passes n r
passes_goes {n = n} i le h = weaker h (λ error q. at_most error le q)
    (λ a j w. let x : left j ≤ left i = w.least in let y : left j ≤ n = omega arith in y)

pub passes_on : {A B : Type 0} {b : Bool} {n : ℕ} {r : Outcome A} {f : A → Parser B} → Passes n r
    → ((a : A) (j : Input) → Goes b j (f a j)) → Passes n (and_then r f)
passes_on h k = bind_meets h (λ _ q. q) (λ a j le. passes_goes j le (k a j))

pub bind_goes : {A B : Type 0} {b b' : Bool} (i : Input) {r : Outcome A} {f : A → Parser B} → Goes b i r
    → ((a : A) (j : Input) → Goes b' j (f a j)) → Goes b' i (and_then r f)
bind_goes i h k = bind_meets h (λ _ q. q) (λ a j w. weaker (k a j) (λ error q. at_most error w.least q) (λ _ l v. later w v))

pub first_goes : {A B : Type 0} {b b' : Bool} (i : Input) {r : Outcome A} {f : A → Parser B} → Goes b i r
    → ((a : A) (j : Input) → Goes b' j (f a j)) → Goes b i (and_then r f)
first_goes i h k = bind_meets h (λ _ q. q) (λ a j w. weaker (k a j) (λ error q. at_most error w.least q) (λ _ l v. sooner w v))

-- a token, and two ways on behind it
pub record Fork : Type 0 where
  pub token : Token
  pub more : List Token
  pub more' : List Token

abbrev pub here_on : Fork → List Token → State → Input
here_on F mid S = at (mid ++ F.token ∷ F.more) S

abbrev pub there_on : Fork → List Token → State → Input
there_on F mid S = at (mid ++ F.token ∷ F.more') S

-- The second is read alike, as far as the token.
pub data Alike (F : Fork) {A : Type 0} : Outcome A → Outcome A → Type 0 where
  both : (a : A) (mid : List Token) (S : State) → Alike F (Ok (a, at (mid ++ F.token ∷ F.more) S)) (Ok (a, at (mid ++ F.token ∷ F.more') S))
  halted : (mid : List Token) → Alike F (Err (Syntax (length (mid ++ F.token ∷ F.more)))) (Err (Syntax (length (mid ++ F.token ∷ F.more'))))
  beyond : (r r' : Outcome A) → Passes (length F.more) r → Alike F r r'

-- It never goes back, and reads alike from each place before the token. True: where a token is left it takes one.
pub record Steady (F : Fork) {A : Type 0} (b : Bool) (p : Parser A) : Type 0 where
  pub moves : (i : Input) → Goes b i (p i)
  pub local : (mid : List Token) (S : State) → Alike F (p (here_on F mid S)) (p (there_on F mid S))

module _ {F : Fork} where
  pub bind_alike : {A B : Type 0} {b : Bool} {r r' : Outcome A} {f : A → Parser B} → Alike F r r'
      → ((a : A) (mid : List Token) (S : State) → Alike F (f a (here_on F mid S)) (f a (there_on F mid S)))
      → ((a : A) (j : Input) → Goes b j (f a j)) → Alike F (and_then r f) (and_then r' f)
  bind_alike (both a mid S) k moves = k a mid S
  bind_alike (halted mid) k moves = halted mid
  bind_alike (beyond r r' p) k moves = beyond _ _ (passes_on p moves)

  pub bind : {A B : Type 0} {b b' : Bool} {p : Parser A} {f : A → Parser B} → Steady F b p → ((a : A) → Steady F b' (f a))
      → Steady F b' (λ i. and_then (p i) f)
  bind h k = record {
    moves = λ i. bind_goes i (h.moves i) (λ a j. (k a).moves j);
    local = λ mid S. bind_alike (h.local mid S)
        (λ a mid S. (k a).local mid S) (λ a j. (k a).moves j);
  }

  -- as sure of a token as the first
  pub first : {A B : Type 0} {b b' : Bool} {p : Parser A} {f : A → Parser B} → Steady F b p → ((a : A) → Steady F b' (f a))
      → Steady F b (λ i. and_then (p i) f)
  first h k = record {
    moves = λ i. first_goes i (h.moves i) (λ a j. (k a).moves j);
    local = λ mid S. bind_alike (h.local mid S)
        (λ a mid S. (k a).local mid S) (λ a j. (k a).moves j);
  }

  pub loosely : {A : Type 0} {b : Bool} {p : Parser A} → Steady F b p → Steady F false p
  loosely h = record { moves = λ i. weaker (h.moves i) (λ _ q. q) (λ _ _ w. looser w); local = h.local }

  pub pure_steady : {A : Type 0} (a : A) → Steady F false (λ i. Ok (a, i))
  pure_steady a = record { moves = λ i. fine {i = i} stays; local = λ mid S. both a mid S }

  pub refuse_steady : {A : Type 0} {b : Bool} → Steady F {A = A} b (λ i. Err (refusal i))
  unfolding refusal left
  refuse_steady = record { moves = λ i. refused (omega arith); local = λ mid S. halted mid }

  if_alike : {A : Type 0} (b : Bool) {x x' y y' : Outcome A} → Alike F x x' → Alike F y y' → Alike F (cond b x y) (cond b x' y')
  if_alike true p q = p
  if_alike false p q = q

  -- a choice by what is known
  pub pick : {A : Type 0} {b : Bool} (x : Bool) {p q : Parser A} → Steady F b p → Steady F b q → Steady F b (cond x p q)
  pick true h k = h
  pick false h k = k

  pub if_steady : {A : Type 0} {b : Bool} (x : Bool) {p q : Parser A} → (x ≡ true → Steady F b p) → (x ≡ false → Steady F b q)
      → Steady F b (λ i. cond x (p i) (q i))
  if_steady true h k = h refl
  if_steady false h k = k refl

-- what is asked depends on the next token alone, or on the next two
abbrev pub First : {A : Type 0} → (Input → A) → Type 0
First f = (x : Token) (r r' : List Token) (S : State) → f (at (x ∷ r) S) ≡ f (at (x ∷ r') S)

abbrev pub Second : {A : Type 0} → (Input → A) → Type 0
Second f = (x y : Token) (r r' : List Token) (S : State) → f (at (x ∷ y ∷ r) S) ≡ f (at (x ∷ y ∷ r') S)

module _ {A : Type 0} (f : Input → A) (F : Fork) where
  first_same : First f → (mid : List Token) (S : State) → f (here_on F mid S) ≡ f (there_on F mid S)
  first_same h [] S = h F.token F.more F.more' S
  first_same h (x ∷ mid) S = h x (mid ++ F.token ∷ F.more) (mid ++ F.token ∷ F.more') S

  second_same : Second f → (x : Token) (mid : List Token) (S : State) → f (here_on F (x ∷ mid) S) ≡ f (there_on F (x ∷ mid) S)
  second_same h x [] S = h x F.token F.more F.more' S
  second_same h x (y ∷ mid) S = h x y (mid ++ F.token ∷ F.more) (mid ++ F.token ∷ F.more') S

-- at x: it depends on x alone, or x is taken whatever comes
pub data Told {A : Type 0} (x : Token) (S : State) (f : Input → A) (P : List Token → Type 0) : Type 0 where
  told : ((r r' : List Token) → f (at (x ∷ r) S) ≡ f (at (x ∷ r') S)) → Told x S f P
  taken : ((r : List Token) → P r) → Told x S f P

next_went : (rest : List Token) (S : State) → Went true (left (at rest S)) (left (next (at rest S)))
unfolding next left
next_went [] S = record { least = omega arith; less = λ _. omega arith }
next_went (x ∷ rest) S = record { least = omega arith; less = λ _. omega arith }

pub sees_first : (mark : Mark) → First (sees mark)
unfolding sees head
sees_first mark x r r' S = refl

met : {A : Type 0} {P : A → Input → Type 0} {Q : Halt → Type 0} {a : A} {j : Input} → Meets P Q (Ok (a, j)) → P a j
met (fine h) = h

ended_same : {A : Type 0} (r : Outcome A) → and_then r (λ a i. Ok (a, i)) ≡ r
ended_same (Ok p) = refl
ended_same (Err e) = refl

and_then_same : {A B C : Type 0} (r : Outcome A) (f : A → Parser B) (g : B → Parser C)
    → and_then r (λ a j. and_then (f a j) g) ≡ and_then (and_then r f) g
and_then_same (Ok p) f g = refl
and_then_same (Err e) f g = refl

module _ {F : Fork} where
  pub ask_steady : {A : Type 0} (f : Input → A) → First f → Steady F false (λ i. Ok (f i, i))
  ask_steady f h = record { moves = λ i. fine {i = i} stays; local = λ mid S. rw (first_same f F h mid S) (both _ mid S) }

  pub change_steady : (f : State → State) → Steady F {A = Unit {0}} false (λ i. Ok (tt {0}, record i { state = f i.state }))
  unfolding left
  change_steady f = record { moves = λ i. fine {i = record i { state = f i.state }} stays; local = λ mid S. both (tt {0}) mid (f S) }

  next_alike : (mid : List Token) (S : State) → Alike F {A = Unit {0}} (Ok (tt {0}, next (here_on F mid S)))
      (Ok (tt {0}, next (there_on F mid S)))
  unfolding next left
  next_alike [] S = beyond _ _ (fine {i = at F.more S} (omega arith))
  next_alike (x ∷ mid) S = both (tt {0}) mid S

  pub skip_steady : Steady F true (λ i. Ok (tt {0}, next i))
  skip_steady = record { moves = λ i. fine {i = next i} (next_went i.rest i.state); local = next_alike }

  -- two parsers that do the same
  pub steady_as : {A : Type 0} {b : Bool} (p q : Parser A) → ((i : Input) → q i ≡ p i) → Steady F b q → Steady F b p
  steady_as {b = b} p q same h = record {
    moves = λ i. subst (λ (o : Outcome _). Goes b i o) (same i) (h.moves i);
    local = λ mid S. subst (λ (o : Outcome _). Alike F o (p (there_on F mid S))) (same (here_on F mid S))
        (subst (λ (o : Outcome _). Alike F (q (here_on F mid S)) o) (same (there_on F mid S)) (h.local mid S));
  }

  -- a choice by what two tokens tell
  pub keyed : {A K : Type 0} {b : Bool} (key : Input → K) (f : K → Parser A) → ((k : K) → Steady F b (f k)) → Second key
      → ((x : Token) (S : State) → Told x S key (λ r. Passes (length r) (f (key (at (x ∷ r) S)) (at (x ∷ r) S)))) → Steady F b
      (λ i. f (key i) i)
  keyed {A = A} {K = K} {b = b} key f h second tells = record { moves = λ i. (h (key i)).moves i; local = local } where
    at_first : (S : State) → Told F.token S key (λ r. Passes (length r) (f (key (at (F.token ∷ r) S)) (at (F.token ∷ r) S)))
        → Alike F (f (key (here_on F [] S)) (here_on F [] S)) (f (key (there_on F [] S)) (there_on F [] S))
    at_first S (told e) = rw (e F.more F.more') ((h (key (there_on F [] S))).local [] S)
    at_first S (taken p) = beyond _ _ (p F.more)

    local : (mid : List Token) (S : State) → Alike F (f (key (here_on F mid S)) (here_on F mid S))
        (f (key (there_on F mid S)) (there_on F mid S))
    local [] S = at_first S (tells F.token S)
    local (x ∷ mid) S = rw (second_same key F second x mid S) ((h (key (there_on F (x ∷ mid) S))).local (x ∷ mid) S)

  pub test_steady : {A : Type 0} {b : Bool} (test : Input → Bool) {p q : Parser A} → First test → Steady F b p → Steady F b q
      → Steady F b (λ i. cond (test i) (p i) (q i))
  test_steady test {p = p} {q = q} one h k = record {
    moves = λ i. if_meets (test i) (λ _. h.moves i) (λ _. k.moves i);
    local = λ mid S. rw (first_same test F one mid S) (if_alike (test (there_on F mid S)) (h.local mid S) (k.local mid S));
  }

  pub expect_steady : (mark : Mark) → Steady F true (expect mark)
  unfolding expect
  expect_steady mark = test_steady (sees mark) (sees_first mark) skip_steady refuse_steady

  pub eat_steady : (mark : Mark) → Steady F false (λ i. Ok (sees mark i, after mark i))
  unfolding after
  eat_steady mark = steady_as {A = Bool} _ (λ i. cond {A = Outcome Bool} (sees mark i) (Ok (true, next i)) (Ok (false, i)))
      (λ i. by_test (sees mark i) i)
      (test_steady {A = Bool} (sees mark) (sees_first mark) (bind skip_steady (λ _. pure_steady true)) (pure_steady false)) where
        by_test : (b : Bool) (i : Input) → cond {A = Outcome Bool} b (Ok (true, next i)) (Ok (false, i)) ≡ Ok (b, cond b (next i) i)
        by_test true i = refl
        by_test false i = refl

  pub name_steady : (o : Option CTokKind) → Steady F true (a_name o)
  name_steady (Some (c.Ident n)) = first skip_steady λ _. pure_steady n
  name_steady (Some o) = refuse_steady
  name_steady None = refuse_steady

  pub fits_steady : (room h : Heights) → Steady F false (fits room h)
  unfolding fits
  fits_steady room h = if_steady (is_below h room) (λ _. pure_steady (tt {0})) (λ _. refuse_steady)

  -- a part and how many tokens it took
  pub counted : {A B : Type 0} {b : Bool} {p : Parser A} (f : ℕ → A → B) → Steady F b p
      → Steady F b (λ i. and_then (p i) (λ a j. Ok (f (left i - left j) a, j)))
  unfolding left
  counted {p = p} f h = record {
    moves = λ i. first_goes i (h.moves i) (λ a j. fine {i = j} stays);
    local = λ mid S. by_alike mid S
        (h.local mid S);
  } where
    less : (n k : ℕ) (mid mid' more : List Token) (x : Token) → n ≡ length mid → k ≡ length mid'
        → length (mid ++ x ∷ more) - length (mid' ++ x ∷ more) ≡ n - k
    less n k mid mid' more x is is' = simp length-append (omega arith)

    by_alike : (mid : List Token) (S : State) {r r' : Outcome _} → Alike F r r'
        → Alike F (and_then r (λ a j. Ok (f (left (here_on F mid S) - left j) a, j)))
        (and_then r' (λ a j. Ok (f (left (there_on F mid S) - left j) a, j)))
    by_alike mid S (both a mid' T) = rw (less _ _ mid mid' F.more F.token refl refl, less _ _ mid mid' F.more' F.token refl refl)
        (both _ mid' T)
    by_alike mid S (halted mid') = halted mid'
    by_alike mid S (beyond r r' h) = beyond _ _ (bind_meets h (λ _ q. q) (λ a j le. fine le))

  pub with_state : {A B : Type 0} {b : Bool} {f : B → Parser A} (g : State → B) → ((x : B) → Steady F b (f x))
      → Steady F b (λ i. f (g i.state) i)
  with_state g h = record { moves = λ i. (h (g i.state)).moves i; local = λ mid S. (h (g S)).local mid S }

  -- ---- loops

  module _ {A B : Type 0} (test : A → Input → Bool) (step : A → Parser A) (behind : A → Parser B)
      (steps : (a : A) → Steady F true (step a)) (behinds : (a : A) → Steady F false (behind a)) where
    turns_goes : (n : ℕ) (a : A) (i : Input) → Goes false i (turns test step n a i)
    unfolding turns
    turns_goes zero a i = fine stays
    turns_goes (suc n) a i = if_meets (test a i) (λ _. bind_goes i ((steps a).moves i) (turns_goes n)) (λ _. fine stays)

    turn_alike : (n n' k : ℕ) {r r' : Outcome A} → Alike F r r' → Meets (λ _ j. left j < k) (λ _. Unit {0}) r
        → ((a : A) (mid : List Token) (S : State) → left (here_on F mid S) < k → Alike F
        (and_then (turns test step n a (here_on F mid S)) behind) (and_then (turns test step n' a (there_on F mid S)) behind))
        → Alike F (and_then (and_then r (turns test step n)) behind) (and_then (and_then r' (turns test step n')) behind)
    turn_alike n n' k (both a mid S) h on = on a mid S (met h)
    turn_alike n n' k (halted mid) h on = halted mid
    turn_alike n n' k (beyond r r' p) h on = beyond _ _ (passes_on (passes_on p (turns_goes n)) (λ a j. (behinds a).moves j))

    test_alike : (x : Bool) (a : A) (i i' : Input) (r r' : Outcome A) → Alike F (and_then r behind) (and_then r' behind)
        → Alike F (behind a i) (behind a i')
        → Alike F (and_then (cond x r (Ok (a, i))) behind) (and_then (cond x r' (Ok (a, i'))) behind)
    test_alike true a i i' r r' h k = h
    test_alike false a i i' r r' h k = k

    test_passes : (x : Bool) (n k : ℕ) (a : A) (i : Input) → Passes k (step a i) → Passes k (behind a i)
        → Passes k (and_then (cond x (and_then (step a i) (turns test step n)) (Ok (a, i))) behind)
    test_passes true n k a i h g = passes_on (passes_on h (turns_goes n)) (λ a j. (behinds a).moves j)
    test_passes false n k a i h g = g

    module _ (second : (a : A) → Second (test a))
        (tells : (a : A) (x : Token) (S : State) → Told x S (test a)
        (λ r. Passes (length r) (step a (at (x ∷ r) S)) × Passes (length r) (behind a (at (x ∷ r) S)))) where
      first_alike : (n n' : ℕ) (a : A) (S : State) → Told F.token S (test a)
          (λ r. Passes (length r) (step a (at (F.token ∷ r) S)) × Passes (length r) (behind a (at (F.token ∷ r) S)))
          → Alike F (and_then (and_then (step a (here_on F [] S)) (turns test step n)) behind)
          (and_then (and_then (step a (there_on F [] S)) (turns test step n')) behind)
          → Alike F (and_then (turns test step (suc n) a (here_on F [] S)) behind)
          (and_then (turns test step (suc n') a (there_on F [] S)) behind)
      unfolding turns
      first_alike n n' a S (told e) h = rw (e F.more F.more') (test_alike (test a (there_on F [] S)) a _ _ _ _ h ((behinds a).local [] S))
      first_alike n n' a S (taken p) h = beyond _ _ (test_passes (test a (here_on F [] S)) n (length F.more) a _ (p F.more).0 (p F.more).1)

      -- with enough turns on either side
      turns_alike : (n n' : ℕ) (a : A) (mid : List Token) (S : State) → length mid < n → length mid < n'
          → Alike F (and_then (turns test step n a (here_on F mid S)) behind) (and_then (turns test step n' a (there_on F mid S)) behind)
      unfolding turns left
      turns_alike zero n' a mid S lt lt' = absurd (omega arith)
      turns_alike (suc n) zero a mid S lt lt' = absurd (omega arith)
      turns_alike (suc n) (suc n') a mid S lt lt' = by_place mid lt lt' (turn_alike n n' (left (here_on F mid S)) ((steps a).local mid S)
          (weaker ((steps a).moves (here_on F mid S)) (λ _ _. tt) (λ b j w. w.less refl (simp length-append (omega arith))))
          (λ b mid' T k. let g = simp length-append at k in turns_alike n n' b mid' T (omega arith) (omega arith))) where
            by_place : (mid : List Token) → length mid < suc n → length mid < suc n'
                → Alike F (and_then (and_then (step a (here_on F mid S)) (turns test step n)) behind)
                (and_then (and_then (step a (there_on F mid S)) (turns test step n')) behind)
                → Alike F (and_then (turns test step (suc n) a (here_on F mid S)) behind)
                (and_then (turns test step (suc n') a (there_on F mid S)) behind)
            by_place [] lt lt' h = first_alike n n' a S (tells a F.token S) h
            by_place (x ∷ mid) lt lt' h = rw (second_same (test a) F (second a) x mid S)
                (test_alike (test a (there_on F (x ∷ mid) S)) a _ _ _ _ h ((behinds a).local (x ∷ mid) S))

      pub looped_then : (a : A) → Steady F false (λ i. and_then (looped test step a i) behind)
      unfolding looped left
      looped_then a = record {
        moves = λ i. bind_goes i (turns_goes (left i) a i) (λ b j. (behinds b).moves j);
        local = λ mid S. turns_alike _ _ a mid S (simp length-append (omega arith)) (simp length-append (omega arith));
      }

  -- a step takes a token
  pub looped_steady : {A : Type 0} (test : A → Input → Bool) (step : A → Parser A) → ((a : A) → First (test a))
      → ((a : A) → Steady F true (step a)) → (a : A) → Steady F false (looped test step a)
  looped_steady test step one steps a = steady_as (looped test step a) (λ i. and_then (looped test step a i) (λ b j. Ok (b, j)))
      (λ i. ended_same (looped test step a i))
      (looped_then test step (λ b j. Ok (b, j)) steps pure_steady (λ b x y r r' S. one b x (y ∷ r) (y ∷ r') S)
      (λ b x S. told (λ r r'. one b x r r' S)) a)

  -- ---- lists

  pub comma_then_steady : {X : Type 0} {b : Bool} {p : Parser (Tall X)} → Steady F b p → (row : Tall (List X))
      → Steady F true (comma_then p row)
  unfolding comma_then
  comma_then_steady h row = first skip_steady λ _. bind h λ x. pure_steady (with_next row x)

  pub parted_steady : {X : Type 0} {b : Bool} {p : Parser (Tall X)} → Steady F b p → Steady F b (parted p)
  unfolding parted
  parted_steady {p = p} h = first h λ x. looped_steady (λ _. sees m.Comma) (comma_then p) (λ _. sees_first m.Comma) (comma_then_steady h) _

  pub some_steady : {X : Type 0} (more : Input → Bool) {p : Parser (Tall X)} → First more → Steady F true p
      → Steady F true (some_while more p)
  unfolding some_while then_one
  some_steady more {p = p} one h = first h λ x. looped_steady (λ _. more) (then_one p) (λ _. one)
      (λ row. first h λ x. pure_steady (with_next row x)) _

  comma_tells : {X B : Type 0} {b : Bool} (stop : Mark) {p : Parser (Tall X)} (k : Bool → Parser B) → Steady F b p
      → ((found : Bool) → Steady F false (k found)) → (row : Tall (List X)) (x : Token) (S : State)
      → (y : Bool) → is_mark m.Comma (Some x.kind) ≡ y
      → Told x S (comma_before stop) (λ r. Passes (length r) (comma_then p row (at (x ∷ r) S)) × Passes (length r)
      (k (sees m.Comma (at (x ∷ r) S)) (after m.Comma (at (x ∷ r) S))))
  unfolding comma_before comma_then sees after head next left
  comma_tells stop k h ks row x S true e = taken λ r. (
    passes_goes (at r S) (omega arith)
        ((bind h λ x. pure_steady (with_next row x)).moves (at r S)),
    rw e (passes_goes (at r S) (omega arith) ((ks true).moves (at r S))),
  )
  comma_tells stop k h ks row x S false e = told λ r r'. rw e refl

  -- a list that a comma may end: two tokens tell
  pub listed : {X B : Type 0} {b : Bool} (stop : Mark) {p : Parser (Tall X)} (k : Tall (List X) → Bool → Parser B) → Steady F b p
      → ((row : Tall (List X)) (found : Bool) → Steady F false (k row found))
      → Steady F b (λ i. and_then (parted_before stop p i) (λ row j. k row (sees m.Comma j) (after m.Comma j)))
  unfolding parted_before comma_before sees head next
  listed {X = X} stop {p = p} k h ks = steady_as _ (λ i. and_then (p i)
      (λ x j. and_then (looped (λ _. comma_before stop) (comma_then p) (tall (x.tree ∷ []) x.height) j)
      (λ row j. k row (sees m.Comma j) (after m.Comma j))))
      (λ i. and_then_same (p i) (λ x. looped (λ _. comma_before stop) (comma_then p) (tall (x.tree ∷ []) x.height))
      (λ row j. k row (sees m.Comma j) (after m.Comma j)))
      (first h λ x. looped_then (λ _. comma_before stop) (comma_then p) (λ row j. k row (sees m.Comma j) (after m.Comma j))
      (comma_then_steady h) (λ row. bind (eat_steady m.Comma) (ks row)) (λ _ x y r r' S. refl)
      (λ row x S. comma_tells stop (k row) h (ks row) row x S _ refl) _)

  -- a loop that takes a turn
  pub turn_passes : {A : Type 0} (test : A → Input → Bool) (step : A → Parser A) → ((a : A) → Steady F true (step a))
      → (a : A) (x : Token) (r : List Token) (S : State) (k : ℕ)
      → test a (at (x ∷ r) S) ≡ true → Passes k (step a (at (x ∷ r) S)) → Passes k (looped test step a (at (x ∷ r) S))
  unfolding looped turns left
  turn_passes test step steps a x r S k on h = rw on (passes_on h (turns_goes test step (λ b j. Ok (b, j)) steps pure_steady (length r)))

  -- ---- choices, each rule by its name

  pub via : {A : Type 0} {b : Bool} (p : Parser A) → Steady F b p → Steady F b p
  via p h = h

  pub by_bool : {A : Type 0} {b : Bool} (x : Bool) (f : Bool → Parser A) → Steady F b (f true) → Steady F b (f false) → Steady F b (f x)
  by_bool true f h k = h
  by_bool false f h k = k

  pub by_option : {A K : Type 0} {b : Bool} (o : Option K) (f : Option K → Parser A) → Steady F b (f None)
      → ((k : K) → Steady F b (f (Some k))) → Steady F b (f o)
  by_option None f h k = h
  by_option (Some x) f h k = k x

  pub asks : {A K : Type 0} {b : Bool} (look : Input → K) {f : K → Parser A} → First look → ((k : K) → Steady F b (f k))
      → Steady F b (λ i. f (look i) i)
  asks look one h = bind (ask_steady look one) h

  -- what comes next, and where
  pub peeks : {A : Type 0} {b : Bool} {f : Option CTokKind → Parser A} → ((o : Option CTokKind) → Steady F b (f o))
      → Steady F b (λ i. f (head i) i)
  unfolding head
  peeks h = asks head (λ _ _ _ _. refl) h

  pub placed : {A : Type 0} {b : Bool} {f : At → Parser A} → ((a : At) → Steady F b (f a)) → Steady F b (λ i. f (here i) i)
  unfolding here
  placed h = asks here (λ _ _ _ _. refl) h

  pub if_sees : {A : Type 0} {b : Bool} (mark : Mark) {p q : Parser A} → Steady F b p → Steady F b q
      → Steady F b (λ i. cond (sees mark i) p q i)
  if_sees mark h k = asks (sees mark) (sees_first mark) λ x. pick x h k

  pub if_eats : {A : Type 0} (mark : Mark) {p q : Parser A} → Steady F false p → Steady F false q
      → Steady F false (λ i. cond (sees mark i) p q (after mark i))
  if_eats mark h k = bind (eat_steady mark) λ x. pick x h k

  sure : {A : Type 0} (b : Bool) {p : Parser A} → Steady F true p → Steady F b p
  sure true h = h
  sure false h = loosely h

  -- behind a token
  pub skips : {A : Type 0} {b b' : Bool} (p : Parser A) → Steady F b' p → Steady F b (λ i. p (next i))
  skips {b = b} p h = sure b (first skip_steady λ _. h)

  pub skip_pure : {A : Type 0} {b : Bool} {a : A} → Steady F b (λ i. Ok (a, next i))
  skip_pure {b = b} {a = a} = sure b (first skip_steady λ _. pure_steady a)

  pub changes : {A : Type 0} {a : A} (f : State → State) → Steady F false (λ i. Ok (a, record i { state = f i.state }))
  changes {a = a} f = bind (change_steady f) λ _. pure_steady a
