-- What is told of a part that is read is what the grammar tells of its tokens.
use Rattle.std.proofs.Common.{◌≡◌, ℕ, zero, suc, ◌+◌, ◌-◌, ◌≤◌, false, List, [], ◌∷◌, ◌++◌, length, Result, Ok, Err, refl, sym, ap, subst, ◌∙◌, arith, append_assoc, length-append}
use Rattle.std.specs.Prelude.{drop}
use Rattle.std.proofs.lemmas.List.{append-nil}
use Rattle.c_tok.specs.declared.token.CTok.{CTok}
use Rattle.c_names.specs.declared.names.Declared.{Declared}
use Rattle.c_tree.specs.declared.height.Heights.{Heights}
use Rattle.c_tree.specs.declared.height.Tall.{Tall}
use Rattle.c_tree.specs.Heights.{Below, tall}
use Rattle.c_decl.specs.declared.fault.Halt.{Halt}
use Rattle.c_decl.specs.declared.fault.Halt.TheVariants as halt
use Rattle.c_decl.specs.declared.fault.ParseFault.{ParseFault}
use Rattle.c_decl.specs.declared.fault.ParseFault.TheVariants.{FloatType, Syntax, LeftOut, NoMemory}
use Rattle.c_decl.specs.declared.kind.Mode.{Mode}
use Rattle.c_decl.specs.declared.read.Read.{Read}
use Rattle.c_decl.specs.Tokens.{Token, numbered, head_of}
use Rattle.c_decl.specs.State.{State}
use Rattle.c_decl.specs.Grammar.{Phrase, Tree, Derives}
use Rattle.c_decl.specs.Input.{Input, Outcome, Parser, left}
use Rattle.c_decl.specs.Units.{limits, place_in}
use Rattle.c_decl.specs.Parsed.{place_left}
use Rattle.c_decl.specs.Told.{told, NamesBehind, Tells}
use Rattle.c_decl.specs.Parts.{tokens_from, before_part, Stop, ReadsPart}
use Rattle.c_decl.proofs.Runs.{at, Meets, fine, refused}
use Rattle.c_decl.proofs.Took.{Reads}
use Rattle.c_decl.proofs.Steady.{Fork, Steady}
use Rattle.c_decl.proofs.Local.{refused_there}

-- ---- the tokens from one on, among all

numbered_length : (k : ℕ) (ts : List CTok) → length (numbered k ts) ≡ length ts
unfolding numbered
numbered_length k [] = refl
numbered_length k (t ∷ ts) = ap suc (numbered_length (suc k) ts)

from_length : (n : ℕ) (ts : List CTok) → n ≤ length ts → n + length (drop n ts) ≡ length ts
from_length zero ts le = omega arith
from_length (suc n) [] le = absurd (omega arith)
from_length (suc n) (t ∷ ts) le = let e = from_length n ts (omega arith) in omega arith

-- those before
record Front (k n : ℕ) (ts : List CTok) : Type 0 where
  front : List Token
  is : numbered k ts ≡ front ++ numbered (k + n) (drop n ts)

front_of : (n k : ℕ) (ts : List CTok) → n ≤ length ts → Front k n ts
unfolding numbered
front_of zero k ts le = record { front = []; is = let e : k ≡ k + 0 = omega arith in ap (λ (z : ℕ). numbered z ts) e }
front_of (suc n) k [] le = absurd (omega arith)
front_of (suc n) k (t ∷ ts) le = let f = front_of n (suc k) ts (omega arith) in let e : suc k + n ≡ k + suc n = omega arith in record {
  front = record { kind = t.kind; at = record { place = t.place; number = k } } ∷ f.front;
  is = ap (λ (z : List Token). record { kind = t.kind; at = record { place = t.place; number = k } } ∷ z)
      (f.is ∙ ap (λ (z : ℕ). f.front ++ numbered z (drop n ts)) e);
}

drop_through : (seen rest : List Token) → drop (length seen) (seen ++ rest) ≡ rest
drop_through [] rest = refl
drop_through (t ∷ seen) rest = drop_through seen rest

-- as many tokens are left as the rest has
dropped : (ts seen rest : List Token) → ts ≡ seen ++ rest → drop (length ts - length rest) ts ≡ rest
dropped ts seen rest parts =
    let before : length (seen ++ rest) - length rest ≡ length seen = simp length-append (omega arith) in
    rw (parts, before) (drop_through seen rest)

place_is : (n : ℕ) (toks : List CTok) (seen rest : List Token) → n ≤ length toks → tokens_from n toks ≡ seen ++ rest → (k : ℕ)
    → halt.Syntax k ≡ halt.Syntax (length rest) → place_left (numbered 0 toks) k ≡ place_in (numbered 0 toks) rest
place_is n toks seen rest le parts k is =
    let f = front_of n 0 toks le in
    let zero_n : 0 + n ≡ n = omega arith in
    let all : numbered 0 toks ≡ (f.front ++ seen) ++ rest = f.is ∙ ap (λ (z : ℕ). f.front ++ numbered z (drop n toks)) zero_n
    ∙ ap (λ (z : List Token). f.front ++ z) parts ∙ sym (append_assoc f.front seen rest) in
    let same : k ≡ length rest = cc in
    ap (place_in (numbered 0 toks))
    (ap (λ (z : ℕ). drop (length (numbered 0 toks) - z) (numbered 0 toks)) same ∙ dropped (numbered 0 toks) (f.front ++ seen) rest all)

next_is : (n : ℕ) (toks : List CTok) (text rest : List Token) → n ≤ length toks → tokens_from n toks ≡ text ++ rest
    → length toks - length rest ≡ n + length text
next_is n toks text rest le parts =
    let e = from_length n toks le in
    let l : length (drop n toks) ≡ length text + length rest = sym (numbered_length n (drop n toks)) ∙ ap length parts
    ∙ length-append text rest in
    omega arith

-- ---- what is known of a reading function

-- the heights are within the limits
abbrev pub IsLow : {X : Type 0} → Outcome (Tall X) → Type 0
IsLow o = Meets (λ x _. Below x.height limits) (λ _. Unit {0}) o

abbrev pub Stopped : (p : Phrase) → Stop p → Outcome (Tall (Tree p)) → Type 0
Stopped p stop o = Meets (λ x j. stop x.tree j.state (head_of j.rest)) (λ _. Unit {0}) o

pub record Facts (mode : Mode) (p : Phrase) (stop : Stop p) (q : Parser (Tall (Tree p))) : Type 0 where
  pub sound : (i : Input) → Reads mode p i (q i)
  pub stops : (i : Input) → Stopped p stop (q i)
  pub local : (F : Fork) → Steady F false q
  pub complete : (S T : State) (h : Heights) (ts : List Token) (x : Tree p) → Derives mode p S h ts x T → Below h limits
      → q (at ts S) ≡ Ok (tall x h, at [] T)

-- some names that are behind
abbrev names_after : {X : Type 0} → Outcome X → List Declared
names_after (Ok p) = p.1.state.names
names_after (Err e) = []

are_behind : {X : Type 0} (o : Outcome X) → NamesBehind o (names_after o)
are_behind (Ok p) = refl
are_behind (Err e) = tt

met : {A : Type 0} {P : A → Input → Type 0} {Q : Halt → Type 0} {a : A} {j : Input} → Meets P Q (Ok (a, j)) → P a j
met (fine h) = h

module _ {mode : Mode} {p : Phrase} {stop : Stop p} {q : Parser (Tall (Tree p))} (facts : Facts mode p stop q) (toks : List CTok)
    (n : ℕ) (le : n ≤ length toks) (names : List Declared) where
  abbrev Start : Input
  Start = at (tokens_from n toks) (before_part names)

  answered : (o : Outcome (Tall (Tree p))) → q Start ≡ o → Reads mode p Start o → IsLow o → Stopped p stop o → (after : List Declared)
      → NamesBehind o after → ReadsPart mode p stop toks n names after (told toks o)
  unfolding left
  answered _ is (fine {a = x} {i = k} t) low stops after same =
      let R : List Declared → Type 0 = λ z. ReadsPart mode p stop toks n names z (told toks (Ok (x, k))) in
      subst R (sym same) (record {
        text = t.text;
        rest = k.rest;
        marking = k.state.marked;
        parts = t.parts;
        next_is = next_is n toks t.text k.rest le t.parts;
        is = record { height = x.height; low = met low; derives = t.derives };
        first = refl;
        stops = met stops;
      })
  answered _ is (refused {e = halt.NoMemory} h) low stops after same = tt
  answered _ is (refused {e = halt.Syntax k} h) low stops after same = record {
    seen = h.seen;
    rest = h.more;
    parts = h.parts;
    is = place_is n toks h.seen h.more le h.parts k h.place;
    before = record {
      ending = h.ending;
      tree = h.can.tree.tree;
      height = h.can.tree.height;
      behind = h.can.behind;
      derives = h.can.derives;
    };
    none = λ ends x behind part.
        let all : tokens_from n toks ≡ h.seen = h.parts ∙ ap (λ (z : List Token). h.seen ++ z) ends ∙ append-nil h.seen in
        absurd (let e = facts.complete _ _ part.height h.seen x part.derives part.low in
        let f : q (at h.seen (before_part names)) ≡ Err (halt.Syntax k) =
        ap (λ (z : List Token). q (at z (before_part names))) (sym all) ∙ is in cc);
    through = λ t more other rest x behind part.
        let F : Fork = record { token = t; more = more; more' = other } in
        let all : h.seen ++ t ∷ more ≡ tokens_from n toks = ap (λ (z : List Token). h.seen ++ z) (sym rest) ∙ sym h.parts in
        let f : q (at (h.seen ++ t ∷ more) (before_part names)) ≡ Err (halt.Syntax (length (t ∷ more))) =
        ap (λ (z : List Token). q (at z (before_part names))) all ∙ is
        ∙ ap Err (h.place ∙ ap (λ (z : List Token). halt.Syntax (length z)) rest) in
        absurd (let there = refused_there F ((facts.local F).local h.seen (before_part names)) f in
        let e = facts.complete _ _ part.height _ x part.derives part.low in cc);
  }

  part_told : IsLow (q Start) → (after : List Declared) → NamesBehind (q Start) after
      → ReadsPart mode p stop toks n names after (told toks (q Start))
  part_told low after same = answered (q Start) refl (facts.sound Start) low (facts.stops Start) after same

  -- what a call answers, unless memory is refused
  pub part_read : IsLow (q Start) → (after : List Declared) → (result : Result (Read (Tree p)) ParseFault)
      → Tells toks (q Start) after result → ReadsPart mode p stop toks n names after result
  part_read low after (Ok x) tells =
      subst (λ (z : Result (Read (Tree p)) ParseFault). ReadsPart mode p stop toks n names after z) tells.0
      (part_told low after tells.1)
  part_read low after (Err NoMemory) tells = tt
  part_read low after (Err (Syntax place)) tells =
      subst (λ (z : Result (Read (Tree p)) ParseFault). ReadsPart mode p stop toks n names (names_after (q Start)) z)
      (tells (λ e. absurd cc)) (part_told low (names_after (q Start)) (are_behind (q Start)))
  part_read low after (Err (FloatType place)) tells =
      subst (λ (z : Result (Read (Tree p)) ParseFault). ReadsPart mode p stop toks n names (names_after (q Start)) z)
      (tells (λ e. absurd cc)) (part_told low (names_after (q Start)) (are_behind (q Start)))
  part_read low after (Err (LeftOut kind place)) tells =
      subst (λ (z : Result (Read (Tree p)) ParseFault). ReadsPart mode p stop toks n names (names_after (q Start)) z)
      (tells (λ e. absurd cc)) (part_told low (names_after (q Start)) (are_behind (q Start)))
