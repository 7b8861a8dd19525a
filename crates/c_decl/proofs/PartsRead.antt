-- Specifiers and declarators that are read from the midst of a unit's tokens are what the public calls promise.
use Rattle.std.proofs.Common.{◌≡◌, ℕ, zero, suc, ◌<◌, ◌≤◌, Bool, true, false, not, cond, List, [], ◌∷◌, ◌++◌, length, Option, Some, None, Result, Ok, Err, refl, sym, ap, subst, ◌∙◌, arith, append_assoc, length-append}
use Rattle.std.specs.Prelude.{◌||◌, is_some, nat_lt}
use Rattle.std.proofs.lemmas.Bool.{ltb-true, lt-ltb}
use Rattle.std.proofs.lemmas.List.{append-nil}
use Rattle.c_tok.specs.declared.mark.Mark.TheVariants as m
use Rattle.c_tok.specs.declared.token.CTok.{CTok}
use Rattle.c_tok.specs.declared.token.CTokKind.{CTokKind}
use Rattle.c_tok.specs.declared.token.CTokKind.TheVariants as c
use Rattle.c_names.specs.declared.names.Declared.{Declared}
use Rattle.c_tree.specs.declared.at.At.{At}
use Rattle.c_tree.specs.declared.declaring.Declaring.{Declaring}
use Rattle.c_tree.specs.declared.expr.Declarator.TheVariants as d_
use Rattle.c_tree.specs.declared.expr.Specs.{Specs}
use Rattle.c_tree.specs.declared.height.Heights.{Heights}
use Rattle.c_tree.specs.declared.height.Tall.{Tall}
use Rattle.c_tree.specs.Heights as class
use Rattle.c_tree.specs.Heights.{join, raise, lower, count, sum, Below, tall}
use Rattle.c_tree.specs.Specs.{one_spec}
use Rattle.c_decl.specs.declared.fault.ParseFault.{ParseFault}
use Rattle.c_decl.specs.declared.kind.DeclKind.{DeclKind}
use Rattle.c_decl.specs.declared.kind.Mode.{Mode}
use Rattle.c_decl.specs.declared.kind.Mode.TheVariants.{Spans}
use Rattle.c_decl.specs.declared.marking.Marked.{Marked}
use Rattle.c_decl.specs.declared.marking.Marked.TheVariants.{ImplicitInt}
use Rattle.c_decl.specs.declared.fault.Halt.{Halt}
use Rattle.c_decl.specs.declared.read.Read.{Read}
use Rattle.c_decl.specs.Tokens.{Token, mark, head_of, tail_of, same_mark}
use Rattle.c_decl.specs.State.{State, is_type, leave_out, leave_out_if}
use Rattle.c_decl.specs.Marks.{pointer_of}
use Rattle.c_decl.specs.Grammar as g
use Rattle.c_decl.specs.Grammar.{Phrase, Tree, Derives, is_named}
use Rattle.c_decl.specs.Input.{Input, Outcome, Parser, left, next, after, head, here, sees, looped, is_mark}
use Rattle.c_decl.specs.Entries as en
use Rattle.c_decl.specs.Entries.{Entry, phrase_of, class_of}
use Rattle.c_decl.specs.Declarators as dr
use Rattle.c_decl.specs.Reading.{reader, read, layer}
use Rattle.c_decl.specs.Units.{limits}
use Rattle.c_decl.specs.Told.{Tells}
use Rattle.c_decl.specs.Parts.{tokens_from, before_part, no_word, no_suffix, ReadsSpecs, ReadsDeclarator}
use Rattle.c_decl.proofs.Runs.{at, Meets, fine, refused, bind_meets, weaker, if_meets, Needs, looped_meets, eat_then}
use Rattle.c_decl.proofs.Room.{inner_below, room_raised, sum_lower, count_below}
use Rattle.c_decl.proofs.Took.{Says, Goes}
use Rattle.c_decl.proofs.Steady.{loosely}
use Rattle.c_decl.proofs.Local.{parts_steady}
use Rattle.c_decl.proofs.LocalDeclarators as ld
use Rattle.c_decl.proofs.SoundSpans as ss
use Rattle.c_decl.proofs.Sound.{sound, sound_part}
use Rattle.c_decl.proofs.Got as got
use Rattle.c_decl.proofs.Begins.{First, begins, off_first, or_second}
use Rattle.c_decl.proofs.Children.{lefts, rights, counted, child, all_turns, by_first}
use Rattle.c_decl.proofs.Complete.{complete}
use Rattle.c_decl.proofs.Sinks.{Sinks, Low}
use Rattle.c_decl.proofs.SinksDeclarators as si
use Rattle.c_decl.proofs.PartsTold.{IsLow, Stopped, Facts, part_read}

-- ---- where loops end

pub any : {A : Type 0} (o : Outcome A) → Meets (λ _ _. Unit {0}) (λ _. Unit {0}) o
any (Ok p) = fine tt
any (Err e) = refused tt

pub loop_ends : {A : Type 0} (more : A → Input → Bool) → Needs more → (step : A → Parser A)
    → ((x : A) (i : Input) → more x i ≡ true → Meets (λ _ j. left j < left i) (λ _. Unit {0}) (step x i)) → (x : A) (i : Input)
    → Meets (λ y j. more y j ≡ false) (λ _. Unit {0}) (looped more step x i)
loop_ends more needs step steps x i = weaker
    (looped_meets more needs step (λ _ _. Unit {0}) (λ _. Unit {0})
    (λ y j on _. weaker (steps y j on) (λ _ q. q) (λ _ _ lt. (tt, lt))) x i tt)
    (λ _ q. q) (λ _ _ r. r.1)

pub takes : {A : Type 0} {D : Says A} (i : Input) (o : Outcome A) → Goes D [] i o
    → ((x : A) (us : List Token) (k : Input) → D x us k → 0 < length us) → Meets (λ _ j. left j < left i) (λ _. Unit {0}) o
unfolding left
takes i o m some = weaker m (λ _ _. tt) (λ x k t.
    let s : 0 < length t.text = some x t.text k t.derives in let l = ap length t.parts in omega (arith, simp length-append at l))

first_some : {P : CTokKind → Bool} {ts : List Token} → First P ts → 0 < length ts
first_some f = let e = ap length f.is in omega arith

-- ---- specifiers

word_needs : Needs {A = Tall Specs} (λ xs. en.spec_comes xs.tree.is_typed)
unfolding en.spec_comes head left
word_needs xs i on = by i.rest on where
  by : (rest : List Token) → en.word_at i.state xs.tree.is_typed (head_of rest) ≡ true → 0 < length rest
  by [] on = absurd cc
  by (t ∷ rest) on = omega arith

word_left : (b : Bool) (kind : Marked) (a : At) (S : State) (typed : Bool) (o : Option CTokKind)
    → en.word_at (leave_out_if b kind a S) typed o ≡ en.word_at S typed o
unfolding is_type leave_out
word_left false kind a S typed o = refl
word_left true kind a S typed (Some (c.Ident n)) = refl
word_left true kind a S typed (Some (c.Mark k)) = refl
word_left true kind a S typed (Some o) = refl
word_left true kind a S typed None = refl

module _ (mode : Mode) (part : (c : Entry) → Parser (Tall (Tree (phrase_of c)))) (room : Heights) (parts : got.Parts mode part) where
  specs_stop : (storage : Bool) (i : Input) → Stopped (g.specs storage) no_word (dr.specs mode part room storage i)
  unfolding dr.specs dr.next_spec en.spec_comes head
  specs_stop storage i = bind_meets (any (dr.spec mode part room storage false i)) (λ _ q. q) λ x j _. bind_meets
      (loop_ends (λ xs. en.spec_comes xs.tree.is_typed) word_needs (dr.next_spec mode part room storage)
      (λ xs k _. bind_meets (takes k _ (ss.spec_reads mode part room parts storage xs.tree.is_typed k) (λ _ _ _ f. first_some (begins f)))
      (λ _ q. q) (λ _ _ lt. fine lt)) (tall (one_spec x.tree) x.height) j)
      (λ _ q. q) λ xs k off. fine (word_left (not xs.tree.is_typed) ImplicitInt xs.tree.at k.state xs.tree.is_typed (head_of k.rest) ∙ off)

-- ---- declarators

suffix_needs : Needs {A = Tall Declaring} (λ _. en.suffix_comes)
unfolding en.suffix_comes sees head left
suffix_needs _ i on = by i.rest on where
  by : (rest : List Token) → is_mark m.OpenBracket (head_of rest) || is_mark m.OpenParen (head_of rest) ≡ true → 0 < length rest
  by [] on = absurd cc
  by (t ∷ rest) on = omega arith

pub next_smaller : (i : Input) → 0 < left i → left (next i) < left i
unfolding next left
next_smaller i some = by i.rest some where
  by : (rest : List Token) → 0 < length rest → length (tail_of rest) < length rest
  by [] some = absurd (omega arith)
  by (t ∷ rest) some = omega arith

no_name : (kind : DeclKind) (typed : Bool) (S : State) (o : Option CTokKind) → en.names_declarator kind typed S o ≡ false
    → is_mark m.OpenBracket o || is_mark m.OpenParen o ≡ false
unfolding same_mark
no_name kind typed S (Some (c.Mark m.OpenParen)) e = absurd cc
no_name kind typed S (Some (c.Mark m.OpenBracket)) e = absurd cc
no_name kind typed S (Some _) e = refl
no_name kind typed S None e = refl

or_off : (a b : Bool) → a || b ≡ false → b ≡ false
or_off true b e = absurd cc
or_off false b e = e

pub pick_meets : {A : Type 0} {P : A → Input → Type 0} {Q : Halt → Type 0} {j : Input} (b : Bool) (p q : Parser A)
    → (b ≡ true → Meets P Q (p j)) → (b ≡ false → Meets P Q (q j)) → Meets P Q (cond b p q j)
pick_meets true p q t f = t refl
pick_meets false p q t f = f refl

module _ {part : (c : Entry) → Parser (Tall (Tree (phrase_of c)))} {room : Heights} (parts : si.Lows Spans part room) where
  direct_stop : (kind : DeclKind) (typed : Bool) (i : Input)
      → Stopped (g.direct kind typed) no_suffix (dr.direct_rule Spans part room kind typed i)
  unfolding dr.direct_rule en.suffix_comes sees head
  direct_stop kind typed i = bind_meets (any (dr.base Spans part room kind typed i)) (λ _ q. q) λ x j _. weaker
      (loop_ends (λ _. en.suffix_comes) suffix_needs (dr.suffix Spans part room)
      (λ y k on. weaker (si.suffix_low Spans part room parts y k) (λ _ q. q) (λ _ l s.
      let a : left l ≤ left (next k) = s.less in let b : left (next k) < left k = next_smaller k (suffix_needs y k on) in omega arith)) x j)
      (λ _ q. q) (λ _ _ off. off)

  starred_stop : (kind : DeclKind) (typed : Bool) (a : At)
      → ((i : Input) → Stopped (g.direct kind typed) no_suffix (part (en.direct kind typed) i)) → (i : Input)
      → Stopped (g.declarator kind typed) no_suffix (dr.starred Spans part room kind typed a i)
  unfolding dr.starred dr.pointed en.direct_comes head
  starred_stop kind typed a direct i = bind_meets (any (dr.pointer_words Spans part room i)) (λ _ q. q) λ ws j _.
      pick_meets (is_named kind || en.direct_comes kind typed j) (dr.pointed Spans part room kind typed a ws) _
      (λ _. bind_meets (direct j) (λ _ q. q) λ x k off. fine off)
      (λ off. fine (no_name kind typed j.state (head_of j.rest) (or_off (is_named kind) _ off)))

  declarator_stop : (kind : DeclKind) (typed : Bool)
      → ((i : Input) → Stopped (g.direct kind typed) no_suffix (part (en.direct kind typed) i)) → (i : Input)
      → Stopped (g.declarator kind typed) no_suffix (dr.declarator_rule Spans part room kind typed i)
  unfolding dr.declarator_rule
  declarator_stop kind typed direct i = eat_then m.Star i
      (λ b. cond {A = Parser (Tall Declaring)} b (dr.starred Spans part room kind typed (here i))
      (dr.direct_rule Spans part room kind typed))
      (λ p more _ _. starred_stop kind typed (here i) direct (at more i.state))
      (λ _. direct_stop kind typed i)

-- ---- within any room

low_layer : {part : (c : Entry) → Parser (Tall (Tree (phrase_of c)))} {room : Heights} → si.Lows Spans part room → (c : Entry)
    → si.covers Spans c ≡ true → (i : Input) → Sinks (Low (raise (class_of c) room)) i (layer Spans part room c i)
low_layer {part = part} {room = room} parts en.members on i = si.enclosed_low Spans part room parts i
low_layer {part = part} {room = room} parts (en.declarator kind typed) on i = si.declarator_low Spans part room parts kind typed i
low_layer {part = part} {room = room} parts (en.direct kind typed) on i = si.direct_low Spans part room parts kind typed i
low_layer {part = part} {room = room} parts (en.span inside) on i = si.span_low Spans part room parts inside i
low_layer parts _ on i = absurd cc

lows : (n : ℕ) (room : Heights) → si.Lows Spans (reader Spans n room) room
unfolding reader
lows zero room c on i = refused tt
lows (suc n) room c on i = if_meets (nat_lt 0 (count (class_of c) room))
    (λ some. subst (λ (z : Heights). Sinks (Low z) i (layer Spans (reader Spans n (lower (class_of c) room)) (lower (class_of c) room) c i))
    (room_raised (class_of c) room (ltb-true 0 _ some)) (low_layer (lows n (lower (class_of c) room)) c on i))
    (λ _. refused tt)

direct_stops : (n : ℕ) (room : Heights) (kind : DeclKind) (typed : Bool) (i : Input)
    → Stopped (g.direct kind typed) no_suffix (reader Spans n room (en.direct kind typed) i)
unfolding reader
direct_stops zero room kind typed i = refused tt
direct_stops (suc n) room kind typed i = if_meets (nat_lt 0 (count class.declarator room))
    (λ _. direct_stop (lows n (lower class.declarator room)) kind typed i) (λ _. refused tt)

declarator_stops : (n : ℕ) (room : Heights) (kind : DeclKind) (typed : Bool) (i : Input)
    → Stopped (g.declarator kind typed) no_suffix (reader Spans n room (en.declarator kind typed) i)
unfolding reader
declarator_stops zero room kind typed i = refused tt
declarator_stops (suc n) room kind typed i = if_meets (nat_lt 0 (count class.declarator room))
    (λ _. declarator_stop (lows n (lower class.declarator room)) kind typed (direct_stops n (lower class.declarator room) kind typed) i)
    (λ _. refused tt)

-- ---- where the tokens end

names_pointer : (kind : DeclKind) (typed : Bool) (S : State) (o : CTokKind) → en.names_declarator kind typed S (Some o) ≡ true
    → is_some (pointer_of (Some o)) ≡ false
names_pointer kind typed S (c.Ident n) e = refl
names_pointer kind typed S (c.Mark m.OpenParen) e = refl
names_pointer kind typed S (c.Mark m.OpenBracket) e = refl
names_pointer kind typed S _ e = absurd cc

abbrev AtEnd : (mode : Mode) → ℕ → Heights → (p : Phrase) → State → Heights → List Token → Tree p → State → Type 0
AtEnd mode n room (g.declarator kind typed) S h ts x T = Below h (raise class.declarator room)
    → dr.declarator_rule mode (reader mode n room) room kind typed (at (ts ++ []) S) ≡ Ok (tall x h, at [] T)
AtEnd mode n room _ S h ts x T = Unit {0}

at_end : {mode : Mode} {p : Phrase} {S T : State} {h : Heights} {ts : List Token} {x : Tree p} → Derives mode p S h ts x T
    → (n : ℕ) (room : Heights) → sum room ≤ n → AtEnd mode n room p S h ts x T
unfolding dr.declarator_rule dr.starred dr.pointed dr.pointer_words en.direct_comes en.pointer_comes sees head after next here same_mark
at_end (g.straight d) n room few = λ low. rw (off_first m.Star refl (begins d) []) ((complete d n room few low).gives [] refl)
at_end {mode = mode} {S = S} (g.starred {kind = kind} {is_typed = typed} {T = T} {U = U} {h = h} {g = f} a {ts = ts} {us = us}
    {ws = ws} {x = x} d e)
    n room few = λ low.
    let inner : Below (join h f) room = inner_below class.declarator (join h f) room low in
    let r = complete d n room few (lefts h f inner) in
    let p = child (en.direct kind typed) few (rights h f inner) (counted e) (λ j l q b. complete e j l q b) in
    let all = all_turns (r.gives (us ++ []) tt) (by_first (λ z. is_some (pointer_of z)) false (names_pointer kind typed T) (begins e) []) in
    let more = or_second (is_named kind) _ (by_first (en.names_declarator kind typed T) true (λ z q. q) (begins e) []) in
    let R : List Token → Type 0 = λ z. dr.declarator_rule mode (reader mode n room) room kind typed (at z S)
    ≡ Ok (tall (g.around (d_.Pointer a ws x.tree) x) (raise class.declarator (join h f)), at [] U) in
    let same : mark a m.Star ++ (ts ++ (us ++ [])) ≡ (mark a m.Star ++ ts ++ us) ++ [] = simp append_assoc in
    subst R same (rw (all, more, p.gives [] refl) refl)
at_end (g.pointed a is d) n room few = λ low.
    let r = complete d n room few (inner_below class.declarator _ room low) in
    let all = all_turns (r.gives [] tt) refl in rw (all, is) refl
at_end _ n room few = tt

declarator_end : {mode : Mode} {kind : DeclKind} {typed : Bool} {S T : State} {h : Heights} {ts : List Token} {x : Declaring}
    → Derives mode (g.declarator kind typed) S h ts x T → (n : ℕ) (room : Heights) → sum room ≤ n → Below h room
    → reader mode n room (en.declarator kind typed) (at (ts ++ []) S) ≡ Ok (tall x h, at [] T)
unfolding reader
declarator_end {mode = mode} {kind = kind} {typed = typed} {S = S} {T = T} {h = h} {ts = ts} {x = x} d n room few low =
    let some : 0 < count class.declarator h = counted d in
    let on : 0 < count class.declarator room = omega (arith, count_below class.declarator h room low) in
    by n few on where
      by : (n : ℕ) → sum room ≤ n → 0 < count class.declarator room
          → reader mode n room (en.declarator kind typed) (at (ts ++ []) S) ≡ Ok (tall x h, at [] T)
      by zero few on = absurd (let e = sum_lower class.declarator room on in omega arith)
      by (suc n) few on = rw (lt-ltb 0 (count class.declarator room) on)
          (at_end d n (lower class.declarator room) (let e = sum_lower class.declarator room on in omega arith)
          (subst (λ (z : Heights). Below h z) (sym (room_raised class.declarator room on)) low))

-- ---- what is known of both reading functions

abbrev pub Limited : (mode : Mode) → (c : Entry) → Parser (Tall (Tree (phrase_of c)))
Limited mode = reader mode (sum limits) limits

pub enough : sum limits ≤ sum limits
enough = omega arith

specs_facts : (mode : Mode) → Facts mode (g.specs true) no_word (dr.specs mode (Limited mode) limits true)
specs_facts mode = record {
  sound = ss.specs_reads mode (Limited mode) limits (sound mode (sum limits) limits) true;
  stops = specs_stop mode (Limited mode) limits (sound mode (sum limits) limits) true;
  local = λ F. loosely (ld.specs F mode (Limited mode) limits (parts_steady F mode (sum limits) limits enough) true);
  complete = λ S T h ts x d low.
      ap (λ (z : List Token). dr.specs mode (Limited mode) limits true (at z S)) (sym (append-nil ts))
      ∙ (complete d (sum limits) limits enough low).gives [] (refl, refl);
}

declarator_facts : (kind : DeclKind) (typed : Bool)
    → Facts Spans (g.declarator kind typed) no_suffix (Limited Spans (en.declarator kind typed))
declarator_facts kind typed = record {
  sound = λ i. sound_part Spans (sum limits) limits (en.declarator kind typed) i;
  stops = declarator_stops (sum limits) limits kind typed;
  local = λ F. (parts_steady F Spans (sum limits) limits enough).declarator kind typed;
  complete = λ S T h ts x d low.
      ap (λ (z : List Token). Limited Spans (en.declarator kind typed) (at z S)) (sym (append-nil ts))
      ∙ declarator_end d (sum limits) limits enough low;
}

pub is_low : {X : Type 0} {i : Input} {o : Outcome (Tall X)} → Sinks (Low limits) i o → IsLow o
is_low h = weaker h (λ _ q. q) (λ _ _ s. s.is)

-- ---- what a call answers that reads so, unless memory is refused

-- what is read before a part is the tokens from it on
abbrev pub part_start : List CTok → ℕ → List Declared → Input
part_start toks n names = at (tokens_from n toks) (before_part names)

module _ (toks : List CTok) (n : ℕ) (le : n ≤ length toks) (names after : List Declared) where
  pub specs_read : (result : Result (Read Specs) ParseFault)
      → Tells toks (dr.specs Spans (read Spans limits) limits true (part_start toks n names)) after result
      → ReadsSpecs toks n names after result
  unfolding read
  specs_read = part_read (specs_facts Spans) toks n le names
      (is_low (si.specs_low Spans (Limited Spans) limits (lows (sum limits) limits) true (part_start toks n names))) after

  pub declarator_read : (kind : DeclKind) (typed : Bool) (result : Result (Read Declaring) ParseFault)
      → Tells toks (read Spans limits (en.declarator kind typed) (part_start toks n names)) after result
      → ReadsDeclarator kind typed toks n names after result
  unfolding read
  declarator_read kind typed = part_read (declarator_facts kind typed) toks n le names
      (is_low (lows (sum limits) limits (en.declarator kind typed) refl (part_start toks n names))) after
