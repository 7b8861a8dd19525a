-- Parts, and room for them.
use Rattle.std.proofs.Common.{◌≡◌, ℕ, zero, suc, ◌+◌, ◌<◌, ◌≤◌, Bool, true, false, not, List, ◌∷◌, ◌++◌, Option, Some, None, Ok, refl, sym, ap, subst, ◌∙◌, arith}
use Rattle.std.specs.Prelude.{nat_lt}
use Rattle.std.proofs.lemmas.Bool.{ltb-true, lt-ltb, le-ltb}
use Rattle.c_tok.specs.declared.mark.Mark.{Mark}
use Rattle.c_tok.specs.declared.mark.Mark.TheVariants as m
use Rattle.c_tok.specs.declared.token.CTokKind.{CTokKind}
use Rattle.c_tok.specs.declared.token.CTokKind.TheVariants as c
use Rattle.c_tree.specs.declared.at.At.{At}
use Rattle.c_tree.specs.declared.stmt.Stmt.{Stmt}
use Rattle.c_tree.specs.declared.height.Heights.{Heights}
use Rattle.c_tree.specs.declared.height.Tall.{Tall}
use Rattle.c_tree.specs.Heights as class
use Rattle.c_tree.specs.Heights.{Class, join, raise, lower, count, sum, Below, tall}
use Rattle.c_decl.specs.declared.kind.Mode.{Mode}
use Rattle.c_decl.specs.Tokens.{Token, tok, is_empty, head_of, at_of, same_mark}
use Rattle.c_decl.specs.State.{State}
use Rattle.c_decl.specs.Marks.{tight}
use Rattle.c_decl.specs.Grammar as g
use Rattle.c_decl.specs.Grammar.{Phrase, Tree, Derives, is_word}
use Rattle.c_decl.specs.Input.{Input, Outcome, Parser, next, head, sees, looped, is_mark}
use Rattle.c_decl.specs.Entries as en
use Rattle.c_decl.specs.Entries.{Entry, phrase_of, class_of, fits, spec_comes, word_comes, goes_on, type_name_at}
use Rattle.c_decl.specs.Expressions as er
use Rattle.c_decl.specs.Reading.{layer, reader}
use Rattle.c_decl.proofs.Runs.{at}
use Rattle.c_decl.proofs.Runs.{same_mark_is}
use Rattle.c_decl.proofs.Room.{left_below, right_below, higher_below, room_raised, sum_lower, count_raise, count_below, below_is}
use Rattle.c_decl.proofs.Led.{Led, stopped}
use Rattle.c_decl.proofs.Begins.{First}
use Rattle.c_decl.proofs.Claims.{stops, parts, class_for, Starts, starts, same, Gives, Off, Reads, Ends, PartReads}

-- ---- room

pub lefts : (a b : Heights) {room : Heights} → Below (join a b) room → Below a room
lefts a b {room = room} low = left_below a b room low

pub rights : (a b : Heights) {room : Heights} → Below (join a b) room → Below b room
rights a b {room = room} low = right_below a b room low

-- ---- what counts

abbrev Counts : Option Class → Heights → Type 0
Counts (Some k) h = 0 < count k h
Counts None h = Unit {0}

abbrev Counted : Phrase → List Token → Heights → Type 0
Counted (g.stem kind typed) ts h = is_empty ts ≡ false → 0 < count class.declarator h
Counted p ts h = Counts (class_for p) h

pub counted : {mode : Mode} {p : Phrase} {S T : State} {h : Heights} {ts : List Token} {x : Tree p} → Derives mode p S h ts x T
    → Counted p ts h
counted (g.named is) = count_raise class.expression _
counted g.constant = count_raise class.expression _
counted g.text = count_raise class.expression _
counted (g.paren a b d) = count_raise class.expression _
counted (g.simple d) = counted d
counted (g.subscript a b d f) = count_raise class.expression _
counted (g.call a b d f) = count_raise class.expression _
counted (g.reached a b o n is d) = count_raise class.expression _
counted (g.stepped a o is d) = count_raise class.expression _
counted (g.bare d) = counted d
counted (g.step a o is d) = count_raise class.expression _
counted (g.prefixed a o is d) = count_raise class.expression _
counted (g.measured a d) = count_raise class.expression _
counted (g.measured_type a b b' d) = count_raise class.expression _
counted (g.uncast d) = counted d
counted (g.converted a b d f) = count_raise class.expression _
counted (g.operand d) = counted d
counted (g.operated a o is le d f) = count_raise class.expression _
counted (g.tested d) = counted d
counted (g.chosen a b d f v) = count_raise class.expression _
counted (g.valued d) = counted d
counted (g.assigned a o is d f) = count_raise class.expression _
counted (g.alone d) = counted d
counted (g.joined a d f) = count_raise class.expression _
counted (g.value d) = count_raise class.initializer _
counted (g.braces a b b' comma_ends d) = count_raise class.initializer _
counted (g.spanned d) = count_raise class.expression _
counted (g.enclosed a b d) = count_raise class.members _
counted (g.straight d) = counted d
counted (g.starred a d f) = count_raise class.declarator _
counted (g.pointed a is d) = count_raise class.declarator _
counted (g.solid some d) = counted d some
counted (g.absent is) = λ e. absurd cc
counted (g.naming is ok) = λ _. count_raise class.declarator _
counted (g.grouped a b off d) = λ _. count_raise class.declarator _
counted (g.array a b d f) = λ _. count_raise class.declarator _
counted (g.function a b d f) = λ _. count_raise class.declarator _
counted (g.old_style a b is d f) = λ _. count_raise class.declarator _
counted (g.labelled a n d) = counted d
counted (g.colon b d) = count_raise class.statement _
counted (g.case_ a b d f) = count_raise class.statement _
counted (g.default_ a b d) = count_raise class.statement _
counted (g.compound d) = counted d
counted (g.expression a d) = count_raise class.statement _
counted (g.if_ a b b' d f) = count_raise class.statement _
counted (g.if_else a b b' b'' d f v) = count_raise class.statement _
counted (g.control_ a b b' o is d f) = count_raise class.statement _
counted (g.do_ a a' b b' b'' d f) = count_raise class.statement _
counted (g.for_ a b b' d f) = count_raise class.statement _
counted (g.goto_ a b b' n) = count_raise class.statement _
counted (g.jump_ a b o is) = count_raise class.statement _
counted (g.return_ a b d) = count_raise class.statement _
counted (g.braced a b d) = count_raise class.statement _
counted _ = tt

-- ---- what follows

-- a mark that joins at least so tightly doesn't come
pub loose : (k : Mark) (low : ℕ) (o : Option CTokKind) → low ≤ tight (Some (c.Mark k)) → tight o < low → is_mark k o ≡ false
loose k low (Some (c.Mark j)) le lt = by_test _ refl where
  by_test : (b : Bool) → same_mark j k ≡ b → b ≡ false
  by_test true e = absurd (let is = same_mark_is j k e in let t = ap (λ (z : Mark). tight (Some (c.Mark z))) is in omega arith)
  by_test false e = refl
loose k low (Some (c.Ident n)) le lt = refl
loose k low (Some (c.Constant v)) le lt = refl
loose k low (Some (c.Text bytes)) le lt = refl
loose k low None le lt = refl

pub stops_are : (P : Option CTokKind → Bool) → P (Some (c.Mark m.Comma)) ≡ true → P (Some (c.Mark m.CloseParen)) ≡ true
    → P (Some (c.Mark m.CloseBracket)) ≡ true
    → P (Some (c.Mark m.CloseBrace)) ≡ true → P (Some (c.Mark m.Semicolon)) ≡ true → P (Some (c.Mark m.Colon)) ≡ true
    → (o : Option CTokKind) → stops o ≡ true → P o ≡ true
stops_are P c1 c2 c3 c4 c5 c6 (Some (c.Mark m.Comma)) e = c1
stops_are P c1 c2 c3 c4 c5 c6 (Some (c.Mark m.CloseParen)) e = c2
stops_are P c1 c2 c3 c4 c5 c6 (Some (c.Mark m.CloseBracket)) e = c3
stops_are P c1 c2 c3 c4 c5 c6 (Some (c.Mark m.CloseBrace)) e = c4
stops_are P c1 c2 c3 c4 c5 c6 (Some (c.Mark m.Semicolon)) e = c5
stops_are P c1 c2 c3 c4 c5 c6 (Some (c.Mark m.Colon)) e = c6
stops_are P c1 c2 c3 c4 c5 c6 _ e = absurd cc

pub stops_tight : (o : Option CTokKind) → stops o ≡ true → tight o < 2
stops_tight o e = ltb-true _ _ (stops_are (λ (z : Option CTokKind). nat_lt (tight z) 2) refl refl refl refl refl refl o e)

pub parts_stop : (o : Option CTokKind) → parts o ≡ true → stops o ≡ true
parts_stop (Some (c.Mark m.Comma)) e = refl
parts_stop (Some (c.Mark m.Semicolon)) e = refl
parts_stop _ e = absurd cc

pub not_yes : (a : Bool) → not a ≡ true → a ≡ false
not_yes true e = absurd cc
not_yes false e = refl

pub goes_off : (low : ℕ) (rest : List Token) (S : State) → tight (head_of rest) < low → goes_on low (at rest S) ≡ false
unfolding goes_on head
goes_off low rest S lt = rw (lt-ltb (tight (head_of rest)) low lt) refl

pub goes : (low : ℕ) (o : CTokKind) (a : At) (rest : List Token) (S : State) → low ≤ tight (Some o)
    → goes_on low (at (tok o a ∷ rest) S) ≡ true
unfolding goes_on head
goes low o a rest S le = rw (le-ltb (tight (Some o)) low le) refl

-- ---- parts

-- a number that is large enough, and room
part_read : (mode : Mode) (c : Entry) (n : ℕ) (room : Heights) (few : sum room ≤ n) (h : Heights) → Below h room → 0 < count (class_of c) h
    → (i : Input) (o : Outcome (Tall (Tree (phrase_of c))))
    → ((k : ℕ) (low : Heights) → sum low ≤ k → Below h (raise (class_of c) low) → layer mode (reader mode k low) low c i ≡ o)
    → reader mode n room c i ≡ o
unfolding reader
part_read mode c n room few h below some i o by_layer =
    let on : 0 < count (class_of c) room = omega (arith, some, count_below (class_of c) h room below) in
    by_number n few on where
      by_number : (n : ℕ) → sum room ≤ n → 0 < count (class_of c) room → reader mode n room c i ≡ o
      by_number zero few on = absurd (let e = sum_lower (class_of c) room on in omega arith)
      by_number (suc n) few on =
          rw (lt-ltb 0 (count (class_of c) room) on)
          (by_layer n (lower (class_of c) room) (let e = sum_lower (class_of c) room on in omega arith)
          (subst (λ (z : Heights). Below h z) (sym (room_raised (class_of c) room on)) below))

layer_read : (mode : Mode) (n : ℕ) (room : Heights) (c : Entry) (S T : State) (h : Heights) (ts : List Token) (x : Tree (phrase_of c))
    → Reads mode n room (phrase_of c) S h ts x T → (rest : List Token) → Ends mode n room c rest
    → layer mode (reader mode n room) room c (at (ts ++ rest) S) ≡ Ok (tall x h, at rest T)
unfolding er.comma_rule er.binary_rule sees head
layer_read mode n room en.comma S T h ts x r rest ends =
    let s = stopped (r.gives rest (omega arith)) (loose m.Comma 1 (head_of rest) (omega arith) ends) in rw (s.gives, s.loops) refl
layer_read mode n room en.assignment S T h ts x r rest ends = r.gives rest ends
layer_read mode n room en.conditional S T h ts x r rest ends = r.gives rest ends
layer_read mode n room en.cast S T h ts x r rest ends = r.gives rest ends
layer_read mode n room en.unary S T h ts x r rest ends = r.gives rest ends
layer_read mode n room en.init S T h ts x r rest ends = r.gives rest ends
layer_read mode n room (en.binary k) S T h ts x r rest ends =
    let s = stopped (r.gives rest (ends.0, omega arith) (k + 1) (omega arith) (omega arith)) (goes_off (k + 1) rest T ends.1) in rw
    (s.gives, s.loops) refl
layer_read mode n room (en.span b) S T h ts x r rest ends = r.gives rest ends
layer_read mode n room en.members S T h ts x r rest ends = r.gives rest ends
layer_read mode n room (en.declarator kind typed) S T h ts x r rest ends = r.gives rest ends
layer_read mode n room (en.direct kind typed) S T h ts x r rest ends = r.gives rest ends
layer_read mode n room en.statement S T h ts x r rest ends = (r.gives rest (λ _. ends)).rule
layer_read mode n room (en.behind_label a k) S T h ts x r rest ends = (r.gives rest (λ _. ends)).1
layer_read mode n room en.block S T h ts x r rest ends = r.gives rest ends

pub expression_room : {h room : Heights} → Below h room → 0 < count class.expression h → 0 < room.expression
unfolding count
expression_room low some = omega (arith, low.expression)

-- by the claims at its own room
pub child : {mode : Mode} {n : ℕ} {room : Heights} (c : Entry) {S T : State} {h : Heights} {ts : List Token} {x : Tree (phrase_of c)}
    → sum room ≤ n → Below h room → 0 < count (class_of c) h
    → ((k : ℕ) (low : Heights) → sum low ≤ k → Below h (raise (class_of c) low) → Reads mode k low (phrase_of c) S h ts x T)
    → PartReads mode n room c S h ts x T
child {mode = mode} {n = n} {room = room} c {S = S} {T = T} {h = h} {ts = ts} {x = x} few below some claims = record {
  gives = λ rest ends.
      part_read mode c n room few h below some (at (ts ++ rest) S) _
      (λ k low fewer b. layer_read mode k low c S T h ts x (claims k low fewer b) rest ends);
}

-- a statement, closed or not, and what stands behind the name of a label
pub record StatementReads (mode : Mode) (n : ℕ) (room : Heights) (closed : Bool) (S : State) (h : Heights) (ts : List Token) (x : Stmt)
    (T : State) : Type 0 where
  pub gives : (rest : List Token) → (closed ≡ false → is_mark m.Else (head_of rest) ≡ false)
      → reader mode n room en.statement (at (ts ++ rest) S) ≡ Ok (tall x h, at rest T)
  pub label : (rest : List Token) → (closed ≡ false → is_mark m.Else (head_of rest) ≡ false) → (n' : List ℕ)
      → type_name_at S (head_of (ts ++ rest)) ≡ Some n'
      → (sees m.Colon (next (at (ts ++ rest) S)) ≡ true) × (reader mode n room (en.behind_label (at_of (ts ++ rest)) n')
      (next (at (ts ++ rest) S)) ≡ Ok (tall x h, at rest T))

pub statement_child : {mode : Mode} {n : ℕ} {room : Heights} {closed : Bool} {S T : State} {h : Heights} {ts : List Token} {x : Stmt}
    → sum room ≤ n → Below h room → 0 < count class.statement h
    → ((k : ℕ) (low : Heights) → sum low ≤ k → Below h (raise class.statement low) → Reads mode k low (g.statement closed) S h ts x T)
    → StatementReads mode n room closed S h ts x T
statement_child {mode = mode} {n = n} {room = room} {S = S} {h = h} {ts = ts} few below some claims = record {
  gives = λ rest ends. part_read mode en.statement n room few h below some (at (ts ++ rest) S) _
      (λ k low fewer b. ((claims k low fewer b).gives rest ends).rule);
  label = λ rest ends n' is. (
    (((claims n room few (higher_below class.statement h room below)).gives rest ends).label n' is).0,
    part_read mode (en.behind_label (at_of (ts ++ rest)) n') n room few h below some (next (at (ts ++ rest) S)) _
        (λ k low fewer b. (((claims k low fewer b).gives rest ends).label n' is).1),
  );
}

-- the text, parted otherwise
pub placed : {mode : Mode} {n : ℕ} {room : Heights} {p : Phrase} {S T : State} {h : Heights} {ts : List Token} {x : Tree p}
    (us : List Token → List Token) → ((rest : List Token) → us rest ≡ ts ++ rest)
    → ((rest : List Token) → Off mode n room p ts x rest T → Gives mode n room p (at (us rest) S) (tall x h) (at rest T))
    → Reads mode n room p S h ts x T
placed {mode = mode} {n = n} {room = room} {p = p} {S = S} {T = T} {h = h} {x = x} us e f = record {
  gives = λ rest off.
      subst (λ (z : List Token). Gives mode n room p (at z S) (tall x h) (at rest T)) (e rest) (f rest off);
}

pub fits_ok : {h room : Heights} (i : Input) → Below h room → fits room h i ≡ Ok (tt, i)
unfolding fits
fits_ok {h = h} {room = room} i b = rw (below_is h room b) refl

pub first_word : (S : State) (typed : Bool) {ts : List Token} → First (λ o. is_word S typed o) ts → (rest : List Token)
    → spec_comes typed (at (ts ++ rest) S) ≡ true
unfolding spec_comes head
first_word S typed o rest = ap (λ (z : List Token). en.word_at S typed (head_of (z ++ rest))) o.is ∙ o.ok

pub word_first : (S : State) {ts : List Token} → First (λ o. is_word S false o) ts → (rest : List Token)
    → word_comes (at (ts ++ rest) S) ≡ true
unfolding word_comes
word_first S o rest = first_word S false o rest

-- of the first token, of what it is
pub by_first : {P : CTokKind → Bool} {ts : List Token} (Q : Option CTokKind → Bool) (b : Bool)
    → ((o : CTokKind) → P o ≡ true → Q (Some o) ≡ b) → First P ts → (rest : List Token) → Q (head_of (ts ++ rest)) ≡ b
by_first Q b f o rest = ap (λ (z : List Token). Q (head_of (z ++ rest))) o.is ∙ f o.first o.ok

by_start : {A : Type 0} {a b : A} {i j : Input} (more : A → Input → Bool) (step : A → Parser A) (o : Outcome A) → Starts a i b j
    → looped more step b j ≡ o → looped more step a i ≡ o
by_start more step o starts e = e

pub all_turns : {A : Type 0} {a b : A} {i j : Input} {more : A → Input → Bool} {step : A → Parser A} → Led (Starts a i) same more step b j
    → more b j ≡ false → looped more step a i ≡ Ok (b, j)
all_turns {more = more} {step = step} l off = let s = stopped l off in by_start more step _ s.gives s.loops
