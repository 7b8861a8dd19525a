-- Lists are read.
use Rattle.std.proofs.Common.{◌≡◌, ℕ, ◌<◌, ◌≤◌, Bool, true, false, List, [], ◌∷◌, ◌++◌, length, Option, Some, None, Ok, refl, sym, ap, subst, ◌∙◌, arith, append_assoc, length-append}
use Rattle.std.proofs.lemmas.Bool.{lt-ltb}
use Rattle.c_tok.specs.declared.mark.Mark.{Mark}
use Rattle.c_tok.specs.declared.mark.Mark.TheVariants as m
use Rattle.c_tok.specs.declared.token.CTokKind.{CTokKind}
use Rattle.c_tok.specs.declared.token.CTokKind.TheVariants as c
use Rattle.c_tree.specs.declared.at.At.{At}
use Rattle.c_tree.specs.declared.declaration.Init.{Init}
use Rattle.c_tree.specs.declared.declaration.Init.TheVariants as i
use Rattle.c_tree.specs.declared.declaration.InitDeclarator.{InitDeclarator}
use Rattle.c_tree.specs.declared.declaration.Declaration.{Declaration}
use Rattle.c_tree.specs.declared.height.Heights.{Heights}
use Rattle.c_tree.specs.declared.height.Tall.{Tall}
use Rattle.c_tree.specs.Heights as class
use Rattle.c_tree.specs.Heights.{none, join, raise, sum, Below, tall}
use Rattle.c_decl.specs.declared.kind.Mode.{Mode}
use Rattle.c_decl.specs.declared.kind.Mode.TheVariants.{Whole, Spans}
use Rattle.c_decl.specs.Tokens.{Token, mark, ending, head_of, same_mark}
use Rattle.c_decl.specs.State.{State}
use Rattle.c_decl.specs.Marks.{tight}
use Rattle.c_decl.specs.Grammar as g
use Rattle.c_decl.specs.Grammar.{Phrase, Tree, Derives, is_word}
use Rattle.c_decl.specs.Input.{Input, left, next, after, head, here, sees, expect, is_mark}
use Rattle.c_decl.specs.Entries as en
use Rattle.c_decl.specs.Entries.{comma_then, then_one, comma_before, spec_comes, word_comes}
use Rattle.c_decl.specs.Declarators as dr
use Rattle.c_decl.specs.Expressions as er
use Rattle.c_decl.specs.Statements as sr
use Rattle.c_decl.specs.Reading.{reader}
use Rattle.c_decl.proofs.Runs.{at}
use Rattle.c_decl.proofs.Led.{begun, turned, stopped}
use Rattle.c_decl.proofs.Begins.{First, is_item, begins, starts, starts_of, slot_starts, off_first, at_mark}
use Rattle.c_decl.proofs.Claims.{stops, ends_option, item_off, raised_for, Reads, ItemReads, item_parser, item_given, item_more, some_more, is_listed, InitGiven, DeclarationGiven, specs_alone, with_list}
use Rattle.c_decl.proofs.Children.{placed, word_first, child, counted}

module _ (mode : Mode) (n : ℕ) (room : Heights) where
  pub init_given : {typed is_typedef : Bool} {i j : Input} {x : Tall InitDeclarator} → InitGiven mode n room typed is_typedef i x j
      → sr.init_declarator mode (reader mode n room) room typed is_typedef i ≡ Ok (x, j)
  unfolding sr.init_declarator
  init_given g = rw (g.first, g.second) refl

  pub declaration_given : {i j : Input} {x : Tall Declaration} → DeclarationGiven mode n room i x j
      → sr.declaration mode (reader mode n room) room i ≡ Ok (x, j)
  unfolding sr.declaration sr.declared_list en.parted after expect sees head same_mark
  declaration_given (specs_alone first ends) = rw (first, ends) refl
  declaration_given (with_list {l = l} first off list ends) =
      let s = stopped list (at_mark (is_mark m.Comma) m.Semicolon (head_of l.rest) ends) in
      let one = init_given s.gives in
      rw (first, off, one, s.loops, ends) refl

  pub item_parsed : (p : Phrase) (i j : Input) (x : Tall (Tree p)) → item_given mode n room p i x j
      → item_parser mode n room p i ≡ Ok (x, j)
  item_parsed (g.field w typed) i j x h = h.0
  item_parsed (g.init_declarator typed is_typedef) i j x h = init_given h
  item_parsed _ i j x h = h

pub item_reads : {mode : Mode} {n : ℕ} {room : Heights} (p : Phrase) {S T : State} {h : Heights} {ts : List Token} {x : Tree p}
    → sum room ≤ n → Below h room → Derives mode p S h ts x T
    → ((k : ℕ) (low : Heights) → sum low ≤ k → Below h (raised_for p low) → Reads mode k low p S h ts x T) → is_item p ≡ true
    → ItemReads mode n room p S h ts x T
item_reads {n = n} {room = room} g.assignment few low d claims item = record
    { gives = (child en.assignment few low (counted d) claims).gives }
item_reads {n = n} {room = room} g.init few low d claims item = record { gives = (child en.init few low (counted d) claims).gives }
item_reads {n = n} {room = room} g.enumerator few low d claims item = record { gives = (claims n room few low).gives }
item_reads {n = n} {room = room} (g.field w typed) few low d claims item = record { gives = (claims n room few low).gives }
item_reads {n = n} {room = room} g.param few low d claims item = record { gives = (claims n room few low).gives }
item_reads {n = n} {room = room} (g.init_declarator typed is_typedef) few low d claims item = record
    { gives = (claims n room few low).gives }
item_reads {n = n} {room = room} g.member few low d claims item = record { gives = (claims n room few low).gives }
item_reads {mode = mode} {n = n} {room = room} g.declaration few low d claims item = record
    { gives = λ rest off. declaration_given mode n room ((claims n room few low).gives rest off) }
item_reads {n = n} {room = room} g.external few low d claims item = record { gives = (claims n room few low).gives }
item_reads _ few low d claims item = absurd cc

-- ---- parted by commas

comma_off : (p : Phrase) → is_item p ≡ true → item_off p (Some (c.Mark m.Comma))
comma_off g.assignment item = omega arith
comma_off g.init item = omega arith
comma_off g.enumerator item = refl
comma_off (g.field w typed) item = refl
comma_off g.param item = refl
comma_off (g.init_declarator typed is_typedef) item = refl
comma_off g.member item = tt
comma_off g.declaration item = tt
comma_off g.external item = tt
comma_off _ item = absurd cc

pub first_length : {P : CTokKind → Bool} {ts : List Token} → First P ts → (rest : List Token) → 0 < length (ts ++ rest)
first_length o rest = rw o.is (omega arith)

module _ (mode : Mode) (n : ℕ) (room : Heights) where
  comma_more : (p : Phrase) (a : At) (T : State) (us rest : List Token) → First (starts_of mode p T) us
      → item_more mode n room p (at (mark a m.Comma ++ (us ++ rest)) T) ≡ true
  unfolding comma_before sees head next same_mark
  comma_more g.init a T us rest o = rw (off_first m.CloseBrace refl o rest) refl
  comma_more g.enumerator a T us rest o = rw (off_first m.CloseBrace refl o rest) refl
  comma_more g.param a T us rest o = rw (off_first m.Ellipsis refl o rest) refl
  comma_more _ a T us rest o = refl

  comes_more : (p : Phrase) (T : State) (us rest : List Token) → First (starts_of mode p T) us
      → some_more mode n room p (at (us ++ rest) T) ≡ true
  unfolding sees head left
  comes_more g.member T us rest o = rw (off_first m.CloseBrace refl o rest) refl
  comes_more g.declaration T us rest o = word_first T o rest
  comes_more _ T us rest o = lt-ltb 0 (length (us ++ rest)) (first_length o rest)

listed_item : (p : Phrase) → is_listed p ≡ true → is_item p ≡ true
listed_item g.member listed = refl
listed_item g.declaration listed = refl
listed_item g.external listed = refl
listed_item _ listed = absurd cc

listed_off : (p : Phrase) (o : Option CTokKind) → is_listed p ≡ true → item_off p o
listed_off g.member o listed = tt
listed_off g.declaration o listed = tt
listed_off g.external o listed = tt
listed_off _ o listed = absurd cc

pub shorter : {P : CTokKind → Bool} (us rest : List Token) → First P us → length rest < length (us ++ rest)
shorter us rest o = rw o.is (simp length-append (omega arith))

seen_stop : (stop : Mark) (o : Option CTokKind) → ends_option stop ≡ true → o ≡ Some (c.Mark stop) → is_mark stop o ≡ true
unfolding same_mark
seen_stop stop o one is = ap (is_mark stop) is ∙ by_mark stop one where
  by_mark : (stop : Mark) → ends_option stop ≡ true → is_mark stop (Some (c.Mark stop)) ≡ true
  by_mark m.Semicolon one = refl
  by_mark m.CloseParen one = refl
  by_mark _ one = absurd cc

stop_tight : (stop : Mark) (o : Option CTokKind) → ends_option stop ≡ true → o ≡ Some (c.Mark stop) → tight o < 1
stop_tight stop o one is = subst (λ (z : Option CTokKind). tight z < 1) (sym is) (by_mark stop one) where
  by_mark : (stop : Mark) → ends_option stop ≡ true → tight (Some (c.Mark stop)) < 1
  by_mark m.Semicolon one = omega arith
  by_mark m.CloseParen one = omega arith
  by_mark _ one = absurd cc

slot_bracket : (mode : Mode) (S : State) → slot_starts mode S (c.Mark m.CloseBracket) ≡ false
slot_bracket Whole S = refl
slot_bracket Spans S = refl

start_stop : (S : State) (stop : Mark) → ends_option stop ≡ true → starts S (c.Mark stop) ≡ false
start_stop S m.Semicolon one = refl
start_stop S m.CloseParen one = refl
start_stop S _ one = absurd cc

module _ {mode : Mode} {n : ℕ} {room : Heights} where
  pub one_reads : {p : Phrase} {S T : State} {h : Heights} {ts : List Token} {x : Tree p}
      → (is_item p ≡ true → ItemReads mode n room p S h ts x T) → Reads mode n room (g.parted p) S h ts (x ∷ []) T
  one_reads r = record { gives = λ rest off item. begun _ ((r item).gives rest off) }

  pub another_reads : {p : Phrase} {S T U : State} {h f : Heights} (a : At) {ts us : List Token} {xs : List (Tree p)} {y : Tree p}
      → (is_item p ≡ true → First (starts_of mode p T) us)
      → Reads mode n room (g.parted p) S h ts xs T → (is_item p ≡ true → ItemReads mode n room p T f us y U)
      → Reads mode n room (g.parted p) S (join h f) (ts ++ mark a m.Comma ++ us) (xs ++ y ∷ []) U
  unfolding comma_then next left
  another_reads {p = p} {T = T} {U = U} {f = f} a {ts = ts} {us = us} {y = y} o r q = placed
      (λ rest. ts ++ (mark a m.Comma ++ (us ++ rest))) (λ rest. simp append_assoc) (λ rest off item.
      turned (r.gives (mark a m.Comma ++ (us ++ rest)) (comma_off p item) item) (comma_more mode n room p a T us rest (o item))
      (rw (item_parsed mode n room p (at (us ++ rest) T) (at rest U) (tall y f) ((q item).gives rest off)) refl)
      (simp length-append (omega arith)))

  pub first_reads : {p : Phrase} {S T : State} {h : Heights} {ts : List Token} {x : Tree p}
      → (is_item p ≡ true → ItemReads mode n room p S h ts x T) → Reads mode n room (g.some p) S h ts (x ∷ []) T
  first_reads {p = p} {S = S} {T = T} {h = h} {ts = ts} {x = x} r = record {
    gives = λ rest off listed. begun _ (item_parsed mode n room p (at (ts ++ rest) S) (at rest T) (tall x h)
        ((r (listed_item p listed)).gives rest (listed_off p (head_of rest) listed)));
  }

  pub further_reads : {p : Phrase} {S T U : State} {h f : Heights} {ts us : List Token} {xs : List (Tree p)} {y : Tree p}
      → (is_item p ≡ true → First (starts_of mode p T) us)
      → Reads mode n room (g.some p) S h ts xs T → (is_item p ≡ true → ItemReads mode n room p T f us y U)
      → Reads mode n room (g.some p) S (join h f) (ts ++ us) (xs ++ y ∷ []) U
  unfolding then_one left
  further_reads {p = p} {T = T} {U = U} {f = f} {ts = ts} {us = us} {y = y} o r q = placed (λ rest. ts ++ (us ++ rest))
      (λ rest. simp append_assoc) (λ rest off listed.
      turned (r.gives (us ++ rest) tt listed) (comes_more mode n room p T us rest (o (listed_item p listed)))
      (rw (item_parsed mode n room p (at (us ++ rest) T) (at rest U) (tall y f)
      ((q (listed_item p listed)).gives rest (listed_off p (head_of rest) listed))) refl)
      (shorter us rest (o (listed_item p listed))))

  pub braces_reads : {S T : State} {h : Heights} (a b b' : At) (comma_ends : Bool) {ts : List Token} {xs : List Init}
      → Reads mode n room (g.parted g.init) S h ts xs T
      → Reads mode n room g.init S (raise class.initializer h) (mark a m.OpenBrace ++ ts ++ ending comma_ends b ++ mark b' m.CloseBrace)
      (i.Braces a xs comma_ends) T
  unfolding er.init_rule er.braces en.parted_before sees head after next here expect same_mark comma_before
  braces_reads a b b' true {ts = ts} r = placed (λ rest. mark a m.OpenBrace ++ (ts ++ (mark b m.Comma ++ (mark b' m.CloseBrace ++ rest))))
      (λ rest. simp append_assoc) (λ rest off.
      let s = stopped (r.gives (mark b m.Comma ++ (mark b' m.CloseBrace ++ rest)) (omega arith) refl) refl in rw (s.gives, s.loops) refl)
  braces_reads a b b' false {ts = ts} r = placed (λ rest. mark a m.OpenBrace ++ (ts ++ (mark b' m.CloseBrace ++ rest)))
      (λ rest. simp append_assoc) (λ rest off.
      let s = stopped (r.gives (mark b' m.CloseBrace ++ rest) (omega arith) refl) refl in rw (s.gives, s.loops) refl)

  -- ---- one or none

  pub left_out_reads : (p : Phrase) {S : State} → Reads mode n room (g.optional p) S none [] None S
  unfolding dr.size sr.expr_before sr.old_declarations word_comes spec_comes sees head same_mark
  left_out_reads g.slot = record { gives = λ rest ends. rw ends refl }
  left_out_reads g.comma = record { gives = λ rest ends stop one is. rw (seen_stop stop (head_of rest) one is) refl }
  left_out_reads (g.some g.declaration) {S = S} = record
      { gives = λ rest ends. rw (at_mark (en.word_at S false) m.OpenBrace (head_of rest) ends) refl }
  left_out_reads _ = record { gives = λ rest ends. tt }

  pub given_reads : (p : Phrase) {S T : State} {h : Heights} {ts : List Token} {x : Tree p} → sum room ≤ n → Below h room
      → Derives mode p S h ts x T
      → ((k : ℕ) (low : Heights) → sum low ≤ k → Below h (raised_for p low) → Reads mode k low p S h ts x T)
      → Reads mode n room (g.optional p) S h ts (Some x) T
  unfolding dr.size sr.expr_before sr.old_declarations en.some_while word_comes spec_comes sees head same_mark
  given_reads g.slot {S = S} few low d claims = record {
    gives = λ rest ends.
        rw (
          off_first m.CloseBracket (slot_bracket mode S) (begins d) rest,
          (claims n room few low).gives rest
              (at_mark stops m.CloseBracket (head_of rest) ends),
        ) refl;
  }
  given_reads g.comma {S = S} few low d claims = record {
    gives = λ rest ends stop one is.
        rw (
          off_first stop (start_stop S stop one) (begins d) rest,
          (child en.comma few low (counted d) claims).gives rest
              (stop_tight stop (head_of rest) one is),
        ) refl;
  }
  given_reads (g.some g.declaration) {S = S} {T = T} few low d claims = record {
    gives = λ rest ends.
        let s = stopped ((claims n room few low).gives rest tt refl) (at_mark (en.word_at T false) m.OpenBrace (head_of rest) ends) in
        rw (word_first S (begins d refl) rest, s.gives, s.loops) refl;
  }
  given_reads _ few low d claims = record { gives = λ rest ends. tt }
