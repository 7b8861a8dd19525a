-- Declarators are read.
use Rattle.std.proofs.Common.{◌≡◌, ℕ, Bool, true, false, not, List, [], ◌∷◌, ◌++◌, length, Option, Some, None, Ok, refl, sym, ap, ◌∙◌, arith, append_assoc, length-append}
use Rattle.std.specs.Prelude.{◌&&◌, ◌||◌, is_some}
use Rattle.c_tok.specs.declared.mark.Mark.TheVariants as m
use Rattle.c_tok.specs.declared.token.CTokKind.{CTokKind}
use Rattle.c_tok.specs.declared.token.CTokKind.TheVariants as c
use Rattle.c_tree.specs.declared.at.At.{At}
use Rattle.c_tree.specs.declared.operator.PointerWord.{PointerWord}
use Rattle.c_tree.specs.declared.expr.Slot.{Slot}
use Rattle.c_tree.specs.declared.expr.Specs.{Specs}
use Rattle.c_tree.specs.declared.expr.Declarator.TheVariants as d
use Rattle.c_tree.specs.declared.expr.Param.{Param}
use Rattle.c_tree.specs.declared.declaring.Declaring.{Declaring}
use Rattle.c_tree.specs.declared.declaring.Params.{Params}
use Rattle.c_tree.specs.declared.declaration.Init.{Init}
use Rattle.c_tree.specs.declared.height.Heights.{Heights}
use Rattle.c_tree.specs.declared.height.Tall.{Tall}
use Rattle.c_tree.specs.Heights as class
use Rattle.c_tree.specs.Heights.{none, join, raise, Below, tall}
use Rattle.c_names.specs.declared.names.Declared.{Declared}
use Rattle.c_decl.specs.declared.kind.DeclKind.{DeclKind}
use Rattle.c_decl.specs.declared.kind.DeclKind.TheVariants as k
use Rattle.c_decl.specs.declared.kind.Mode.{Mode}
use Rattle.c_decl.specs.declared.marking.Marked.TheVariants.{OldStyle}
use Rattle.c_decl.specs.Tokens.{Token, tok, mark, name, is_empty, head_of, same_mark}
use Rattle.c_decl.specs.State.{State, is_type, declares, leave, declared_since, leave_out}
use Rattle.c_decl.specs.Marks.{pointer_of}
use Rattle.c_decl.specs.Grammar as g
use Rattle.c_decl.specs.Grammar.{Tree, is_word, begins_specs, is_named, is_abstract, nothing, called, around, function_of, no_params}
use Rattle.c_decl.specs.Input.{Input, Parser, left, next, after, head, here, sees, expect, is_mark}
use Rattle.c_decl.specs.Entries as en
use Rattle.c_decl.specs.Entries.{Entry, phrase_of, names_declarator, comma_before, spec_comes, word_comes, direct_comes, declarator_comes, suffix_comes, pointer_comes}
use Rattle.c_decl.specs.Declarators as dr
use Rattle.c_decl.specs.Statements as sr
use Rattle.c_decl.specs.Reading.{reader}
use Rattle.c_decl.proofs.Runs.{at}
use Rattle.std.proofs.lemmas.List.{take_all}
use Rattle.c_decl.proofs.Led.{begun, turned, stopped}
use Rattle.c_decl.proofs.Begins.{First, shape_starts, plain_ident, or_first, or_second, excluded, off_first, at_mark}
use Rattle.c_decl.proofs.Claims.{stops, parts, behind_declarator, starts, Reads, PartReads, ParamsGiven, no_list, a_list}
use Rattle.c_decl.proofs.Children.{placed, fits_ok, stops_are, stops_tight, parts_stop, not_yes, word_first, by_first, all_turns}
use Rattle.c_decl.proofs.CompleteSpecs.{shape_word, stops_suffix}

names_pointer : (kind : DeclKind) (typed : Bool) (S : State) (o : CTokKind) → names_declarator kind typed S (Some o) ≡ true
    → is_some (pointer_of (Some o)) ≡ false
names_pointer kind typed S (c.Ident x) e = refl
names_pointer kind typed S (c.Mark m.OpenParen) e = refl
names_pointer kind typed S (c.Mark m.OpenBracket) e = refl
names_pointer kind typed S _ e = absurd cc

stops_pointer : (o : Option CTokKind) → stops o ≡ true → is_some (pointer_of o) ≡ false
stops_pointer o e = not_yes _ (stops_are (λ (z : Option CTokKind). not (is_some (pointer_of z))) refl refl refl refl refl refl o e)

stops_names : (kind : DeclKind) (typed : Bool) (S : State) (o : Option CTokKind) → stops o ≡ true → names_declarator kind typed S o ≡ false
stops_names kind typed S o e = not_yes _
    (stops_are (λ (z : Option CTokKind). not (names_declarator kind typed S z)) refl refl refl refl refl refl o e)

stops_word : (S : State) (typed : Bool) (o : Option CTokKind) → stops o ≡ true → en.word_at S typed o ≡ false
stops_word S typed o e = not_yes _ (stops_are (λ (z : Option CTokKind). not (en.word_at S typed z)) refl refl refl refl refl refl o e)

stops_shape : (kind : DeclKind) (typed : Bool) (rest : List Token) (S : State) → stops (head_of rest) ≡ true
    → declarator_comes kind typed (at rest S) ≡ false
unfolding declarator_comes direct_comes sees head
stops_shape kind typed rest S e = rw (excluded stops m.Star refl (head_of rest) e, stops_names kind typed S (head_of rest) e) refl

shape_comes : (kind : DeclKind) (typed : Bool) (S : State) (o : CTokKind) → shape_starts kind typed S o ≡ true
    → is_mark m.Star (Some o) || names_declarator kind typed S (Some o) ≡ true
unfolding same_mark
shape_comes kind typed S (c.Mark m.Star) e = refl
shape_comes kind typed S (c.Mark m.OpenParen) e = refl
shape_comes kind typed S (c.Mark m.OpenBracket) e = refl
shape_comes kind typed S (c.Ident x) e = e
shape_comes kind typed S _ e = absurd cc

pub shape_first : (kind : DeclKind) (typed : Bool) (S : State) {ts : List Token} → First (shape_starts kind typed S) ts
    → (rest : List Token) → declarator_comes kind typed (at (ts ++ rest) S) ≡ true
unfolding declarator_comes direct_comes sees head
shape_first kind typed S o rest = by_first (λ z. is_mark m.Star z || names_declarator kind typed S z) true (shape_comes kind typed S) o rest

-- behind specifiers
pub specs_shape : (kind : DeclKind) (typed : Bool) (T : State) {us : List Token} → First (shape_starts kind typed T) us
    → (rest : List Token)
    → (is_mark m.OpenBrace (head_of (us ++ rest)) ≡ false) × (en.word_at T typed (head_of (us ++ rest)) ≡ false)
specs_shape kind typed T o rest = (
  off_first m.OpenBrace refl o rest,
  by_first (en.word_at T typed)
      false (shape_word kind typed T) o rest,
)

specs_stop : (typed : Bool) (T : State) (rest : List Token) → stops (head_of rest) ≡ true
    → (is_mark m.OpenBrace (head_of rest) ≡ false) × (en.word_at T typed (head_of rest) ≡ false)
specs_stop typed T rest e = (excluded stops m.OpenBrace refl (head_of rest) e, stops_word T typed (head_of rest) e)

leave_same : (S : State) → leave S S ≡ S
unfolding leave
leave_same S = ap (λ (z : List Declared). record S { names = z }) (take_all (length S.names) S.names (omega arith))

ident_word : (S : State) (o : CTokKind) → plain_ident S o ≡ true → is_word S false o ≡ false
ident_word S (c.Ident x) e = not_yes _ e
ident_word S _ e = absurd cc

parts_behind : (o : Option CTokKind) → parts o ≡ true → (behind_declarator o ≡ true) × (is_mark m.Assign o ≡ false)
unfolding same_mark
parts_behind (Some (c.Mark m.Comma)) e = (refl, refl)
parts_behind (Some (c.Mark m.Semicolon)) e = (refl, refl)
parts_behind _ e = absurd cc

-- a parenthesis that opens no list of parameters
group_off : (kind : DeclKind) (typed : Bool) (S : State) (ts rest : List Token) → is_named kind || not (begins_specs S ts) ≡ true
    → First (shape_starts kind typed S) ts
    → not (is_named kind) && (word_comes (at (ts ++ rest) S) || is_mark m.CloseParen (head_of (ts ++ rest))) ≡ false
unfolding word_comes spec_comes head
group_off kind typed S ts rest ok o = by_test (is_named kind) ok where
  close : is_mark m.CloseParen (head_of (ts ++ rest)) ≡ false
  close = off_first m.CloseParen refl o rest

  same_word : en.word_at S false (head_of (ts ++ rest)) ≡ begins_specs S ts
  same_word = ap (λ (z : List Token). en.word_at S false (head_of (z ++ rest))) o.is ∙ sym (ap (λ (z : List Token). begins_specs S z) o.is)

  by_test : (b : Bool) → b || not (begins_specs S ts) ≡ true
      → not b && (en.word_at S false (head_of (ts ++ rest)) || is_mark m.CloseParen (head_of (ts ++ rest))) ≡ false
  by_test true e = refl
  by_test false e = rw (same_word, not_yes _ e, close) refl

module _ (mode : Mode) (n : ℕ) (room : Heights) where
  abbrev Room : (c : Entry) → Parser (Tall (Tree (phrase_of c)))
  Room = reader mode n room

  params_open : {i j : Input} {x : Tall Params} → ParamsGiven mode n room i x j → word_comes i || sees m.CloseParen i ≡ true
  params_open (no_list off closes) = or_second _ _ closes
  params_open (a_list on is) = or_first _ _ on

  list_given : {i : Input} {b : At} {rest : List Token} {U : State} {x : Tall Params} (y : Tall Declaring) (a : At)
      → ParamsGiven mode n room i x (at (mark b m.CloseParen ++ rest) U) → Below y.height room
      → dr.list mode Room room y a i ≡ Ok (
        tall (function_of a y.tree x.tree (declared_since i.state U))
            (raise class.declarator (join y.height x.height)),
        at rest (leave i.state U),
      )
  unfolding dr.list dr.function sees head next expect same_mark
  list_given {rest = rest} {U = U} y a (no_list off closes) low = rw (fits_ok (at (mark _ m.CloseParen ++ rest) U) low, off, leave_same U)
      refl
  list_given {i = i} y a (a_list on is) low = rw (fits_ok i low, on, is) refl

module _ {mode : Mode} {n : ℕ} {room : Heights} where
  pub straight_reads : {kind : DeclKind} {typed : Bool} {S T : State} {h : Heights} {ts : List Token} {x : Declaring}
      → First (λ o. names_declarator kind typed S (Some o)) ts
      → Reads mode n room (g.direct kind typed) S h ts x T → Reads mode n room (g.declarator kind typed) S h ts x T
  unfolding dr.declarator_rule sees head after
  straight_reads {kind = kind} {typed = typed} {S = S} o r = record
      { gives = λ rest ends. rw (off_first m.Star refl o rest) (r.gives rest ends.0) }

  pub starred_reads : {kind : DeclKind} {typed : Bool} {S T U : State} {h f : Heights} (a : At) {ts us : List Token}
      {ws : List PointerWord} {x : Declaring} → First (λ o. names_declarator kind typed T (Some o)) us
      → Reads mode n room g.pointer_words S h ts ws T → PartReads mode n room (en.direct kind typed) T f us x U
      → Reads mode n room (g.declarator kind typed) S (raise class.declarator (join h f)) (mark a m.Star ++ ts ++ us)
      (around (d.Pointer a ws x.tree) x) U
  unfolding dr.declarator_rule dr.starred dr.pointed dr.pointer_words direct_comes pointer_comes sees head after next here same_mark
  starred_reads {kind = kind} {typed = typed} {T = T} a {ts = ts} {us = us} o r p = placed (λ rest. mark a m.Star ++ (ts ++ (us ++ rest)))
      (λ rest. simp append_assoc) (λ rest ends.
      let all = all_turns (r.gives (us ++ rest) tt) (by_first (λ z. is_some (pointer_of z)) false (names_pointer kind typed T) o rest) in
      let more = or_second (is_named kind) _ (by_first (names_declarator kind typed T) true (λ z e. e) o rest) in
      rw (all, more, p.gives rest ends.0) refl)

  pub pointed_reads : {kind : DeclKind} {typed : Bool} {S T : State} {h : Heights} (a : At) {ts : List Token} {ws : List PointerWord}
      → is_named kind ≡ false
      → Reads mode n room g.pointer_words S h ts ws T
      → Reads mode n room (g.declarator kind typed) S (raise class.declarator h) (mark a m.Star ++ ts)
      (around (d.Pointer a ws d.Nothing) nothing) T
  unfolding dr.declarator_rule dr.starred dr.pointer_words direct_comes pointer_comes sees head after next here same_mark
  pointed_reads {kind = kind} {typed = typed} {T = T} a {ts = ts} is r = record {
    gives = λ rest ends.
        let stop = ends.1 is in
        let all = all_turns (r.gives rest tt) (stops_pointer (head_of rest) stop) in
        rw (all, is, stops_names kind typed T (head_of rest) stop) refl;
  }

  pub no_words_read : {S : State} → Reads mode n room g.pointer_words S none [] [] S
  no_words_read = record { gives = λ rest _. begun _ starts }

  pub more_words_read : {S T : State} {h : Heights} (a : At) (o : CTokKind) {ts : List Token} {w : PointerWord} {ws : List PointerWord}
      → pointer_of (Some o) ≡ Some w
      → Reads mode n room g.pointer_words S h ts ws T → Reads mode n room g.pointer_words S h (ts ++ (tok o a ∷ [])) (ws ++ w ∷ []) T
  unfolding dr.pointer_word pointer_comes head next left
  more_words_read a o {ts = ts} is r = placed (λ rest. ts ++ ((tok o a ∷ []) ++ rest)) (λ rest. simp append_assoc) (λ rest _.
      turned (r.gives ((tok o a ∷ []) ++ rest) tt) (ap is_some is) (rw is refl) (omega arith))

  pub solid_reads : {kind : DeclKind} {typed : Bool} {S T : State} {h : Heights} {ts : List Token} {x : Declaring} → is_empty ts ≡ false
      → Reads mode n room (g.stem kind typed) S h ts x T
      → Reads mode n room (g.direct kind typed) S h ts x T
  unfolding dr.direct_rule suffix_comes sees head
  solid_reads some r = record { gives = λ rest ends. let s = stopped (r.gives rest (λ e. absurd cc)) ends in rw (s.gives, s.loops) refl }

  pub absent_reads : {kind : DeclKind} {typed : Bool} {S : State} → Reads mode n room (g.stem kind typed) S none [] nothing S
  absent_reads = record { gives = λ rest off. begun _ (off refl) }

  pub naming_reads : {kind : DeclKind} {typed : Bool} {S : State} {a : At} {k : List ℕ} → is_abstract kind ≡ false
      → typed || not (is_type S k) ≡ true
      → Reads mode n room (g.stem kind typed) S (raise class.declarator none) (name a k) (called a k) S
  unfolding dr.base here head next
  naming_reads {a = a} {k = k} is ok = record
      { gives = λ rest off. begun (tall (called a k) (raise class.declarator none)) (rw (is, ok) refl) }

  pub grouped_reads : {kind : DeclKind} {typed : Bool} {S T : State} {h : Heights} (a b : At) {ts : List Token} {x : Declaring}
      → is_named kind || not (begins_specs S ts) ≡ true → First (shape_starts kind typed S) ts
      → PartReads mode n room (en.declarator kind typed) S h ts x T
      → Reads mode n room (g.stem kind typed) S (raise class.declarator h) (mark a m.OpenParen ++ ts ++ mark b m.CloseParen)
      (around (d.Grouped a x.tree) x) T
  unfolding dr.base dr.grouped en.opens_params here head next sees expect same_mark
  grouped_reads {kind = kind} {typed = typed} {S = S} {h = h} a b {ts = ts} {x = x} ok o p = placed
      (λ rest. mark a m.OpenParen ++ (ts ++ (mark b m.CloseParen ++ rest))) (λ rest. simp append_assoc) (λ rest off.
      begun (tall (around (d.Grouped a x.tree) x) (raise class.declarator h))
      (rw (group_off kind typed S ts (mark b m.CloseParen ++ rest) ok o, p.gives (mark b m.CloseParen ++ rest) (refl, λ _. refl)) refl))

  pub array_reads : {kind : DeclKind} {typed : Bool} {S T U : State} {h f : Heights} (a b : At) {ts us : List Token} {x : Declaring}
      {size : Option Slot} → Below h room → (is_empty ts ≡ true → (x ≡ nothing) × (is_named kind ≡ false))
      → Reads mode n room (g.stem kind typed) S h ts x T → Reads mode n room (g.optional g.slot) T f us size U
      → Reads mode n room (g.stem kind typed) S (raise class.declarator (join h f))
      (ts ++ mark a m.OpenBracket ++ us ++ mark b m.CloseBracket) (around (d.Array (g.begins a x) x.tree size) x) U
  unfolding dr.base dr.suffix dr.array suffix_comes here head next sees expect same_mark left
  array_reads {T = T} a b {ts = ts} {us = us} low bare r p = placed
      (λ rest. ts ++ (mark a m.OpenBracket ++ (us ++ (mark b m.CloseBracket ++ rest)))) (λ rest. simp append_assoc) (λ rest off.
      turned (r.gives (mark a m.OpenBracket ++ (us ++ (mark b m.CloseBracket ++ rest))) (λ e. rw ((bare e).1) refl)) refl
      (rw (fits_ok (at (us ++ (mark b m.CloseBracket ++ rest)) T) low, p.gives (mark b m.CloseBracket ++ rest) refl) refl)
      (simp length-append (omega arith)))

  pub function_reads : {kind : DeclKind} {typed : Bool} {S T U : State} {h f : Heights} (a b : At) {ts us : List Token} {x : Declaring}
      {ps : Params} → Below h room → (is_empty ts ≡ true → (x ≡ nothing) × (is_named kind ≡ false))
      → Reads mode n room (g.stem kind typed) S h ts x T → Reads mode n room g.params T f us ps U
      → Reads mode n room (g.stem kind typed) S (raise class.declarator (join h f)) (ts ++ mark a m.OpenParen ++ us ++ mark b m.CloseParen)
      (function_of a x ps (declared_since T U)) (leave T U)
  unfolding dr.base dr.suffix en.opens_params suffix_comes here head next sees same_mark left
  function_reads {T = T} {U = U} {h = h} {f = f} a b {ts = ts} {us = us} {x = x} low bare r p = placed
      (λ rest. ts ++ (mark a m.OpenParen ++ (us ++ (mark b m.CloseParen ++ rest)))) (λ rest. simp append_assoc) (λ rest off.
      let given = p.gives (mark b m.CloseParen ++ rest) refl in
      turned (r.gives (mark a m.OpenParen ++ (us ++ (mark b m.CloseParen ++ rest)))
      (λ e. rw ((bare e).1, params_open mode n room given) refl)) refl
      (list_given mode n room (tall x h) a given low) (simp length-append (omega arith)))

  pub old_style_reads : {kind : DeclKind} {typed : Bool} {S T U : State} {h f : Heights} (a b : At) {ts us : List Token} {x : Declaring}
      → Below h room → (is_empty ts ≡ true → (x ≡ nothing) × (is_named kind ≡ false))
      → is_some x.name ≡ true → First (plain_ident T) us → Reads mode n room (g.stem kind typed) S h ts x T
      → Reads mode n room g.identifiers T f us tt U
      → Reads mode n room (g.stem kind typed) S (raise class.declarator (join h f)) (ts ++ mark a m.OpenParen ++ us ++ mark b m.CloseParen)
      (function_of a x no_params []) (leave_out OldStyle (g.begins a x) U)
  unfolding dr.suffix dr.list dr.old_style word_comes spec_comes suffix_comes here head next sees expect same_mark left
  old_style_reads {T = T} {U = U} {h = h} {f = f} a b {ts = ts} {us = us} {x = x} low bare is o r p = placed
      (λ rest. ts ++ (mark a m.OpenParen ++ (us ++ (mark b m.CloseParen ++ rest)))) (λ rest. simp append_assoc) (λ rest off.
      let given = p.gives (mark b m.CloseParen ++ rest) tt in
      let s = stopped given.1 refl in
      turned {d = tall (function_of a x no_params []) (raise class.declarator (join h f))}
      {k = at rest (leave_out OldStyle (g.begins a x) U)} (r.gives (mark a m.OpenParen ++ (us ++ (mark b m.CloseParen ++ rest)))
      (λ e. absurd (let n = ap (λ (z : Declaring). is_some z.name) ((bare e).0) in cc))) refl
      (rw (
        given.0,
        fits_ok (at (us ++ (mark b m.CloseParen ++ rest)) T) low,
        by_first (en.word_at T false) false (ident_word T) o
            (mark b m.CloseParen ++ rest),
        off_first m.CloseParen refl o (mark b m.CloseParen ++ rest),
        is,
        s.gives,
        s.loops,
      ) refl)
      (simp length-append (omega arith)))

  pub an_identifier_reads : {S : State} {a : At} {k : List ℕ} → is_type S k ≡ false → Reads mode n room g.identifiers S none (name a k) tt S
  unfolding dr.identifier head next
  an_identifier_reads is = record { gives = λ rest _. (refl, begun tt (rw is refl)) }

  pub more_identifiers_read : {S T : State} {h : Heights} (a b : At) (k : List ℕ) {ts : List Token} → is_type T k ≡ false
      → Reads mode n room g.identifiers S h ts tt T
      → Reads mode n room g.identifiers S h (ts ++ mark a m.Comma ++ name b k) tt T
  unfolding dr.next_identifier dr.identifier sees head next same_mark left
  more_identifiers_read a b k {ts = ts} is r = placed (λ rest. ts ++ (mark a m.Comma ++ (name b k ++ rest))) (λ rest. simp append_assoc)
      (λ rest _.
      let given = r.gives (mark a m.Comma ++ (name b k ++ rest)) tt in (given.0, turned given.1 refl (rw is refl) (omega arith)))

  -- ---- parameters and types

  pub no_parameters_read : {S : State} → Reads mode n room g.params S none [] no_params S
  unfolding word_comes spec_comes sees head same_mark
  no_parameters_read {S = S} = record { gives = λ rest ends. no_list (at_mark (en.word_at S false) m.CloseParen (head_of rest) ends) ends }

  pub some_parameters_read : {S T : State} {h : Heights} {ts : List Token} {xs : List Param} → First (λ o. is_word S false o) ts
      → Reads mode n room (g.parted g.param) S h ts xs T
      → Reads mode n room g.params S h ts (record { items = xs; is_variadic = false }) T
  unfolding dr.params en.parted_before comma_before sees head after same_mark
  some_parameters_read {S = S} o r = record {
    gives = λ rest ends.
        let stop = at_mark stops m.CloseParen (head_of rest) ends in
        let off = at_mark (is_mark m.Comma) m.CloseParen (head_of rest) ends in
        let s = stopped (r.gives rest stop refl) (rw off refl) in
        a_list (word_first S o rest) (rw (s.gives, s.loops, off) refl);
  }

  pub variadic_reads : {S T : State} {h : Heights} (a b : At) {ts : List Token} {xs : List Param} → First (λ o. is_word S false o) ts
      → Reads mode n room (g.parted g.param) S h ts xs T
      → Reads mode n room g.params S h (ts ++ mark a m.Comma ++ mark b m.Ellipsis) (record { items = xs; is_variadic = true }) T
  unfolding dr.params en.parted_before comma_before sees head after next expect same_mark
  variadic_reads {S = S} a b {ts = ts} o r = placed (λ rest. ts ++ (mark a m.Comma ++ (mark b m.Ellipsis ++ rest)))
      (λ rest. simp append_assoc) (λ rest ends.
      let s = stopped (r.gives (mark a m.Comma ++ (mark b m.Ellipsis ++ rest)) refl refl) refl in
      a_list (word_first S o (mark a m.Comma ++ (mark b m.Ellipsis ++ rest))) (rw (s.gives, s.loops) refl))

  pub unnamed_reads : {S T : State} {h : Heights} {ts : List Token} {x : Specs} → Reads mode n room (g.specs true) S h ts x T
      → Reads mode n room g.param S h ts (record { specs = x; declarator = d.Nothing }) T
  unfolding dr.param
  unnamed_reads {T = T} {x = x} r = record
      { gives = λ rest ends. rw (r.gives rest (specs_stop x.is_typed T rest ends), stops_shape k.Param x.is_typed rest T ends) refl }

  pub declared_reads : {S T U : State} {h f : Heights} {ts us : List Token} {x : Specs} {y : Declaring}
      → First (shape_starts k.Param x.is_typed T) us
      → Reads mode n room (g.specs true) S h ts x T → PartReads mode n room (en.declarator k.Param x.is_typed) T f us y U
      → Reads mode n room g.param S (join h f) (ts ++ us) (record { specs = x; declarator = y.tree }) (declares y.name x.is_typedef U)
  unfolding dr.param dr.declared
  declared_reads {T = T} {ts = ts} {us = us} {x = x} o r p = placed (λ rest. ts ++ (us ++ rest)) (λ rest. simp append_assoc) (λ rest ends.
      rw (
        r.gives (us ++ rest) (specs_shape k.Param x.is_typed T o rest),
        shape_first k.Param x.is_typed T o rest,
        p.gives rest
            (stops_suffix (head_of rest) ends, λ _. ends),
      ) refl)

  pub type_alone_reads : {S T : State} {h : Heights} {ts : List Token} {x : Specs} → Reads mode n room (g.specs false) S h ts x T
      → Reads mode n room g.type_name S h ts (record { specs = x; declarator = d.Nothing }) T
  unfolding dr.type_name
  type_alone_reads {T = T} {x = x} r = record
      { gives = λ rest ends. rw (r.gives rest (specs_stop x.is_typed T rest ends), stops_shape k.Abstract x.is_typed rest T ends) refl }

  pub type_of_reads : {S T U : State} {h f : Heights} {ts us : List Token} {x : Specs} {y : Declaring}
      → First (shape_starts k.Abstract x.is_typed T) us
      → Reads mode n room (g.specs false) S h ts x T → PartReads mode n room (en.declarator k.Abstract x.is_typed) T f us y U
      → Reads mode n room g.type_name S (join h f) (ts ++ us) (record { specs = x; declarator = y.tree }) U
  unfolding dr.type_name dr.typed_name
  type_of_reads {T = T} {ts = ts} {us = us} {x = x} o r p = placed (λ rest. ts ++ (us ++ rest)) (λ rest. simp append_assoc) (λ rest ends.
      rw (
        r.gives (us ++ rest) (specs_shape k.Abstract x.is_typed T o rest),
        shape_first k.Abstract x.is_typed T o rest,
        p.gives rest
            (stops_suffix (head_of rest) ends, λ _. ends),
      ) refl)

  pub plainly_reads : {typed is_typedef : Bool} {S T : State} {h : Heights} {ts : List Token} {x : Declaring}
      → PartReads mode n room (en.declarator k.Named typed) S h ts x T
      → Reads mode n room (g.init_declarator typed is_typedef) S h ts (record { declarator = x.tree; init = None })
      (declares x.name is_typedef T)
  unfolding sr.init_or sees head after
  plainly_reads {T = T} {h = h} {x = x} p = record {
    gives = λ rest ends. let by = parts_behind (head_of rest) ends in record {
      declarator = tall x h;
      behind = at rest T;
      first = p.gives rest (stops_suffix (head_of rest) (parts_stop (head_of rest) ends), λ no. absurd cc);
      ends = by.0;
      second = rw (by.1) refl;
    };
  }

  pub initialized_reads : {typed is_typedef : Bool} {S T U : State} {h f : Heights} (a : At) {ts us : List Token} {x : Declaring} {y : Init}
      → PartReads mode n room (en.declarator k.Named typed) S h ts x T
      → PartReads mode n room en.init (declares x.name is_typedef T) f us y U
      → Reads mode n room (g.init_declarator typed is_typedef) S (join h f) (ts ++ mark a m.Assign ++ us)
      (record { declarator = x.tree; init = Some y }) U
  unfolding sr.init_or sr.initialized sees head after next same_mark
  initialized_reads {T = T} {h = h} a {ts = ts} {us = us} {x = x} p q = placed (λ rest. ts ++ (mark a m.Assign ++ (us ++ rest)))
      (λ rest. simp append_assoc) (λ rest ends. record {
        declarator = tall x h;
        behind = at (mark a m.Assign ++ (us ++ rest)) T;
        first = p.gives (mark a m.Assign ++ (us ++ rest)) (refl, λ no. absurd cc);
        ends = refl;
        second = rw (q.gives rest (stops_tight (head_of rest) (parts_stop (head_of rest) ends))) refl;
      })
