-- Specifiers and spans are read.
use Rattle.std.proofs.Common.{◌≡◌, ℕ, ◌-◌, max, Bool, true, false, not, List, [], ◌∷◌, ◌++◌, length, Option, Some, None, Ok, refl, sym, ap, subst, ◌∙◌, arith, append_assoc, length-append}
use Rattle.std.specs.Prelude.{◌&&◌, ◌||◌, is_some}
use Rattle.c_tok.specs.declared.mark.Mark.{Mark}
use Rattle.c_tok.specs.declared.mark.Mark.TheVariants as m
use Rattle.c_tok.specs.declared.token.CTokKind.{CTokKind}
use Rattle.c_tok.specs.declared.token.CTokKind.TheVariants as c
use Rattle.c_tree.specs.declared.at.At.{At}
use Rattle.c_tree.specs.declared.operator.RecordKind.{RecordKind}
use Rattle.c_tree.specs.declared.operator.RecordKind.TheVariants as record_kind
use Rattle.c_tree.specs.declared.operator.SpecWord.{SpecWord}
use Rattle.c_tree.specs.declared.expr.Expr.{Expr}
use Rattle.c_tree.specs.declared.expr.Slot.{Slot}
use Rattle.c_tree.specs.declared.expr.Slot.TheVariants as sl
use Rattle.c_tree.specs.declared.expr.Spec.{Spec}
use Rattle.c_tree.specs.declared.expr.Spec.TheVariants as sp
use Rattle.c_tree.specs.declared.expr.Specs.{Specs}
use Rattle.c_tree.specs.declared.expr.Member.{Member}
use Rattle.c_tree.specs.declared.expr.Enumerator.{Enumerator}
use Rattle.c_tree.specs.declared.expr.Declarator.{Declarator}
use Rattle.c_tree.specs.declared.expr.Declarator.TheVariants as d
use Rattle.c_tree.specs.declared.expr.TypeName.{TypeName}
use Rattle.c_tree.specs.declared.declaring.Declaring.{Declaring}
use Rattle.c_tree.specs.declared.height.Heights.{Heights}
use Rattle.c_tree.specs.declared.height.Tall.{Tall}
use Rattle.c_tree.specs.Heights as class
use Rattle.c_tree.specs.Heights.{none, join, raise, count, tall}
use Rattle.c_tree.specs.Specs.{is_storage, one_spec, with_spec}
use Rattle.c_decl.specs.declared.kind.DeclKind.{DeclKind}
use Rattle.c_decl.specs.declared.kind.DeclKind.TheVariants as k
use Rattle.c_decl.specs.declared.kind.Mode.{Mode}
use Rattle.c_decl.specs.declared.kind.Mode.TheVariants.{Whole, Spans}
use Rattle.c_decl.specs.declared.marking.Marked.{Marked}
use Rattle.c_decl.specs.declared.marking.Marked.TheVariants.{ImplicitInt, BitField}
use Rattle.c_decl.specs.Tokens.{Token, tok, mark, name, tag, ending, head_of, same_mark}
use Rattle.c_decl.specs.State.{State, is_type, declare, leave_out, leave_out_if}
use Rattle.c_decl.specs.Marks.{word_of, record_of, passable, closer}
use Rattle.c_decl.specs.Grammar as g
use Rattle.c_decl.specs.Grammar.{Tree, is_word, begins_specs, is_paren, is_abstract}
use Rattle.c_decl.specs.Input.{Input, Parser, left, next, after, head, here, sees, expect, is_mark}
use Rattle.c_decl.specs.Entries as en
use Rattle.c_decl.specs.Entries.{Entry, phrase_of, passes_kind, comma_before, spec_comes, word_comes, passes}
use Rattle.c_decl.specs.Declarators as dr
use Rattle.c_decl.specs.Reading.{reader}
use Rattle.c_decl.proofs.Runs.{at}
use Rattle.c_decl.proofs.Led.{begun, turned, stopped}
use Rattle.c_decl.proofs.Begins.{First, field_starts, shape_starts, or_first, or_second, excluded, off_first}
use Rattle.c_decl.proofs.Claims.{stops, parts, suffix_kind, starts, Reads, PartReads}
use Rattle.c_decl.proofs.Children.{placed, stops_are, stops_tight, parts_stop, not_yes, word_first, first_word, by_first, all_turns}
use Rattle.c_decl.proofs.CompleteLists.{shorter}
use Rattle.c_decl.proofs.Runs as runs

abbrev kind_or : Option RecordKind → RecordKind
kind_or (Some kind) = kind
kind_or None = record_kind.Struct

pub stops_pass : (o : Option CTokKind) → stops o ≡ true → passes_kind false o ≡ false
stops_pass o e = not_yes _ (stops_are (λ (z : Option CTokKind). not (passes_kind false z)) refl refl refl refl refl refl o e)

passable_none : (b : Bool) (o : CTokKind) → passable b o ≡ true → closer o ≡ None
passable_none b (c.Mark m.OpenParen) e = absurd cc
passable_none b (c.Mark m.OpenBracket) e = absurd cc
passable_none b (c.Mark m.Question) e = absurd cc
passable_none b _ e = refl

-- what is so of each mark that closes
closes : (P : Option Mark → Bool) → P None ≡ true → P (Some m.CloseParen) ≡ true → P (Some m.CloseBracket) ≡ true → P (Some m.Colon) ≡ true
    → (o : CTokKind) (close : Mark) → closer o ≡ Some close → P (Some close) ≡ true
closes P n p b q o close e = subst (λ (z : Option Mark). P z ≡ true) e (by_kind o) where
  by_kind : (o : CTokKind) → P (closer o) ≡ true
  by_kind (c.Mark m.OpenParen) = p
  by_kind (c.Mark m.OpenBracket) = b
  by_kind (c.Mark m.Question) = q
  by_kind _ = n

abbrev same_close : Option Mark → Bool
same_close (Some k) = same_mark k k
same_close None = true

abbrev no_pass : Option Mark → Bool
no_pass (Some k) = not (passes_kind true (Some (c.Mark k)))
no_pass None = true

abbrev no_word : State → Option Mark → Bool
no_word S (Some k) = not (is_word S false (c.Mark k))
no_word S None = true

close_same : (o : CTokKind) (k : Mark) → closer o ≡ Some k → same_mark k k ≡ true
unfolding same_mark
close_same o k e = closes same_close refl refl refl refl o k e

close_off : (o : CTokKind) (k : Mark) → closer o ≡ Some k → passes_kind true (Some (c.Mark k)) ≡ false
close_off o k e = not_yes _ (closes no_pass refl refl refl refl o k e)

and_none : (a b : Bool) → b ≡ false → a && b ≡ false
and_none true b e = e
and_none false b e = refl

word_behind : (o : CTokKind) (k : Mark) (b : At) (T : State) (us rest : List Token) → closer o ≡ Some k
    → is_paren o && begins_specs T us ≡ false → is_paren o && word_comes (at (us ++ (mark b k ++ rest)) T) ≡ false
unfolding word_comes spec_comes head
word_behind o k b T [] rest e off = and_none (is_paren o) _ (not_yes _ (closes (no_word T) refl refl refl refl o k e))
word_behind o k b T (u ∷ us) rest e off = off

pub join_none : (h : Heights) → join none h ≡ h
unfolding join
join_none h =
    let a : max 0 h.expression ≡ h.expression = omega arith in
    let b : max 0 h.declarator ≡ h.declarator = omega arith in
    let c' : max 0 h.initializer ≡ h.initializer = omega arith in
    let d' : max 0 h.statement ≡ h.statement = omega arith in
    let e' : max 0 h.members ≡ h.members = omega arith in
    rw (a, b, c', d', e') refl

ident_word : (typed b : Bool) → typed || not b ≡ true → not typed && b ≡ false
ident_word true b e = refl
ident_word false true e = absurd cc
ident_word false false e = refl

and_right : (a b : Bool) → a && b ≡ true → b ≡ true
and_right true b e = e
and_right false b e = absurd cc

pub shape_word : (kind : DeclKind) (typed : Bool) (S : State) (o : CTokKind) → shape_starts kind typed S o ≡ true
    → is_word S typed o ≡ false
shape_word kind typed S (c.Ident k) e = ident_word typed (is_type S k) (and_right (not (is_abstract kind)) _ e)
shape_word kind typed S (c.Mark m.OpenParen) e = refl
shape_word kind typed S (c.Mark m.OpenBracket) e = refl
shape_word kind typed S (c.Mark m.Star) e = refl
shape_word kind typed S _ e = absurd cc

field_word : (typed : Bool) (S : State) (o : CTokKind) → field_starts typed S o ≡ true → is_word S typed o ≡ false
field_word typed S (c.Mark m.Colon) e = refl
field_word typed S (c.Mark o) e = shape_word k.Named typed S (c.Mark o) e
field_word typed S o e = shape_word k.Named typed S o e

pub left_word : (b : Bool) (kind : Marked) (a : At) (T : State) (typed : Bool) (o : Option CTokKind)
    → en.word_at (leave_out_if b kind a T) typed o ≡ en.word_at T typed o
unfolding leave_out is_type
left_word false kind a T typed o = refl
left_word true kind a T typed None = refl
left_word true kind a T typed (Some (c.Ident k)) = refl
left_word true kind a T typed (Some (c.Mark k)) = refl
left_word true kind a T typed (Some (c.Constant v)) = refl
left_word true kind a T typed (Some (c.Text bytes)) = refl

pub stops_suffix : (o : Option CTokKind) → stops o ≡ true → suffix_kind o ≡ false
unfolding same_mark
stops_suffix o e = not_yes _ (stops_are (λ (z : Option CTokKind). not (suffix_kind z)) refl refl refl refl refl refl o e)

pub first_is : (k : Mark) {ts : List Token} → First (λ o. is_mark k (Some o)) ts → (rest : List Token)
    → head_of (ts ++ rest) ≡ Some (c.Mark k)
first_is k o rest = ap (λ (z : List Token). head_of (z ++ rest)) o.is ∙ by_kind o.first o.ok where
  by_kind : (o : CTokKind) → is_mark k (Some o) ≡ true → Some o ≡ Some (c.Mark k)
  by_kind (c.Mark j) e = ap (λ (z : Mark). Some (c.Mark z)) (runs.same_mark_is j k e)
  by_kind _ e = absurd cc

module _ (mode : Mode) (n : ℕ) (room : Heights) where
  abbrev Room : (c : Entry) → Parser (Tall (Tree (phrase_of c)))
  Room = reader mode n room

  word_way : (storage typed : Bool) (a : At) (o : CTokKind) (w : SpecWord) → word_of (Some o) ≡ Some w
      → dr.spec_by mode Room room storage typed a (Some o) ≡ dr.word_or mode Room room storage a (Some w)
  word_way storage typed a (c.Mark m.Struct) w e = absurd cc
  word_way storage typed a (c.Mark m.Union) w e = absurd cc
  word_way storage typed a (c.Mark m.Enum) w e = absurd cc
  word_way storage typed a (c.Mark k) w e = ap (λ (z : Option SpecWord). dr.word_or mode Room room storage a z) e
  word_way storage typed a _ w e = absurd cc

  record_way : (storage typed : Bool) (a : At) (o : CTokKind) (kind : RecordKind) (i : Input) → record_of (Some o) ≡ Some kind
      → dr.spec_by mode Room room storage typed a (Some o) i ≡ dr.record_spec mode Room room a kind (next i)
  record_way storage typed a (c.Mark m.Struct) kind i e = ap
      (λ (z : Option RecordKind). dr.record_spec mode Room room a (kind_or z) (next i)) e
  record_way storage typed a (c.Mark m.Union) kind i e = ap
      (λ (z : Option RecordKind). dr.record_spec mode Room room a (kind_or z) (next i)) e
  record_way storage typed a _ kind i e = absurd cc

  enum_body_is : {S T : State} {h : Heights} (a b b' b'' : At) (k : Option (List ℕ)) (comma_ends : Bool) {ts : List Token}
      {xs : List Enumerator} → Reads mode n room (g.parted g.enumerator) S h ts xs T → (rest : List Token)
      → dr.enum_body mode Room room a k (at (mark b m.OpenBrace ++ (ts ++ (ending comma_ends b' ++ (mark b'' m.CloseBrace ++ rest))))
      S) ≡ Ok (tall (sp.Enum a k xs comma_ends) h, at rest T)
  unfolding dr.enum_body en.parted_before sees head after next expect same_mark comma_before
  enum_body_is a b b' b'' k true r rest = let s = stopped (r.gives (mark b' m.Comma ++ (mark b'' m.CloseBrace ++ rest)) refl refl) refl in
      rw (s.gives, s.loops) refl
  enum_body_is a b b' b'' k false r rest = let s = stopped (r.gives (mark b'' m.CloseBrace ++ rest) refl refl) refl in rw
      (s.gives, s.loops) refl

module _ {mode : Mode} {n : ℕ} {room : Heights} where
  -- ---- constant expressions and spans

  pub whole_reads : {S T : State} {h : Heights} {ts : List Token} {x : Expr} → mode ≡ Whole
      → PartReads mode n room en.conditional S h ts x T → Reads mode n room g.slot S h ts (sl.Read x) T
  unfolding dr.slot
  whole_reads {S = S} {ts = ts} is p = record {
    gives = λ rest ends.
        let t = stops_tight (head_of rest) ends in
        ap (λ (o : Mode). dr.slot_by mode (Room mode n room) room o (at (ts ++ rest) S)) is ∙ rw (p.gives rest (omega arith)) refl;
  }

  pub passed_over_reads : {S T : State} {h : Heights} (t : Token) {ts : List Token} → mode ≡ Spans
      → First (λ o. passes_kind false (Some o)) (t ∷ ts) → PartReads mode n room (en.span false) S h (t ∷ ts) tt T
      → Reads mode n room g.slot S h (t ∷ ts) (sl.Span (record { first = t.at.number; count = length (t ∷ ts); names = S.names })) T
  unfolding dr.slot dr.span_from passes head here left
  passed_over_reads {S = S} t {ts = ts} is o p = record {
    gives = λ rest ends.
        let on : passes_kind false (Some t.kind) ≡ true = by_first (passes_kind false) true (λ k e. e) o [] in
        let e : length (t ∷ (ts ++ rest)) - length rest ≡ length (t ∷ ts) = simp length-append (omega arith) in
        ap (λ (o : Mode). dr.slot_by mode (Room mode n room) room o (at (t ∷ (ts ++ rest)) S)) is ∙ rw
        (on, p.gives rest (stops_pass (head_of rest) ends), e) refl;
  }

  pub begun_reads : {b : Bool} {S : State} → Reads mode n room (g.passed b) S none [] tt S
  begun_reads = record { gives = λ rest _. begun _ starts }

  pub over_reads : {b : Bool} {S T : State} {h : Heights} (a : At) (o : CTokKind) {ts : List Token} → passable b o ≡ true
      → Reads mode n room (g.passed b) S h ts tt T → Reads mode n room (g.passed b) S h (ts ++ (tok o a ∷ [])) tt T
  unfolding passes dr.pass head next left
  over_reads {b = b} a o {ts = ts} on r = placed (λ rest. ts ++ ((tok o a ∷ []) ++ rest)) (λ rest. simp append_assoc) (λ rest _.
      turned (r.gives ((tok o a ∷ []) ++ rest) tt) (or_first (passable b o) _ on) (rw (passable_none b o on) refl) (omega arith))

  pub within_reads : {b : Bool} {S T U : State} {h f : Heights} (a a' : At) (o : CTokKind) (close : Mark) {ts us : List Token}
      → closer o ≡ Some close → is_paren o && begins_specs T us ≡ false
      → Reads mode n room (g.passed b) S h ts tt T → PartReads mode n room (en.span true) T f us tt U
      → Reads mode n room (g.passed b) S (join h f) (ts ++ (tok o a ∷ []) ++ us ++ mark a' close) tt U
  unfolding passes dr.pass dr.opened dr.bracketed head next left expect sees
  within_reads {b = b} {T = T} a a' o close {ts = ts} {us = us} is off r p = placed
      (λ rest. ts ++ ((tok o a ∷ []) ++ (us ++ (mark a' close ++ rest)))) (λ rest. simp append_assoc) (λ rest _.
      turned (r.gives ((tok o a ∷ []) ++ (us ++ (mark a' close ++ rest))) tt) (or_second (passable b o) _ (ap is_some is))
      (rw (is, word_behind o close a' T us rest is off, p.gives (mark a' close ++ rest) (close_off o close is), close_same o close is)
      refl) (simp length-append (omega arith)))

  pub typed_reads : {b : Bool} {S T U : State} {h f : Heights} (a a' : At) {ts us : List Token} {x : TypeName}
      → First (λ o. is_word T false o) us
      → Reads mode n room (g.passed b) S h ts tt T → Reads mode n room g.type_name T f us x U
      → Reads mode n room (g.passed b) S (join h f) (ts ++ mark a m.OpenParen ++ us ++ mark a' m.CloseParen) tt U
  unfolding passes dr.pass dr.opened dr.typed_span head next left expect sees same_mark
  typed_reads {b = b} {T = T} a a' {ts = ts} {us = us} o r p = placed
      (λ rest. ts ++ (mark a m.OpenParen ++ (us ++ (mark a' m.CloseParen ++ rest)))) (λ rest. simp append_assoc) (λ rest _.
      turned (r.gives (mark a m.OpenParen ++ (us ++ (mark a' m.CloseParen ++ rest))) tt) refl
      (rw (word_first T o (mark a' m.CloseParen ++ rest), p.gives (mark a' m.CloseParen ++ rest) refl) refl)
      (simp length-append (omega arith)))

  pub spanned_reads : {b : Bool} {S T : State} {h : Heights} {ts : List Token} → Reads mode n room (g.passed b) S h ts tt T
      → Reads mode n room (g.span b) S (raise class.expression h) ts tt T
  unfolding dr.spanned passes head
  spanned_reads {b = b} {T = T} r = record { gives = λ rest ends. rw (all_turns (r.gives rest tt) ends) refl }

  -- ---- specifiers

  pub word_reads : {storage typed : Bool} {S : State} (a : At) (o : CTokKind) {w : SpecWord} → word_of (Some o) ≡ Some w
      → storage || not (is_storage w) ≡ true
      → Reads mode n room (g.spec storage typed) S none (tok o a ∷ []) (sp.Word a w) S
  unfolding dr.spec here head next
  word_reads {storage = storage} {typed = typed} a o {w = w} is ok = record
      { gives = λ rest _. rw (word_way mode n room storage typed a o w is, ok) refl }

  pub record_with_reads : {storage typed : Bool} {S T : State} {h : Heights} (a b : At) (o : CTokKind) (k : Option (List ℕ))
      {ts : List Token} {kind : RecordKind} {xs : List Member} → record_of (Some o) ≡ Some kind
      → First (λ o. is_mark m.OpenBrace (Some o)) ts → PartReads mode n room en.members S h ts xs T
      → Reads mode n room (g.spec storage typed) S h ((tok o a ∷ []) ++ tag b k ++ ts) (sp.Record a kind k xs) T
  unfolding dr.spec dr.record_spec dr.record_body here head next sees same_mark
  record_with_reads {storage = storage} {typed = typed} {S = S} a b o None {ts = ts} {kind = kind} is first p = record {
    gives = λ rest _.
        rw (
          record_way mode n room storage typed a o kind (at (tok o a ∷ (ts ++ rest)) S) is,
          first_is m.OpenBrace first rest,
          p.gives rest
              tt,
        ) refl;
  }
  record_with_reads {storage = storage} {typed = typed} {S = S} a b o (Some k) {ts = ts} {kind = kind} is first p = record {
    gives = λ rest _.
        rw (
          record_way mode n room storage typed a o kind (at (tok o a ∷ (name b k ++ (ts ++ rest))) S) is,
          first_is m.OpenBrace first rest,
          p.gives rest tt,
        ) refl;
  }

  pub record_tag_reads : {storage typed : Bool} {S : State} (a b : At) (o : CTokKind) (k : List ℕ) {kind : RecordKind}
      → record_of (Some o) ≡ Some kind
      → Reads mode n room (g.spec storage typed) S none ((tok o a ∷ []) ++ name b k) (sp.RecordTag a kind k) S
  unfolding dr.spec dr.record_spec here head next sees
  record_tag_reads {storage = storage} {typed = typed} {S = S} a b o k {kind = kind} is = record {
    gives = λ rest off.
        rw (record_way mode n room storage typed a o kind (at (tok o a ∷ (name b k ++ rest)) S) is, off) refl;
  }

  pub enum_with_reads : {storage typed : Bool} {S T : State} {h : Heights} (a a' b b' b'' : At) (k : Option (List ℕ)) (comma_ends : Bool)
      {ts : List Token} {xs : List Enumerator}
      → Reads mode n room (g.parted g.enumerator) S h ts xs T
      → Reads mode n room (g.spec storage typed) S h
      (mark a m.Enum ++ tag a' k ++ mark b m.OpenBrace ++ ts ++ ending comma_ends b' ++ mark b'' m.CloseBrace) (sp.Enum a k xs comma_ends) T
  unfolding dr.spec dr.enum_spec here head next sees same_mark
  enum_with_reads a a' b b' b'' None comma_ends {ts = ts} r = placed
      (λ rest. mark a m.Enum ++ (mark b m.OpenBrace ++ (ts ++ (ending comma_ends b' ++ (mark b'' m.CloseBrace ++ rest)))))
      (λ rest. simp append_assoc)
      (λ rest _. rw (enum_body_is mode n room a b b' b'' None comma_ends r rest) refl)
  enum_with_reads a a' b b' b'' (Some k) comma_ends {ts = ts} r = placed
      (λ rest. mark a m.Enum ++ (name a' k ++ (mark b m.OpenBrace ++ (ts ++ (ending comma_ends b' ++ (mark b'' m.CloseBrace ++ rest))))))
      (λ rest. simp append_assoc)
      (λ rest _. rw (enum_body_is mode n room a b b' b'' (Some k) comma_ends r rest) refl)

  pub enum_tag_reads : {storage typed : Bool} {S : State} (a b : At) (k : List ℕ)
      → Reads mode n room (g.spec storage typed) S none (mark a m.Enum ++ name b k) (sp.EnumTag a k) S
  unfolding dr.spec dr.enum_spec here head next sees
  enum_tag_reads a b k = record { gives = λ rest off. rw off refl }

  pub alias_reads : {storage : Bool} {S : State} {a : At} {k : List ℕ} → is_type S k ≡ true
      → Reads mode n room (g.spec storage false) S none (name a k) (sp.Alias a k) S
  unfolding dr.spec here head next
  alias_reads is = record { gives = λ rest off. rw is refl }

  pub a_spec_reads : {storage : Bool} {S T : State} {h : Heights} {ts : List Token} {x : Spec}
      → Reads mode n room (g.spec storage false) S h ts x T → Reads mode n room (g.words storage) S h ts (one_spec x) T
  a_spec_reads {h = h} {x = x} r = record { gives = λ rest off. begun (tall x h) (r.gives rest off) }

  pub more_specs_read : {storage : Bool} {S T U : State} {h f : Heights} {ts us : List Token} {xs : Specs} {y : Spec}
      → First (λ o. is_word T xs.is_typed o) us
      → Reads mode n room (g.words storage) S h ts xs T → Reads mode n room (g.spec storage xs.is_typed) T f us y U
      → Reads mode n room (g.words storage) S (join h f) (ts ++ us) (with_spec xs y) U
  unfolding dr.next_spec left
  more_specs_read {T = T} {ts = ts} {us = us} {xs = xs} o r p = placed (λ rest. ts ++ (us ++ rest)) (λ rest. simp append_assoc) (λ rest off.
      turned (r.gives (us ++ rest) (off_first m.OpenBrace refl o rest))
      (first_word T xs.is_typed o rest) (rw (p.gives rest off) refl) (shorter us rest o))

  pub specified_reads : {storage : Bool} {S T : State} {h : Heights} {ts : List Token} {x : Specs}
      → Reads mode n room (g.words storage) S h ts x T
      → Reads mode n room (g.specs storage) S h ts x (leave_out_if (not x.is_typed) ImplicitInt x.at T)
  unfolding dr.specs spec_comes head
  specified_reads {T = T} {x = x} r = record {
    gives = λ rest off.
        let s = stopped (r.gives rest off.0) (sym (left_word (not x.is_typed) ImplicitInt x.at T x.is_typed (head_of rest)) ∙ off.1) in
        rw (s.gives, s.loops) refl;
  }

  -- ---- members and enumerators

  pub enclosed_reads : {S T : State} {h : Heights} (a b : At) {ts : List Token} {xs : List Member}
      → Reads mode n room (g.some g.member) S h ts xs T
      → Reads mode n room g.members S (raise class.members h) (mark a m.OpenBrace ++ ts ++ mark b m.CloseBrace) xs T
  unfolding dr.enclosed en.some_while sees head next expect same_mark
  enclosed_reads a b {ts = ts} r = placed (λ rest. mark a m.OpenBrace ++ (ts ++ (mark b m.CloseBrace ++ rest))) (λ rest. simp append_assoc)
      (λ rest _.
      let s = stopped (r.gives (mark b m.CloseBrace ++ rest) tt refl) refl in rw (s.gives, s.loops) refl)

  pub member_of_reads : {S T U : State} {h f : Heights} (a : At) (w : Bool) {ts us : List Token} {x : Specs} {ys : List Declarator}
      → First (field_starts x.is_typed T) us
      → Reads mode n room (g.specs true) S h ts x T → Reads mode n room (g.parted (g.field w x.is_typed)) T f us ys U
      → Reads mode n room g.member S (join h f) (ts ++ us ++ mark a m.Semicolon) (record { specs = x; declarators = ys })
      (leave_out_if w BitField x.at U)
  unfolding dr.member sees head next expect same_mark
  member_of_reads {T = T} a w {ts = ts} {us = us} {x = x} o r p = placed (λ rest. ts ++ (us ++ (mark a m.Semicolon ++ rest)))
      (λ rest. simp append_assoc) (λ rest _.
      let behind : List Token = mark a m.Semicolon ++ rest in
      let s = stopped (p.gives behind refl refl) refl in
      rw (
        r.gives (us ++ behind) (
          off_first m.OpenBrace refl o behind,
          by_first
              (en.word_at T x.is_typed) false (field_word x.is_typed T) o behind,
        ),
        s.gives.1,
        s.loops,
      ) refl)

  pub plain_field_reads : {typed : Bool} {S T : State} {h : Heights} {ts : List Token} {x : Declaring}
      → First (shape_starts k.Named typed S) ts
      → PartReads mode n room (en.declarator k.Named typed) S h ts x T → Reads mode n room (g.field false typed) S h ts x.tree T
  unfolding dr.field dr.first_field dr.first_named dr.plain_field sees head after
  plain_field_reads {typed = typed} {S = S} {T = T} {ts = ts} o p = record {
    gives = λ rest ends.
        let e = p.gives rest (stops_suffix (head_of rest) (parts_stop (head_of rest) ends), λ no. absurd cc) in
        (rw e refl, rw (off_first m.Colon refl o rest, e, excluded parts m.Colon refl (head_of rest) ends) refl);
  }

  pub width_reads : {typed : Bool} {S T : State} {h : Heights} (a : At) {ts : List Token} {x : Slot} → Reads mode n room g.slot S h ts x T
      → Reads mode n room (g.field true typed) S h (mark a m.Colon ++ ts) d.Nothing T
  unfolding dr.field dr.first_field dr.width sees head after next same_mark
  width_reads {h = h} a r = record {
    gives = λ rest ends.
        let e = r.gives rest (parts_stop (head_of rest) ends) in (rw (e, join_none h) refl, rw (e, join_none h) refl);
  }

  pub field_width_reads : {typed : Bool} {S T U : State} {h f : Heights} (a : At) {ts us : List Token} {x : Declaring} {y : Slot}
      → First (shape_starts k.Named typed S) ts
      → PartReads mode n room (en.declarator k.Named typed) S h ts x T → Reads mode n room g.slot T f us y U
      → Reads mode n room (g.field true typed) S (join h f) (ts ++ mark a m.Colon ++ us) x.tree U
  unfolding dr.field dr.first_field dr.first_named dr.named_width dr.plain_field dr.width sees head after next expect same_mark
  field_width_reads {typed = typed} {S = S} a {ts = ts} {us = us} o p r = placed (λ rest. ts ++ (mark a m.Colon ++ (us ++ rest)))
      (λ rest. simp append_assoc) (λ rest ends.
      let behind : List Token = mark a m.Colon ++ (us ++ rest) in
      let off = off_first m.Colon refl o behind in
      let first = p.gives behind (refl, λ no. absurd cc) in
      let second = r.gives rest (parts_stop (head_of rest) ends) in
      (rw (off, first, second) refl, rw (off, first, second) refl))

  pub counted_reads : {S : State} {a : At} {k : List ℕ}
      → Reads mode n room g.enumerator S none (name a k) (record { at = a; name = k; value = None }) (declare k false S)
  unfolding dr.enumerator here head next sees after
  counted_reads = record { gives = λ rest ends. rw (excluded stops m.Assign refl (head_of rest) ends) refl }

  pub counted_from_reads : {S T : State} {h : Heights} (a b : At) (k : List ℕ) {ts : List Token} {x : Slot}
      → Reads mode n room g.slot S h ts x T
      → Reads mode n room g.enumerator S h (name a k ++ mark b m.Assign ++ ts) (record { at = a; name = k; value = Some x })
      (declare k false T)
  unfolding dr.enumerator dr.counted_from here head next sees after same_mark
  counted_from_reads a b k r = record { gives = λ rest ends. rw (r.gives rest ends) refl }
