-- Constant expressions, specifiers and members: what is read is derived, and what is refused can be ended.
use Rattle.std.proofs.Common.{◌≡◌, ℕ, ◌-◌, max, Bool, true, false, not, cond, List, [], ◌∷◌, ◌++◌, length, Option, Some, None, Ok, refl, sym, subst, arith, append_assoc, length-append}
use Rattle.std.specs.Prelude.{◌||◌}
use Rattle.std.proofs.lemmas.List.{append-nil}
use Rattle.c_tok.specs.declared.mark.Mark.TheVariants as m
use Rattle.c_tok.specs.declared.token.CTokKind.{CTokKind}
use Rattle.c_tok.specs.declared.token.CTokKind.TheVariants as c
use Rattle.c_tree.specs.declared.at.At.{At}
use Rattle.c_tree.specs.declared.operator.RecordKind.{RecordKind}
use Rattle.c_tree.specs.declared.operator.RecordKind.TheVariants as record_kind
use Rattle.c_tree.specs.declared.operator.SpecWord.{SpecWord}
use Rattle.c_tree.specs.declared.expr.Enumerator.{Enumerator}
use Rattle.c_tree.specs.declared.expr.Spec.TheVariants as sp
use Rattle.c_tree.specs.declared.expr.Declarator.{Declarator}
use Rattle.c_tree.specs.declared.declaring.Declaring.{Declaring}
use Rattle.c_tree.specs.declared.expr.Slot.TheVariants as sl
use Rattle.c_tree.specs.declared.expr.Declarator.TheVariants as d
use Rattle.c_tree.specs.declared.height.Heights.{Heights}
use Rattle.c_tree.specs.declared.height.Tall.{Tall}
use Rattle.c_tree.specs.Heights.{none, join, tall}
use Rattle.c_tree.specs.Specs.{is_storage}
use Rattle.c_decl.specs.declared.kind.DeclKind.TheVariants as k
use Rattle.c_decl.specs.declared.kind.Mode.{Mode}
use Rattle.c_decl.specs.declared.kind.Mode.TheVariants.{Whole, Spans}
use Rattle.c_decl.specs.Tokens.{Token, tok, mark, name, tag, nowhere, head_of}
use Rattle.c_decl.specs.State.{State, is_type, declare}
use Rattle.c_decl.specs.Marks.{word_of, record_of}
use Rattle.c_decl.specs.Grammar as g
use Rattle.c_decl.specs.Grammar.{Tree, Derives}
use Rattle.c_decl.specs.Input.{Input, Parser, and_then, head, here, next, left, after, sees, expect}
use Rattle.c_decl.specs.Entries as en
use Rattle.c_decl.specs.Entries.{Entry, phrase_of}
use Rattle.c_decl.specs.Declarators as dr
use Rattle.c_decl.proofs.Tests.{clash, or_true}
use Rattle.c_decl.proofs.Runs.{at}
use Rattle.c_decl.proofs.Took.{Says, Of, Goes, Reads, Open, opened, can, done, knowing, refuses, token, skip_mark, mark_then, eat_then, ending_then, by_token, here_name_then, in_row, then_on, choose, then_, then_by, loop}
use Rattle.c_decl.proofs.Got.{Parts, part_reads, commas, parted_before_reads, some_reads, zero_}

count_is : (us rest : List Token) → length (us ++ rest) - length rest ≡ length us
count_is us rest = let l = length-append us rest in omega arith

join_none : (h : Heights) → join none h ≡ h
unfolding join
join_none h =
    let a : max 0 h.expression ≡ h.expression = omega arith in
    let b : max 0 h.declarator ≡ h.declarator = omega arith in
    let c : max 0 h.initializer ≡ h.initializer = omega arith in
    let d : max 0 h.statement ≡ h.statement = omega arith in
    let e : max 0 h.members ≡ h.members = omega arith in rw (a, b, c, d, e) refl

module _ (mode : Mode) (part : (c : Entry) → Parser (Tall (Tree (phrase_of c)))) (room : Heights) (parts : Parts mode part) where
  -- ---- constant expressions

  span_done : mode ≡ Spans → (i k : Input) (us : List Token) (h : Heights) → i.rest ≡ us ++ k.rest
      → Derives mode (g.span false) i.state h us tt k.state
      → en.passes false i ≡ true → en.passes false k ≡ false
      → Goes (Of mode g.slot i.state) us k (Ok (
        tall (sl.Span
            (record { first = (here i).number; count = left i - left k; names = i.state.names })) h,
        k,
      ))
  unfolding en.passes head here left
  span_done is i k [] h parts f on off = clash (en.passes_kind false (head_of i.rest)) on (rw parts off)
  span_done is i k (t ∷ us) h parts f on off =
      let e = count_is (t ∷ us) k.rest in
      rw (parts, e) (done (g.passed_over t is f) refl)

  least_span : mode ≡ Spans → {S : State} → Open (Of mode g.slot S) []
  least_span is = opened _ (can _ _ (g.passed_over (tok (c.Constant zero_) nowhere) is
      (g.spanned (g.over nowhere (c.Constant zero_) refl g.begun))) refl)

  span_ends : mode ≡ Spans → {S : State} (seen ending : List Token) (h : Heights) (T : State)
      → Derives mode (g.span false) S h (seen ++ ending) tt T → Open (Of mode g.slot S) seen
  span_ends is [] ending h T f = least_span is
  span_ends is (t ∷ seen) ending h T f = opened ending (can (tall _ _) T (g.passed_over t is f) refl)

  slot_by_reads : (o : Mode) → mode ≡ o → (i : Input) → Reads mode g.slot i (dr.slot_by mode part room o i)
  unfolding dr.span_from
  slot_by_reads Whole is i = then_ (part_reads parts en.conditional i) λ x k us f. done (g.whole is f) refl
  slot_by_reads Spans is i = choose (en.passes false i) _ _
      (λ on. then_by (parts (en.span false) i) (λ seen more ending x T _ f. span_ends is seen ending x.height T f.0)
      (λ x k us parts f. span_done is i k us x.height parts f.0 on f.1))
      (λ _. refuses (least_span is))

  pub slot_reads : (i : Input) → Reads mode g.slot i (dr.slot mode part room i)
  unfolding dr.slot
  slot_reads i = slot_by_reads mode refl i

  -- ---- specifiers

  tag_kind : {A : Type 0} {D : Says A} {ts : List Token} (f : Option (List ℕ)
      → Parser A) (o : CTokKind) (a : At) (rest : List Token) (S : State)
      → ((n : Option (List ℕ)) (a : At) (rest : List Token) → Goes D (ts ++ tag a n) (at rest S) (f n (at rest S)))
      → Goes D ts (at (tok o a ∷ rest) S) (and_then (dr.tag_of mode part room (Some o) (at (tok o a ∷ rest) S)) f)
  unfolding next
  tag_kind f (c.Ident n) a rest S go = token (go (Some n) a rest)
  tag_kind {D = D} {ts = ts} f o a rest S go = let G : List Token → Type 0 = λ z. Goes D z (at (tok o a ∷ rest) S)
      (f None (at (tok o a ∷ rest) S)) in subst G (append-nil ts) (go None a (tok o a ∷ rest))

  tag_then : {A : Type 0} {D : Says A} {ts : List Token} {j : Input} (f : Option (List ℕ) → Parser A)
      → ((n : Option (List ℕ)) (a : At) (rest : List Token) → Goes D (ts ++ tag a n) (at rest j.state) (f n (at rest j.state)))
      → Goes D ts j (and_then (dr.tag_of mode part room (head j) j) f)
  unfolding head
  tag_then {D = D} {ts = ts} {j = j} f go = by_rest j.rest where
    by_rest : (rest : List Token) → Goes D ts (at rest j.state) (and_then (dr.tag_of mode part room (head_of rest) (at rest j.state)) f)
    by_rest [] = let G : List Token → Type 0 = λ z. Goes D z (at [] j.state) (f None (at [] j.state)) in
        subst G (append-nil ts) (go None nowhere [])
    by_rest (t ∷ rest) = tag_kind f t.kind t.at rest j.state go

  record_by_goes : {storage typed : Bool} {S : State} (a : At) (o : CTokKind) (kind : RecordKind) → record_of (Some o) ≡ Some kind
      → (n : Option (List ℕ)) (b : At) (opens : Bool) (rest : List Token)
      → Goes (Of mode (g.spec storage typed) S) ((tok o a ∷ []) ++ tag b n) (at rest S)
      (dr.record_by mode part room a kind n opens (at rest S))
  unfolding dr.record_body
  record_by_goes a o kind is (Some n) b false rest = done (g.record_tag a b o n is) refl
  record_by_goes a o kind is (Some n) b true rest = then_ (part_reads parts en.members (at rest _)) λ x k us f.
      done (g.record_with a b o (Some n) is f) refl
  record_by_goes a o kind is None b opens rest = then_ (part_reads parts en.members (at rest _)) λ x k us f.
      done (g.record_with a nowhere o None is f) refl

  record_goes : {storage typed : Bool} {S : State} (a : At) (o : CTokKind) (kind : RecordKind) → record_of (Some o) ≡ Some kind
      → (rest : List Token)
      → Goes (Of mode (g.spec storage typed) S) (tok o a ∷ []) (at rest S) (dr.record_spec mode part room a kind (at rest S))
  unfolding dr.record_spec
  record_goes a o kind is rest = tag_then _ λ n b more. record_by_goes a o kind is n b (sees m.OpenBrace (at more _)) more

  pub enumerator_reads : (i : Input) → Reads mode g.enumerator i (dr.enumerator mode part room i)
  unfolding dr.enumerator dr.counted_from
  enumerator_reads i =
      here_name_then (λ a n j. cond {A = Parser (Tall Enumerator)} (sees m.Assign j) (dr.counted_from mode part room a n)
      (λ l. Ok (tall (record { at = a; name = n; value = None }) none, record l { state = declare n false l.state }))
      (after m.Assign j)) λ a n more.
      eat_then m.Assign (λ found. cond {A = Parser (Tall Enumerator)} found (dr.counted_from mode part room a n)
      (λ l. Ok (tall (record { at = a; name = n; value = None }) none, record l { state = declare n false l.state })))
      (λ b rest. then_ (slot_reads (at rest _)) λ x k us f. knowing refl (done (g.counted_from a b n f) refl))
      (λ _. knowing refl (done g.counted refl))

  enum_body_goes : {storage typed : Bool} {S : State} (a : At) (n : Option (List ℕ)) (b : At) (rest : List Token)
      → Goes (Of mode (g.spec storage typed) S) (mark a m.Enum ++ tag b n) (at rest S) (dr.enum_body mode part room a n (at rest S))
  unfolding dr.enum_body
  enum_body_goes a n b rest =
      mark_then m.OpenBrace _ λ b' more.
      then_ (parted_before_reads m.CloseBrace _ enumerator_reads (at more _)) λ xs k us f.
      ending_then (λ comma_ends i. and_then (expect m.CloseBrace i)
      (λ _ j. Ok (tall (sp.Enum a n xs.tree comma_ends) xs.height, j))) λ comma_ends a' rest.
      mark_then m.CloseBrace _ λ b'' more. done (g.enum_with a b b' a' b'' n comma_ends f) (simp append_assoc)

  enum_by_goes : {storage typed : Bool} {S : State} (a : At) (n : Option (List ℕ)) (b : At) (opens : Bool) (rest : List Token)
      → Goes (Of mode (g.spec storage typed) S) (mark a m.Enum ++ tag b n) (at rest S) (dr.enum_by mode part room a n opens (at rest S))
  enum_by_goes a (Some n) b false rest = done (g.enum_tag a b n) refl
  enum_by_goes a (Some n) b true rest = enum_body_goes a (Some n) b rest
  enum_by_goes a None b opens rest = enum_body_goes a None b rest

  enum_goes : {storage typed : Bool} {S : State} (a : At) (rest : List Token)
      → Goes (Of mode (g.spec storage typed) S) (mark a m.Enum) (at rest S) (dr.enum_spec mode part room a (at rest S))
  unfolding dr.enum_spec
  enum_goes a rest = tag_then _ λ n b more. enum_by_goes a n b (sees m.OpenBrace (at more _)) more

  least_spec : {storage typed : Bool} {S : State} → Open (Of mode (g.spec storage typed) S) []
  least_spec {storage = b} = opened _ (can _ _ (g.word nowhere (c.Mark m.Int) refl (or_true b)) refl)

  word_goes : {storage typed : Bool} {S : State} (a : At) (o : CTokKind) (rest : List Token) (found : Option SpecWord)
      → word_of (Some o) ≡ found
      → Goes (Of mode (g.spec storage typed) S) [] (at (tok o a ∷ rest) S)
      (dr.word_or mode part room storage a found (at (tok o a ∷ rest) S))
  unfolding next
  word_goes a o rest None is = refuses least_spec
  word_goes {storage = b} a o rest (Some w) is = choose (b || not (is_storage w)) _ _ (λ on. token (done (g.word a o is on) refl))
      (λ _. refuses least_spec)

  alias_goes : {storage : Bool} (typed : Bool) {S : State} (a : At) (n : List ℕ) (rest : List Token)
      → Goes (Of mode (g.spec storage typed) S) [] (at (name a n ++ rest) S)
      (dr.spec_by mode part room storage typed a (Some (c.Ident n)) (at (name a n ++ rest) S))
  unfolding next
  alias_goes true a n rest = refuses least_spec
  alias_goes false {S = S} a n rest = choose (is_type S n) _ _ (λ on. token (done (g.alias on) refl)) (λ _. refuses least_spec)

  spec_kind : {storage typed : Bool} (o : CTokKind) (a : At) (rest : List Token) (S : State)
      → Goes (Of mode (g.spec storage typed) S) [] (at (tok o a ∷ rest) S)
      (dr.spec_by mode part room storage typed a (Some o) (at (tok o a ∷ rest) S))
  unfolding next
  spec_kind (c.Mark m.Struct) a rest S = token (record_goes a (c.Mark m.Struct) record_kind.Struct refl rest)
  spec_kind (c.Mark m.Union) a rest S = token (record_goes a (c.Mark m.Union) record_kind.Union refl rest)
  spec_kind (c.Mark m.Enum) a rest S = token (enum_goes a rest)
  spec_kind {typed = typed} (c.Ident n) a rest S = alias_goes typed a n rest
  spec_kind o a rest S = word_goes a o rest (word_of (Some o)) refl

  pub spec_reads : (storage typed : Bool) (i : Input) → Reads mode (g.spec storage typed) i (dr.spec mode part room storage typed i)
  unfolding dr.spec
  spec_reads storage typed i = by_token (dr.spec_by mode part room storage typed) (refuses least_spec)
      (λ o a rest. spec_kind o a rest i.state)

  pub specs_reads : (storage : Bool) (i : Input) → Reads mode (g.specs storage) i (dr.specs mode part room storage i)
  unfolding dr.specs dr.next_spec
  specs_reads storage i =
      then_ (spec_reads storage false i) λ x j us f.
      then_on [] (loop (λ xs k vs _ h. then_ (spec_reads storage xs.tree.is_typed k) λ y l ws h'.
      done (g.more_specs h h') refl) _ j us (g.a_spec f)) λ xs k vs h.
      knowing refl (done (g.specified h) refl)

  -- ---- members

  width_goes : {typed : Bool} {S : State} (a : At) (rest : List Token)
      → Goes (Of mode (g.field true typed) S) (mark a m.Colon) (at rest S) (dr.width mode part room (tall d.Nothing none) (at rest S))
  unfolding dr.width
  width_goes {typed = typed} {S = S} a rest = then_ (slot_reads (at rest S)) λ x k us f.
      let H : Heights → Type 0 = λ h. Goes (Of mode (g.field true typed) S) (mark a m.Colon ++ us) k (Ok (tall d.Nothing h, k)) in
      subst H (sym (join_none x.height)) (done (g.width a f) refl)

  colon_goes : {typed : Bool} (j : Input) {T : State} {h : Heights} {us : List Token} (x : Declaring)
      → Derives mode (g.declarator k.Named typed) T h us x j.state → (a : At) (rest : List Token)
      → Goes (Of mode (g.field true typed) T) (us ++ mark a m.Colon) (at rest j.state)
      (dr.width mode part room (tall x.tree h) (at rest j.state))
  unfolding dr.width
  colon_goes j x f a rest = then_ (slot_reads (at rest j.state)) λ z k vs h. done (g.field_width a f h) (simp append_assoc)

  field_by_goes : (w typed colon : Bool) (i : Input) → sees m.Colon i ≡ colon
      → Reads mode (g.field w typed) i (dr.field_by mode part room w typed colon i)
  unfolding dr.plain_field dr.named_width
  field_by_goes false typed colon i is = then_ (part_reads parts (en.declarator k.Named typed) i) λ x j us f. done (g.plain_field f) refl
  field_by_goes true typed true i is = skip_mark m.Colon (dr.width mode part room (tall d.Nothing none)) is λ a rest. width_goes a rest
  field_by_goes true typed false i is = in_row (part (en.declarator k.Named typed) i) _ _
      (then_ (part_reads parts (en.declarator k.Named typed) i) λ x j us f. mark_then m.Colon _ λ a rest. colon_goes j x.tree f a rest)

  field_reads : (w typed : Bool) (i : Input) → Reads mode (g.field w typed) i (dr.field mode part room w typed i)
  unfolding dr.field
  field_reads w typed i = field_by_goes w typed (sees m.Colon i) i refl

  -- the first one tells whether all have a width
  abbrev First : Bool → State → Says (Bool × Tall Declarator)
  First typed S x us k = Derives mode (g.field x.0 typed) S x.1.height us x.1.tree k.state

  abbrev with_width : Bool → Tall Declarator → Parser (Bool × Tall Declarator)
  with_width w x = λ k. Ok ((w, x), k)

  first_named_goes : (typed : Bool) (i : Input) → Goes (First typed i.state) [] i (dr.first_named mode part room typed i)
  unfolding dr.first_named dr.plain_field
  first_named_goes typed i = in_row (part (en.declarator k.Named typed) i) _ _
      (then_ (part_reads parts (en.declarator k.Named typed) i) λ x j us f.
      eat_then m.Colon (λ colon. cond {A = Parser (Bool × Tall Declarator)} colon
      (λ l. and_then (dr.width mode part room (tall x.tree.tree x.height) l) (with_width true))
      (with_width false (tall x.tree.tree x.height)))
      (λ a rest. then_on [] (colon_goes j x.tree f a rest) λ y l vs h. done h refl)
      (λ _. done (g.plain_field f) refl))

  first_field_goes : (typed : Bool) (i : Input) → Goes (First typed i.state) [] i (dr.first_field mode part room typed i)
  unfolding dr.first_field
  first_field_goes typed i =
      eat_then m.Colon (λ colon. cond {A = Parser (Bool × Tall Declarator)} colon
      (λ l. and_then (dr.width mode part room (tall d.Nothing none) l) (with_width true)) (dr.first_named mode part room typed))
      (λ a rest. then_on [] (width_goes a rest) λ y l vs h. done h refl)
      (λ _. first_named_goes typed i)

  pub member_reads : (i : Input) → Reads mode g.member i (dr.member mode part room i)
  unfolding dr.member
  member_reads i =
      then_ (specs_reads true i) λ x j us f.
      then_ (first_field_goes x.tree.is_typed j) λ y k vs h.
      then_on us (commas _ (field_reads y.0 x.tree.is_typed) (sees m.Comma) (λ _ on. on) _ k vs (g.one h)) λ ys l ws h'.
      mark_then m.Semicolon _ λ a rest. knowing refl (done (g.member_of a y.0 f h') (simp append_assoc))

  pub enclosed_reads : (i : Input) → Reads mode g.members i (dr.enclosed mode part room i)
  unfolding dr.enclosed
  enclosed_reads i =
      mark_then m.OpenBrace _ λ a more.
      then_ (some_reads _ _ member_reads (at more _)) λ x k us f.
      mark_then m.CloseBrace _ λ b rest. done (g.enclosed a b f) refl
