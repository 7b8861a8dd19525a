-- Specifiers, declarators, types and spans are read alike as far as a token.
use Rattle.std.proofs.Common.{◌≡◌, ℕ, Bool, true, false, not, cond, List, ◌∷◌, ◌++◌, length, Option, Some, None, Ok, refl, ap, arith}
use Rattle.std.specs.Prelude.{◌&&◌, ◌||◌, is_some}
use Rattle.c_tok.specs.declared.mark.Mark.{Mark}
use Rattle.c_tok.specs.declared.mark.Mark.TheVariants as m
use Rattle.c_tok.specs.declared.token.CTokKind.{CTokKind}
use Rattle.c_tok.specs.declared.token.CTokKind.TheVariants as c
use Rattle.c_tree.specs.declared.at.At.{At}
use Rattle.c_tree.specs.declared.operator.RecordKind.{RecordKind}
use Rattle.c_tree.specs.declared.operator.SpecWord.{SpecWord}
use Rattle.c_tree.specs.declared.expr.Slot.TheVariants as sl
use Rattle.c_tree.specs.declared.expr.Spec.TheVariants as sp
use Rattle.c_tree.specs.declared.expr.Specs.{Specs}
use Rattle.c_tree.specs.declared.expr.Declarator.{Declarator}
use Rattle.c_tree.specs.declared.expr.Declarator.TheVariants as d
use Rattle.c_tree.specs.declared.declaring.Declaring.{Declaring}
use Rattle.c_tree.specs.declared.height.Heights.{Heights}
use Rattle.c_tree.specs.declared.height.Tall.{Tall}
use Rattle.c_tree.specs.Heights as class
use Rattle.c_tree.specs.Heights.{none, join, raise, tall}
use Rattle.c_tree.specs.Specs.{is_storage, one_spec}
use Rattle.c_decl.specs.declared.kind.DeclKind.{DeclKind}
use Rattle.c_decl.specs.declared.kind.DeclKind.TheVariants as k
use Rattle.c_decl.specs.declared.kind.Mode.{Mode}
use Rattle.c_decl.specs.declared.kind.Mode.TheVariants.{Whole, Spans}
use Rattle.c_decl.specs.declared.marking.Marked.TheVariants.{OldStyle, ImplicitInt, BitField}
use Rattle.c_decl.specs.Tokens.{Token, tok, name, same_mark}
use Rattle.c_decl.specs.State.{State, is_type, declare, declares, leave, declared_since, leave_out, leave_out_if}
use Rattle.c_decl.specs.Marks.{word_of, pointer_of, closer}
use Rattle.c_decl.specs.Grammar.{Tree, is_named, is_abstract, is_paren, nothing, around, begins, function_of, no_params}
use Rattle.c_decl.specs.Input.{Input, Outcome, Parser, and_then, head, here, next, left, sees, looped}
use Rattle.c_decl.specs.Entries.{Entry, phrase_of, spec_comes, word_comes, passes, direct_comes, declarator_comes, opens_params, suffix_comes, pointer_comes, comma_then}
use Rattle.c_decl.specs.Declarators as r
use Rattle.c_decl.proofs.Runs.{at, fine}
use Rattle.c_decl.proofs.Steady.{Fork, Steady, Passes, Told, told, taken, bind, first, loosely, pure_steady, refuse_steady, skip_steady, expect_steady, name_steady, pick, sees_first, fits_steady, counted, with_state, keyed, steady_as, looped_steady, turn_passes, pick_passes, passes_goes, passes_on, listed, some_steady, comma_then_steady, via, by_bool, by_option, asks, peeks, placed, if_sees, if_eats, skip_pure, changes}
use Rattle.c_decl.proofs.Looks.{state_first, sees_not, spec_first, word_first, passes_first, direct_first, declarator_first, suffix_first, pointer_first}
use Rattle.c_decl.proofs.Parts.{Parts}

-- the token and, if it is a parenthesis, whether parameters stand in it
abbrev opens_key : Option CTokKind → Bool → Bool
opens_key (Some (c.Mark m.OpenParen)) opens = opens
opens_key _ opens = false

module _ (F : Fork) (mode : Mode) (part : (c : Entry) → Parser (Tall (Tree (phrase_of c)))) (room : Heights)
    (parts : Parts F part room) where
  -- ---- constant expressions

  slot_by : (o : Mode) → Steady F false (r.slot_by mode part room o)
  unfolding r.span_from
  slot_by Whole = bind parts.conditional λ x. pure_steady _
  slot_by Spans = asks (passes false) (passes_first false) λ some. placed λ a. pick some
      (via (r.span_from mode part room a) (with_state (λ S. S.names) λ N.
      counted (λ n x. tall (sl.Span (record { first = a.number; count = n; names = N })) x.height) (parts.span false))) refuse_steady

  pub slot : Steady F false (r.slot mode part room)
  unfolding r.slot
  slot = slot_by mode

  -- ---- specifiers

  tag_of : (o : Option CTokKind) → Steady F false (r.tag_of mode part room o)
  tag_of (Some (c.Ident n)) = skip_pure
  tag_of (Some o) = pure_steady None
  tag_of None = pure_steady None

  record_spec : (a : At) (kind : RecordKind) → Steady F false (r.record_spec mode part room a kind)
  unfolding r.record_spec r.record_body
  record_spec a kind = peeks λ o. bind (tag_of o) λ n. asks (sees m.OpenBrace) (sees_first m.OpenBrace) λ b. by_tag n b where
    by_tag : (n : Option (List ℕ)) (opens : Bool) → Steady F false (r.record_by mode part room a kind n opens)
    by_tag (Some n) false = pure_steady _
    by_tag (Some n) true = bind parts.members λ xs. pure_steady _
    by_tag None opens = bind parts.members λ xs. pure_steady _

  enumerator : Steady F false (r.enumerator mode part room)
  unfolding r.enumerator r.counted_from
  enumerator = placed λ a. peeks λ o. bind (name_steady o) λ n. if_eats m.Assign
      (via (r.counted_from mode part room a n) (bind slot λ x. changes (declare n false)))
      (changes {a = tall (record { at = a; name = n; value = None }) none} (declare n false))

  enum_body : (a : At) (n : Option (List ℕ)) → Steady F false (r.enum_body mode part room a n)
  unfolding r.enum_body
  enum_body a n = bind (expect_steady m.OpenBrace) λ _. listed m.CloseBrace _ enumerator
      λ xs found. bind (expect_steady m.CloseBrace) λ _. pure_steady (tall (sp.Enum a n xs.tree found) xs.height)

  enum_spec : (a : At) → Steady F false (r.enum_spec mode part room a)
  unfolding r.enum_spec
  enum_spec a = peeks λ o. bind (tag_of o) λ n. asks (sees m.OpenBrace) (sees_first m.OpenBrace) λ b. by_tag n b where
    by_tag : (n : Option (List ℕ)) (opens : Bool) → Steady F false (r.enum_by mode part room a n opens)
    by_tag (Some n) false = pure_steady _
    by_tag (Some n) true = enum_body a (Some n)
    by_tag None opens = enum_body a None

  spec : (storage typed : Bool) → Steady F true (r.spec mode part room storage typed)
  unfolding r.spec
  spec storage typed = placed λ a. peeks λ o. by_kind a o where
    other : (a : At) (w : Option SpecWord) → Steady F true (r.word_or mode part room storage a w)
    other a w = by_option w (r.word_or mode part room storage a) refuse_steady λ w.
        pick (storage || not (is_storage w)) skip_pure refuse_steady

    by_kind : (a : At) (o : Option CTokKind) → Steady F true (r.spec_by mode part room storage typed a o)
    by_kind a (Some (c.Mark m.Struct)) = first skip_steady λ _. record_spec a RecordKind.Struct
    by_kind a (Some (c.Mark m.Union)) = first skip_steady λ _. record_spec a RecordKind.Union
    by_kind a (Some (c.Mark m.Enum)) = first skip_steady λ _. enum_spec a
    by_kind a (Some (c.Ident n)) = asks (λ i. not typed && is_type i.state n) (λ _ _ _ _. refl) λ b. pick b
        (first skip_steady λ _. pure_steady (tall (sp.Alias a n) none)) refuse_steady
    by_kind a (Some o) = other a (word_of (Some o))
    by_kind a None = other a None

  next_spec : (storage : Bool) (xs : Tall Specs) → Steady F true (r.next_spec mode part room storage xs)
  unfolding r.next_spec
  next_spec storage xs = first (spec storage xs.tree.is_typed) λ x. pure_steady _

  more_specs : (storage : Bool) (x : Tall Specs) → Steady F false
      (λ i. and_then (looped (λ xs. spec_comes xs.tree.is_typed) (r.next_spec mode part room storage) x i)
      (λ xs j. Ok (xs, record j { state = leave_out_if (not xs.tree.is_typed) ImplicitInt xs.tree.at j.state })))
  more_specs storage x = bind (looped_steady (λ xs. spec_comes xs.tree.is_typed) (r.next_spec mode part room storage)
      (λ xs. spec_first xs.tree.is_typed) (next_spec storage) x)
      λ xs. changes (leave_out_if (not xs.tree.is_typed) ImplicitInt xs.tree.at)

  pub specs : (storage : Bool) → Steady F true (r.specs mode part room storage)
  unfolding r.specs
  specs storage = first (spec storage false) λ x. more_specs storage (tall (one_spec x.tree) x.height)

  -- a typedef name is taken
  pub alias_taken : (storage : Bool) (n : List ℕ) (p : At) (rest : List Token) (S : State) → is_type S n ≡ true
      → Passes (length rest) (r.specs mode part room storage (at (name p n ++ rest) S))
  unfolding r.specs r.spec here head next left
  alias_taken storage n p rest S is =
      let one : Passes (length rest) (r.spec mode part room storage false (at (name p n ++ rest) S))
      = rw is (fine {i = at rest S} (omega arith)) in
      passes_on one λ x j. (more_specs storage (tall (one_spec x.tree) x.height)).moves j

  -- ---- members

  width : (x : Tall Declarator) → Steady F false (r.width mode part room x)
  unfolding r.width
  width x = bind slot λ y. pure_steady _

  plain_field : (typed : Bool) → Steady F false (r.plain_field mode part room typed)
  unfolding r.plain_field
  plain_field typed = bind (parts.declarator k.Named typed) λ x. pure_steady _

  field : (has_width typed : Bool) → Steady F false (r.field mode part room has_width typed)
  unfolding r.field r.named_width
  field has_width typed = asks (sees m.Colon) (sees_first m.Colon) λ colon. by_width has_width colon where
    by_width : (has_width colon : Bool) → Steady F false (r.field_by mode part room has_width typed colon)
    by_width false colon = plain_field typed
    by_width true true = bind skip_steady λ _. width (tall d.Nothing none)
    by_width true false = bind (plain_field typed) λ x. bind (expect_steady m.Colon) λ _. width x

  first_field : (typed : Bool) → Steady F false (r.first_field mode part room typed)
  unfolding r.first_field r.first_named
  first_field typed = if_eats m.Colon (bind (width (tall d.Nothing none)) λ x. pure_steady (true, x))
      (via (r.first_named mode part room typed)
      (bind (plain_field typed) λ x. if_eats m.Colon (bind (width x) λ y. pure_steady (true, y)) (pure_steady (false, x))))

  member : Steady F true (r.member mode part room)
  unfolding r.member
  member = first (specs true) λ x. bind (first_field x.tree.is_typed) λ y.
      bind (looped_steady (λ _. sees m.Comma) (comma_then (r.field mode part room y.0 x.tree.is_typed)) (λ _. sees_first m.Comma)
      (comma_then_steady (field y.0 x.tree.is_typed)) _)
      λ ys. bind (expect_steady m.Semicolon) λ _. changes (leave_out_if y.0 BitField x.tree.at)

  pub enclosed : Steady F false (r.enclosed mode part room)
  unfolding r.enclosed
  enclosed = bind (expect_steady m.OpenBrace) λ _. bind (some_steady (λ i. not (sees m.CloseBrace i)) (sees_not m.CloseBrace) member)
      λ xs. bind (expect_steady m.CloseBrace) λ _. pure_steady _

  -- ---- parameters

  declarator_or : (x : Tall Specs) → Steady F false (λ i. cond (declarator_comes k.Param x.tree.is_typed i) (r.declared mode part room x)
      (λ j. Ok (tall (record { specs = x.tree; declarator = d.Nothing }) x.height, j)) i)
  unfolding r.declared
  declarator_or x = asks (declarator_comes k.Param x.tree.is_typed) (declarator_first k.Param x.tree.is_typed) λ more. pick more
      (via (r.declared mode part room x) (bind (parts.declarator k.Param x.tree.is_typed) λ y.
      changes (declares y.tree.name x.tree.is_typedef)))
      (pure_steady (tall (record { specs = x.tree; declarator = d.Nothing }) x.height))

  params : Steady F false (r.params mode part room)
  unfolding r.params r.param
  params = listed m.Ellipsis _ (bind (specs true) declarator_or) λ xs found. pick found
      (bind (expect_steady m.Ellipsis) λ _. pure_steady (tall (record { items = xs.tree; is_variadic = true }) xs.height))
      (pure_steady (tall (record { items = xs.tree; is_variadic = false }) xs.height))

  function : (x : Tall Declaring) (a : At) → Steady F false (r.function mode part room x a)
  unfolding r.function
  function x a = with_state (λ S. S) λ before. bind params λ ps. bind (expect_steady m.CloseParen) λ _. asks (λ i. i.state) state_first
      λ behind.
      changes {a = tall (function_of a x.tree ps.tree (declared_since before behind)) (raise class.declarator (join x.height ps.height))}
      (leave before)

  identifier : Steady F false (r.identifier mode part room)
  unfolding r.identifier
  identifier = peeks λ o. by_kind o where
    by_kind : (o : Option CTokKind) → Steady F false (r.identifier_by mode part room o)
    by_kind (Some (c.Ident n)) = asks (λ i. is_type i.state n) (λ _ _ _ _. refl) λ b. by_bool b
        (r.identifier_or mode part room n) refuse_steady (loosely skip_steady)
    by_kind (Some o) = refuse_steady
    by_kind None = refuse_steady

  old_style : (x : Tall Declaring) (a : At) → Steady F false (r.old_style mode part room x a)
  unfolding r.old_style r.next_identifier
  old_style x a = bind identifier λ _. bind (looped_steady (λ _. sees m.Comma) (r.next_identifier mode part room)
      (λ _. sees_first m.Comma) (λ _. first skip_steady λ _. identifier) tt)
      λ _. bind (expect_steady m.CloseParen) λ _. changes (leave_out OldStyle (begins a x.tree))

  list : (x : Tall Declaring) (a : At) → Steady F false (r.list mode part room x a)
  unfolding r.list
  list x a = bind (fits_steady room x.height) λ _. asks word_comes word_first λ word. asks (sees m.CloseParen) (sees_first m.CloseParen)
      λ closes. by_first word closes where
        by_first : (word closes : Bool) → Steady F false (r.list_by mode part room x a word closes)
        by_first true closes = function x a
        by_first false true = bind skip_steady λ _. asks (λ i. i.state) state_first λ S.
            pure_steady (tall (function_of a x.tree no_params (declared_since S S)) (raise class.declarator (join x.height none)))
        by_first false false = pick (is_some x.tree.name) (old_style x a) refuse_steady

  -- ---- declarators

  array : (x : Tall Declaring) (a : At) → Steady F false (r.array mode part room x a)
  unfolding r.array r.size
  array x a = bind (fits_steady room x.height) λ _. bind (via (r.size mode part room) (if_sees m.CloseBracket (pure_steady (tall None none))
      (bind slot λ x. pure_steady (tall (Some x.tree) x.height)))) λ n. bind (expect_steady m.CloseBracket) λ _. pure_steady _

  suffix : (x : Tall Declaring) → Steady F true (r.suffix mode part room x)
  unfolding r.suffix
  suffix x = placed λ a. if_sees m.OpenBracket (first skip_steady λ _. array x a) (first skip_steady λ _. list x a)

  suffixes : (x : Tall Declaring) → Steady F false (looped (λ _. suffix_comes) (r.suffix mode part room) x)
  suffixes x = looped_steady (λ _. suffix_comes) (r.suffix mode part room) (λ _. suffix_first) suffix x

  starred : (kind : DeclKind) (typed : Bool) (a : At) → Steady F false (r.starred mode part room kind typed a)
  unfolding r.starred r.pointer_words r.pointer_word r.pointed
  starred kind typed a = bind (looped_steady (λ _. pointer_comes) (r.pointer_word mode part room) (λ _. pointer_first)
      (λ ws. peeks λ o. by_option (pointer_of o) (r.with_word mode part room ws) refuse_steady λ w. skip_pure) _) λ ws.
      asks (direct_comes kind typed) (direct_first kind typed) λ more. pick (is_named kind || more)
      (via (r.pointed mode part room kind typed a ws) (bind (parts.direct kind typed) λ x. pure_steady _))
      (pure_steady (tall (around (d.Pointer a ws.tree d.Nothing) nothing) (raise class.declarator ws.height)))

  grouped : (kind : DeclKind) (typed : Bool) (a : At) → Steady F false (r.grouped mode part room kind typed a)
  unfolding r.grouped
  grouped kind typed a = bind (parts.declarator kind typed) λ x. bind (expect_steady m.CloseParen) λ _. pure_steady _

  -- ---- a parenthesis that may hold parameters: two tokens tell, and either way takes it

  abbrev based : DeclKind → Bool → At → Option CTokKind → Bool → Parser (Tall Declaring)
  based kind typed a (Some (c.Mark m.OpenParen)) opens = cond (not (is_named kind) && opens) (λ i. Ok (tall nothing none, i))
      (λ i. r.grouped mode part room kind typed a (next i))
  based kind typed a o opens = r.base_by mode part room kind typed a o

  based_steady : (kind : DeclKind) (typed : Bool) (a : At) (o : Option CTokKind) (opens : Bool)
      → Steady F false (based kind typed a o opens)
  based_steady kind typed a (Some (c.Mark m.OpenParen)) opens = pick (not (is_named kind) && opens) (pure_steady _)
      (bind skip_steady λ _. grouped kind typed a)
  based_steady kind typed a (Some (c.Mark m.OpenBracket)) opens = pick (is_named kind) refuse_steady (pure_steady _)
  based_steady kind typed a (Some (c.Ident n)) opens = asks (λ i. not (is_abstract kind) && (typed || not (is_type i.state n)))
      (λ _ _ _ _. refl) λ b.
      by_bool b (r.naming mode part room a n) skip_pure refuse_steady
  based_steady kind typed a (Some o) opens = refuse_steady
  based_steady kind typed a None opens = refuse_steady

  base_same : (kind : DeclKind) (typed : Bool) (a : At) (o : Option CTokKind) (i : Input)
      → based kind typed a o (opens_key o (opens_params i)) i ≡ r.base_by mode part room kind typed a o i
  base_same kind typed a (Some (c.Mark m.OpenParen)) i = refl
  base_same kind typed a (Some o) i = refl
  base_same kind typed a None i = refl

  key : Input → At × Option CTokKind × Bool
  key i = (here i, head i, opens_key (head i) (opens_params i))

  directed : DeclKind → Bool → At × Option CTokKind × Bool → Parser (Tall Declaring)
  directed kind typed k = λ i. and_then (based kind typed k.0 k.1 k.2 i) (looped (λ _. suffix_comes) (r.suffix mode part room))

  suffix_passes : (x : Tall Declaring) (t : Token) (rest : List Token) (S : State)
      → Passes (length rest) (r.suffix mode part room x (at (t ∷ rest) S))
  unfolding r.suffix next left here
  suffix_passes x t rest S = pick_passes (sees m.OpenBracket (at (t ∷ rest) S)) (λ i. r.array mode part room x t.at (next i))
      (λ i. r.list mode part room x t.at (next i)) _ _
      (passes_goes (at rest S) (omega arith) ((array x t.at).moves (at rest S)))
      (passes_goes (at rest S) (omega arith) ((list x t.at).moves (at rest S)))

  paren_passes : (kind : DeclKind) (typed : Bool) (a : At) (b : Bool) (rest : List Token) (S : State)
      → Passes (length rest) (and_then (cond {A = Parser (Tall Declaring)} b (λ i. Ok (tall nothing none, i))
      (λ i. r.grouped mode part room kind typed a (next i)) (at (tok (c.Mark m.OpenParen) a ∷ rest) S))
      (looped (λ _. suffix_comes) (r.suffix mode part room)))
  unfolding next left suffix_comes sees head same_mark
  paren_passes kind typed a true rest S = turn_passes (λ _. suffix_comes) (r.suffix mode part room) suffix _ _ rest S _ refl
      (suffix_passes _ _ rest S)
  paren_passes kind typed a false rest S = passes_on (passes_goes (at rest S) (omega arith) ((grouped kind typed a).moves (at rest S)))
      (λ x j. (suffixes x).moves j)

  key_second : (x y : Token) (rest rest' : List Token) (S : State) → key (at (x ∷ y ∷ rest) S) ≡ key (at (x ∷ y ∷ rest') S)
  unfolding key here head next opens_params word_comes spec_comes sees
  key_second x y rest rest' S = refl

  tells_direct : (kind : DeclKind) (typed : Bool) (o : CTokKind) (p : At) (S : State)
      → Told (tok o p) S key (λ rest. Passes (length rest) (directed kind typed (key (at (tok o p ∷ rest) S)) (at (tok o p ∷ rest) S)))
  unfolding key directed here head
  tells_direct kind typed (c.Mark m.OpenParen) p S = taken λ rest. paren_passes kind typed p
      (not (is_named kind) && opens_params (at (tok (c.Mark m.OpenParen) p ∷ rest) S)) rest S
  tells_direct kind typed o p S = told λ rest rest'. refl

  direct_same : (kind : DeclKind) (typed : Bool) (i : Input) → directed kind typed (key i) i ≡ r.direct_rule mode part room kind typed i
  unfolding key directed r.direct_rule r.base
  direct_same kind typed i = ap (λ (o : Outcome _). and_then o (looped (λ _. suffix_comes) (r.suffix mode part room)))
      (base_same kind typed (here i) (head i) i)

  pub direct_rule : (kind : DeclKind) (typed : Bool) → Steady F false (r.direct_rule mode part room kind typed)
  unfolding directed
  direct_rule kind typed = steady_as _ (λ i. directed kind typed (key i) i) (direct_same kind typed)
      (keyed key (directed kind typed) (λ k. bind (based_steady kind typed k.0 k.1 k.2) suffixes) key_second
      (λ x S. tells_direct kind typed x.kind x.at S))

  pub declarator_rule : (kind : DeclKind) (typed : Bool) → Steady F false (r.declarator_rule mode part room kind typed)
  unfolding r.declarator_rule
  declarator_rule kind typed = placed λ a. if_eats m.Star (starred kind typed a) (direct_rule kind typed)

  pub type_name : Steady F false (r.type_name mode part room)
  unfolding r.type_name r.typed_name
  type_name = bind (specs false) λ x. asks (declarator_comes k.Abstract x.tree.is_typed) (declarator_first k.Abstract x.tree.is_typed)
      λ more. pick more
      (via (r.typed_name mode part room x) (bind (parts.declarator k.Abstract x.tree.is_typed) λ y. pure_steady _))
      (pure_steady (tall (record { specs = x.tree; declarator = d.Nothing }) x.height))

  -- ---- spans

  opened : (x : Tall (Unit {0})) (paren : Bool) (close : Mark) → Steady F false (r.opened mode part room x paren close)
  unfolding r.opened r.typed_span r.bracketed
  opened x paren close = asks word_comes word_first λ word. pick (paren && word)
      (via (r.typed_span mode part room x) (bind type_name λ y. bind (expect_steady m.CloseParen) λ _. pure_steady _))
      (via (r.bracketed mode part room x close) (bind (parts.span true) λ y. bind (expect_steady close) λ _. pure_steady _))

  pass : (x : Tall (Unit {0})) → Steady F true (r.pass mode part room x)
  unfolding r.pass
  pass x = peeks λ o. by_option o (r.pass_next mode part room x) refuse_steady λ k.
      by_option (closer k) (r.pass_by mode part room x (is_paren k)) skip_pure λ close. first skip_steady λ _. opened x (is_paren k) close

  pub spanned : (inside : Bool) → Steady F false (r.spanned mode part room inside)
  unfolding r.spanned
  spanned inside = bind (looped_steady (λ _. passes inside) (r.pass mode part room) (λ _. passes_first inside) pass _) λ x. pure_steady _
