-- What specifiers, declarators and spans are read as nests within the room.
use Rattle.std.proofs.Common.{◌≡◌, ℕ, Bool, true, false, not, List, Option, Some, None, Ok, refl, sym, ap}
use Rattle.std.specs.Prelude.{◌&&◌, ◌||◌, is_some}
use Rattle.c_tok.specs.declared.mark.Mark.{Mark}
use Rattle.c_tok.specs.declared.mark.Mark.TheVariants as m
use Rattle.c_tok.specs.declared.token.CTokKind.{CTokKind}
use Rattle.c_tok.specs.declared.token.CTokKind.TheVariants as c
use Rattle.c_tree.specs.declared.at.At.{At}
use Rattle.c_tree.specs.declared.operator.PointerWord.{PointerWord}
use Rattle.c_tree.specs.declared.operator.RecordKind.{RecordKind}
use Rattle.c_tree.specs.declared.operator.RecordKind.TheVariants as record_kind
use Rattle.c_tree.specs.declared.operator.SpecWord.{SpecWord}
use Rattle.c_tree.specs.declared.expr.Declarator.{Declarator}
use Rattle.c_tree.specs.declared.expr.Declarator.TheVariants as d
use Rattle.c_tree.specs.declared.expr.Spec.TheVariants as sp
use Rattle.c_tree.specs.declared.declaring.Declaring.{Declaring}
use Rattle.c_tree.specs.declared.height.Heights.{Heights}
use Rattle.c_tree.specs.declared.height.Tall.{Tall}
use Rattle.c_tree.specs.Heights as class
use Rattle.c_tree.specs.Heights.{none, join, raise, Below, tall}
use Rattle.c_tree.specs.Specs.{is_storage}
use Rattle.c_decl.specs.declared.kind.DeclKind.{DeclKind}
use Rattle.c_decl.specs.declared.kind.DeclKind.TheVariants as k
use Rattle.c_decl.specs.declared.kind.Mode.{Mode}
use Rattle.c_decl.specs.declared.kind.Mode.TheVariants.{Whole, Spans}
use Rattle.c_decl.specs.State.{is_type}
use Rattle.c_decl.specs.Marks.{word_of, pointer_of, closer}
use Rattle.c_decl.specs.Grammar.{Tree, is_named, is_abstract, is_paren}
use Rattle.c_decl.specs.Input.{Input, Parser, and_then, next, head, here, sees, expect}
use Rattle.c_decl.specs.Entries as en
use Rattle.c_decl.specs.Entries.{Entry, phrase_of}
use Rattle.c_decl.specs.Declarators as r
use Rattle.c_decl.proofs.Room.{both_below, none_below, outer_below}
use Rattle.c_decl.proofs.Sinks.{Sinks, Low, Any, binds, gives, refuses, skips, changes, pick, eats, eat_pick, expects, names_then, fits_then, loops, comma_sinks, before_sinks, some_sinks}

abbrev pub is_whole : Mode → Bool
is_whole Whole = true
is_whole Spans = false

-- what may stand in specifiers and declarators
abbrev pub covers : Mode → Entry → Bool
covers mode en.members = true
covers mode (en.declarator kind typed) = true
covers mode (en.direct kind typed) = true
covers mode (en.span inside) = true
covers mode en.statement = false
covers mode (en.behind_label a n) = false
covers mode en.block = false
covers mode _ = is_whole mode

abbrev pub Lows : (mode : Mode) → ((c : Entry) → Parser (Tall (Tree (phrase_of c)))) → Heights → Type 0
Lows mode part room = (c : Entry) → covers mode c ≡ true → (i : Input) → Sinks (Low room) i (part c i)

module _ (mode : Mode) (part : (c : Entry) → Parser (Tall (Tree (phrase_of c)))) (room : Heights) (parts : Lows mode part room) where
  nothing_low : Below none room
  nothing_low = none_below room

  slot_by : (o : Mode) → o ≡ mode → (i : Input) → Sinks (Low room) i (r.slot_by mode part room o i)
  unfolding r.span_from
  slot_by Whole is i = binds (parts en.conditional (ap is_whole (sym is)) i) λ x j l. gives l
  slot_by Spans is i = pick (en.passes false i) (r.span_from mode part room (here i)) _
      (λ _. binds (parts (en.span false) refl i) λ x j l. gives l) (λ _. refuses)

  pub slot_low : (i : Input) → Sinks (Low room) i (r.slot mode part room i)
  unfolding r.slot
  slot_low i = slot_by mode refl i

  -- ---- specifiers

  tag_any : (o : Option CTokKind) (i : Input) → Sinks Any i (r.tag_of mode part room o i)
  tag_any (Some (c.Ident n)) i = skips (gives tt)
  tag_any (Some o) i = gives tt
  tag_any None i = gives tt

  record_low : (a : At) (kind : RecordKind) (i : Input) → Sinks (Low room) i (r.record_spec mode part room a kind i)
  unfolding r.record_spec r.record_body
  record_low a kind i = binds (tag_any (head i) i) λ n j _. by n (sees m.OpenBrace j) j where
    by : (n : Option (List ℕ)) (opens : Bool) (j : Input) → Sinks (Low room) j (r.record_by mode part room a kind n opens j)
    by (Some n) false j = gives nothing_low
    by (Some n) true j = binds (parts en.members refl j) λ x k l. gives l
    by None opens j = binds (parts en.members refl j) λ x k l. gives l

  enumerator_low : (i : Input) → Sinks (Low room) i (r.enumerator mode part room i)
  unfolding r.enumerator r.counted_from
  enumerator_low i = names_then (head i) _ λ n j. eat_pick m.Assign (r.counted_from mode part room (here i) n) _
      (λ k. binds (slot_low k) λ x l low. changes _ (gives low)) (λ k. changes _ (gives nothing_low))

  enum_body_low : (a : At) (n : Option (List ℕ)) (i : Input) → Sinks (Low room) i (r.enum_body mode part room a n i)
  unfolding r.enum_body
  enum_body_low a n i = expects m.OpenBrace _ λ j. binds (before_sinks room (r.enumerator mode part room) enumerator_low m.CloseBrace j)
      λ xs j' low. eats m.Comma (λ ends l. and_then (expect m.CloseBrace l) (λ _ l'. Ok (tall (sp.Enum a n xs.tree ends) xs.height, l')))
      λ ends k'. expects m.CloseBrace _ λ k''. gives low

  enum_by : (a : At) (n : Option (List ℕ)) (opens : Bool) (i : Input) → Sinks (Low room) i (r.enum_by mode part room a n opens i)
  enum_by a (Some n) false i = gives nothing_low
  enum_by a (Some n) true i = enum_body_low a (Some n) i
  enum_by a None opens i = enum_body_low a None i

  enum_low : (a : At) (i : Input) → Sinks (Low room) i (r.enum_spec mode part room a i)
  unfolding r.enum_spec
  enum_low a i = binds (tag_any (head i) i) λ n j _. enum_by a n (sees m.OpenBrace j) j

  word_low : (storage : Bool) (a : At) (w : Option SpecWord) (i : Input) → Sinks (Low room) i (r.word_or mode part room storage a w i)
  word_low storage a (Some w) i = pick (storage || not (is_storage w)) _ _ (λ _. skips (gives nothing_low)) (λ _. refuses)
  word_low storage a None i = refuses

  spec_by : (storage typed : Bool) (a : At) (o : Option CTokKind) (i : Input)
      → Sinks (Low room) i (r.spec_by mode part room storage typed a o i)
  spec_by storage typed a (Some (c.Mark m.Struct)) i = skips (record_low a record_kind.Struct (next i))
  spec_by storage typed a (Some (c.Mark m.Union)) i = skips (record_low a record_kind.Union (next i))
  spec_by storage typed a (Some (c.Mark m.Enum)) i = skips (enum_low a (next i))
  spec_by storage typed a (Some (c.Ident n)) i = pick (not typed && is_type i.state n) _ _ (λ _. skips (gives nothing_low)) (λ _. refuses)
  spec_by storage typed a o i = word_low storage a (word_of o) i

  pub spec_low : (storage typed : Bool) (i : Input) → Sinks (Low room) i (r.spec mode part room storage typed i)
  unfolding r.spec
  spec_low storage typed i = spec_by storage typed (here i) (head i) i

  pub specs_low : (storage : Bool) (i : Input) → Sinks (Low room) i (r.specs mode part room storage i)
  unfolding r.specs r.next_spec
  specs_low storage i = binds (spec_low storage false i) λ x j l. binds (loops (λ xs. en.spec_comes xs.tree.is_typed)
      (r.next_spec mode part room storage)
      (λ xs k l. binds (spec_low storage xs.tree.is_typed k) λ y k' l'. gives (both_below xs.height y.height room l l')) _ j l)
      λ xs k l. changes _ (gives l)

  -- ---- members

  width_low : (x : Tall Declarator) (i : Input) → Below x.height room → Sinks (Low room) i (r.width mode part room x i)
  unfolding r.width
  width_low x i l = binds (slot_low i) λ y j l'. gives (both_below x.height y.height room l l')

  plain_low : (typed : Bool) (i : Input) → Sinks (Low room) i (r.plain_field mode part room typed i)
  unfolding r.plain_field
  plain_low typed i = binds (parts (en.declarator k.Named typed) refl i) λ x j l. gives l

  field_low : (w typed : Bool) (i : Input) → Sinks (Low room) i (r.field mode part room w typed i)
  unfolding r.field r.named_width
  field_low w typed i = by w (sees m.Colon i) where
    by : (w colon : Bool) → Sinks (Low room) i (r.field_by mode part room w typed colon i)
    by false colon = plain_low typed i
    by true true = skips (width_low _ (next i) nothing_low)
    by true false = binds (plain_low typed i) λ x j l. expects m.Colon _ λ j'. width_low x j' l

  abbrev Second : Bool × Tall Declarator → Type 0
  Second x = Below (x.1).height room

  first_low : (typed : Bool) (i : Input) → Sinks Second i (r.first_field mode part room typed i)
  unfolding r.first_field r.first_named
  first_low typed i = eat_pick m.Colon _ (r.first_named mode part room typed)
      (λ j. binds (width_low (tall d.Nothing none) j nothing_low) λ x k' l. gives l)
      (λ j. binds (plain_low typed j) λ x j' l. eat_pick m.Colon _ _
      (λ k'. binds (width_low x k' l) λ y l' low. gives low) (λ k'. gives l))

  member_low : (i : Input) → Sinks (Low room) i (r.member mode part room i)
  unfolding r.member
  member_low i = binds (specs_low true i) λ x j l. binds (first_low x.tree.is_typed j) λ y j' l'. binds (loops (λ _. sees m.Comma)
      (en.comma_then (r.field mode part room y.0 x.tree.is_typed))
      (comma_sinks room (r.field mode part room y.0 x.tree.is_typed) (field_low y.0 x.tree.is_typed)) _ j' l')
      λ ys k' l''. expects m.Semicolon _ λ k''. changes _ (gives (both_below x.height ys.height room l l''))

  pub enclosed_low : (i : Input) → Sinks (Low (raise class.members room)) i (r.enclosed mode part room i)
  unfolding r.enclosed
  enclosed_low i = expects m.OpenBrace _ λ j. binds
      (some_sinks room (r.member mode part room) member_low (λ i. not (sees m.CloseBrace i)) j)
      λ xs j' l. expects m.CloseBrace _ λ k'. gives (outer_below class.members xs.height room l)

  -- ---- declarators

  abbrev Deep : {X : Type 0} → Tall X → Type 0
  Deep x = Below x.height (raise class.declarator room)

  words_low : (i : Input) → Sinks (Low room) i (r.pointer_words mode part room i)
  unfolding r.pointer_words r.pointer_word
  words_low i = loops (λ _. en.pointer_comes) (r.pointer_word mode part room)
      (λ ws j l. by ws (pointer_of (head j)) j l) _ i nothing_low where
        by : (ws : Tall (List PointerWord)) (w : Option PointerWord) (j : Input) → Below ws.height room
            → Sinks (Low room) j (r.with_word mode part room ws w j)
        by ws (Some w) j l = skips (gives l)
        by ws None j l = refuses

  starred_low : (kind : DeclKind) (typed : Bool) (a : At) (i : Input) → Sinks Deep i (r.starred mode part room kind typed a i)
  unfolding r.starred r.pointed
  starred_low kind typed a i = binds (words_low i) λ ws j l. pick (is_named kind || en.direct_comes kind typed j)
      (r.pointed mode part room kind typed a ws) _
      (λ _. binds (parts (en.direct kind typed) refl j) λ x j' l'.
      gives (outer_below class.declarator (join ws.height x.height) room (both_below ws.height x.height room l l')))
      (λ _. gives (outer_below class.declarator ws.height room l))

  grouped_low : (kind : DeclKind) (typed : Bool) (a : At) (i : Input) → Sinks Deep i (r.grouped mode part room kind typed a i)
  unfolding r.grouped
  grouped_low kind typed a i = binds (parts (en.declarator kind typed) refl i) λ x j l. expects m.CloseParen _ λ j'.
      gives (outer_below class.declarator x.height room l)

  base_by : (kind : DeclKind) (typed : Bool) (a : At) (o : Option CTokKind) (i : Input)
      → Sinks Deep i (r.base_by mode part room kind typed a o i)
  base_by kind typed a (Some (c.Ident n)) i = by (not (is_abstract kind) && (typed || not (is_type i.state n))) where
    by : (b : Bool) → Sinks Deep i (r.naming mode part room a n b i)
    by true = skips (gives (outer_below class.declarator none room nothing_low))
    by false = refuses
  base_by kind typed a (Some (c.Mark m.OpenParen)) i = pick (not (is_named kind) && en.opens_params i) _ _ (λ _. gives (none_below _))
      (λ _. skips (grouped_low kind typed a (next i)))
  base_by kind typed a (Some (c.Mark m.OpenBracket)) i = pick (is_named kind) _ _ (λ _. refuses) (λ _. gives (none_below _))
  base_by kind typed a (Some o) i = refuses
  base_by kind typed a None i = refuses

  pub base_low : (kind : DeclKind) (typed : Bool) (i : Input) → Sinks Deep i (r.base mode part room kind typed i)
  unfolding r.base
  base_low kind typed i = base_by kind typed (here i) (head i) i

  array_low : (x : Tall Declaring) (a : At) (i : Input) → Sinks Deep i (r.array mode part room x a i)
  unfolding r.array r.size
  array_low x a i = fits_then room x.height _ λ l. binds (pick (sees m.CloseBracket i) _ _ (λ _. gives nothing_low)
      (λ _. binds (slot_low i) λ y j l'. gives l')) λ n j l'. expects m.CloseBracket _ λ j'.
      gives (outer_below class.declarator (join x.height n.height) room (both_below x.height n.height room l l'))

  pub param_low : (i : Input) → Sinks (Low room) i (r.param mode part room i)
  unfolding r.param r.declared
  param_low i = binds (specs_low true i) λ x j l. pick (en.declarator_comes k.Param x.tree.is_typed j) (r.declared mode part room x) _
      (λ _. binds (parts (en.declarator k.Param x.tree.is_typed) refl j) λ y j' l'.
      changes _ (gives (both_below x.height y.height room l l'))) (λ _. gives l)

  params_low : (i : Input) → Sinks (Low room) i (r.params mode part room i)
  unfolding r.params
  params_low i = binds (before_sinks room (r.param mode part room) param_low m.Ellipsis i) λ xs j l. eat_pick m.Comma _ _
      (λ j'. expects m.Ellipsis _ λ k'. gives l) (λ j'. gives l)

  identifier_any : (i : Input) → Sinks Any i (r.identifier mode part room i)
  unfolding r.identifier
  identifier_any i = by (head i) where
    by : (o : Option CTokKind) → Sinks Any i (r.identifier_by mode part room o i)
    by (Some (c.Ident n)) = known (is_type i.state n) where
      known : (b : Bool) → Sinks Any i (r.identifier_or mode part room n b i)
      known true = refuses
      known false = skips (gives tt)
    by (Some o) = refuses
    by None = refuses

  alone_low : (h : Heights) → Below h room → Below (raise class.declarator (join h none)) (raise class.declarator room)
  alone_low h l = outer_below class.declarator (join h none) room (both_below h none room l nothing_low)

  function_low : (x : Tall Declaring) (a : At) (i : Input) → Below x.height room → Sinks Deep i (r.function mode part room x a i)
  unfolding r.function
  function_low x a i l = binds (params_low i) λ ps j l'. expects m.CloseParen _ λ j'. changes _
      (gives (outer_below class.declarator (join x.height ps.height) room (both_below x.height ps.height room l l')))

  old_low : (x : Tall Declaring) (a : At) (i : Input) → Below x.height room → Sinks Deep i (r.old_style mode part room x a i)
  unfolding r.old_style r.next_identifier
  old_low x a i l = binds (identifier_any i) λ _ j _. binds {P = Any} (loops {P = Any} (λ _. sees m.Comma)
      (r.next_identifier mode part room) (λ _ j' _. skips (identifier_any (next j'))) tt j tt) λ _ k' _. expects m.CloseParen _ λ k''.
      changes _ (gives (alone_low x.height l))

  list_by : (x : Tall Declaring) (a : At) (word closes : Bool) (i : Input) → Below x.height room
      → Sinks Deep i (r.list_by mode part room x a word closes i)
  list_by x a true closes i l = function_low x a i l
  list_by x a false true i l = skips (gives (alone_low x.height l))
  list_by x a false false i l = pick (is_some x.tree.name) (r.old_style mode part room x a) _ (λ _. old_low x a i l) (λ _. refuses)

  list_low : (x : Tall Declaring) (a : At) (i : Input) → Sinks Deep i (r.list mode part room x a i)
  unfolding r.list
  list_low x a i = fits_then room x.height _ λ l. list_by x a (en.word_comes i) (sees m.CloseParen i) i l

  pub suffix_low : (x : Tall Declaring) (i : Input) → Sinks Deep (next i) (r.suffix mode part room x i)
  unfolding r.suffix
  suffix_low x i = pick (sees m.OpenBracket i) _ _ (λ _. array_low x (here i) (next i)) (λ _. list_low x (here i) (next i))

  pub direct_low : (kind : DeclKind) (typed : Bool) (i : Input) → Sinks Deep i (r.direct_rule mode part room kind typed i)
  unfolding r.direct_rule
  direct_low kind typed i = binds (base_low kind typed i) λ x j l. loops (λ _. en.suffix_comes) (r.suffix mode part room)
      (λ y k' _. skips (suffix_low y k')) x j l

  pub declarator_low : (kind : DeclKind) (typed : Bool) (i : Input) → Sinks Deep i (r.declarator_rule mode part room kind typed i)
  unfolding r.declarator_rule
  declarator_low kind typed i = eat_pick m.Star (r.starred mode part room kind typed (here i))
      (r.direct_rule mode part room kind typed) (starred_low kind typed (here i)) (direct_low kind typed)

  pub type_name_low : (i : Input) → Sinks (Low room) i (r.type_name mode part room i)
  unfolding r.type_name r.typed_name
  type_name_low i = binds (specs_low false i) λ x j l.
      pick (en.declarator_comes k.Abstract x.tree.is_typed j) (r.typed_name mode part room x) _
      (λ _. binds (parts (en.declarator k.Abstract x.tree.is_typed) refl j) λ y j' l'. gives (both_below x.height y.height room l l'))
      (λ _. gives l)

  -- ---- spans

  bracketed_low : (x : Tall (Unit {0})) (close : Mark) (i : Input) → Below x.height room
      → Sinks (Low room) i (r.bracketed mode part room x close i)
  unfolding r.bracketed
  bracketed_low x close i l = binds (parts (en.span true) refl i) λ y j l'. expects close _ λ j'.
      gives (both_below x.height y.height room l l')

  opened_low : (x : Tall (Unit {0})) (paren : Bool) (close : Mark) (i : Input) → Below x.height room
      → Sinks (Low room) i (r.opened mode part room x paren close i)
  unfolding r.opened r.typed_span
  opened_low x paren close i l = pick (paren && en.word_comes i) (r.typed_span mode part room x) (r.bracketed mode part room x close)
      (λ _. binds (type_name_low i) λ y j l'. expects m.CloseParen _ λ j'. gives (both_below x.height y.height room l l'))
      (λ _. bracketed_low x close i l)

  pass_low : (x : Tall (Unit {0})) (i : Input) → Below x.height room → Sinks (Low room) i (r.pass mode part room x i)
  unfolding r.pass
  pass_low x i l = by (head i) where
    closed : (paren : Bool) (o : Option Mark) → Sinks (Low room) i (r.pass_by mode part room x paren o i)
    closed paren None = skips (gives l)
    closed paren (Some close) = skips (opened_low x paren close (next i) l)

    by : (o : Option CTokKind) → Sinks (Low room) i (r.pass_next mode part room x o i)
    by (Some o) = closed (is_paren o) (closer o)
    by None = refuses

  pub span_low : (inside : Bool) (i : Input) → Sinks (Low (raise class.expression room)) i (r.spanned mode part room inside i)
  unfolding r.spanned
  span_low inside i = binds (loops (λ _. en.passes inside) (r.pass mode part room) (λ x j l. pass_low x j l) _ i nothing_low)
      λ x j l. gives (outer_below class.expression x.height room l)
