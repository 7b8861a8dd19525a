-- How specifiers, declarators, types and spans are read.
use Rattle.std.specs.Prelude.{ℕ, ◌-◌, Bool, true, false, not, ◌&&◌, ◌||◌, if◌then◌else◌, List, [], ◌∷◌, ◌++◌, Option, Some, None, is_some}
use Rattle.c_tok.specs.declared.mark.Mark.{Mark}
use Rattle.c_tok.specs.declared.mark.Mark.TheVariants as m
use Rattle.c_tok.specs.declared.token.CTokKind.{CTokKind}
use Rattle.c_tok.specs.declared.token.CTokKind.TheVariants as c
use Rattle.c_tree.specs.declared.at.At.{At}
use Rattle.c_tree.specs.declared.operator.PointerWord.{PointerWord}
use Rattle.c_tree.specs.declared.operator.RecordKind.{RecordKind}
use Rattle.c_tree.specs.declared.operator.SpecWord.{SpecWord}
use Rattle.c_tree.specs.declared.expr.Slot.{Slot}
use Rattle.c_tree.specs.declared.expr.Slot.TheVariants as sl
use Rattle.c_tree.specs.declared.expr.Spec.{Spec}
use Rattle.c_tree.specs.declared.expr.Spec.TheVariants as sp
use Rattle.c_tree.specs.declared.expr.Specs.{Specs}
use Rattle.c_tree.specs.declared.expr.Member.{Member}
use Rattle.c_tree.specs.declared.expr.Enumerator.{Enumerator}
use Rattle.c_tree.specs.declared.expr.Declarator.{Declarator}
use Rattle.c_tree.specs.declared.expr.Declarator.TheVariants as d
use Rattle.c_tree.specs.declared.expr.Param.{Param}
use Rattle.c_tree.specs.declared.expr.TypeName.{TypeName}
use Rattle.c_tree.specs.declared.declaring.Declaring.{Declaring}
use Rattle.c_tree.specs.declared.declaring.Params.{Params}
use Rattle.c_tree.specs.declared.height.Heights.{Heights}
use Rattle.c_tree.specs.declared.height.Tall.{Tall}
use Rattle.c_tree.specs.Heights as class
use Rattle.c_tree.specs.Heights.{none, join, raise, count, tall}
use Rattle.c_tree.specs.Specs.{is_storage, one_spec, with_spec}
use Rattle.c_decl.specs.declared.kind.DeclKind.{DeclKind}
use Rattle.c_decl.specs.declared.kind.DeclKind.TheVariants as k
use Rattle.c_decl.specs.declared.kind.Mode.{Mode}
use Rattle.c_decl.specs.declared.kind.Mode.TheVariants.{Whole, Spans}
use Rattle.c_decl.specs.declared.marking.Marked.TheVariants.{OldStyle, ImplicitInt, BitField}
use Rattle.c_decl.specs.State.{is_type, declare, declares, leave, declared_since, leave_out, leave_out_if}
use Rattle.c_decl.specs.Marks.{word_of, pointer_of, closer}
use Rattle.c_decl.specs.Grammar as g
use Rattle.c_decl.specs.Grammar.{Tree, is_word, is_named, is_abstract, nothing, called, around, begins, function_of, no_params}
use Rattle.c_decl.specs.Input.{here, next, left, Parser, ◌>>=◌, ◌>>◌, pure, refuse, peek, ask, change, skip, sees, eat, expect, a_name, looped}
use Rattle.c_decl.specs.Entries.{Entry, conditional, span, members, declarator, direct, phrase_of, spec_comes, word_comes, passes, direct_comes, declarator_comes, opens_params, suffix_comes, pointer_comes, comma_then, parted_before, some_while, fits}

-- ---- `part` reads what has room, and these what may be one higher in its class.
module _ (mode : Mode) (part : (c : Entry) → Parser (Tall (Tree (phrase_of c)))) (room : Heights) where
  -- ---- constant expressions

  unfoldable pub span_from : At → Parser (Tall Slot)
  span_from a = do
    names ← ask (λ i. i.state.names)
    before ← ask left
    x ← part (span false)
    behind ← ask left
    pure (tall (sl.Span (record { first = a.number; count = before - behind; names = names })) x.height)

  abbrev pub slot_by : Mode → Parser (Tall Slot)
  slot_by Whole = do x ← part conditional; pure (tall (sl.Read x.tree) x.height)
  slot_by Spans = do
    some ← ask (passes false)
    a ← ask here
    if some then span_from a else refuse

  unfoldable pub slot : Parser (Tall Slot)
  slot = slot_by mode

  -- ---- specifiers

  abbrev pub tag_of : Option CTokKind → Parser (Option (List ℕ))
  tag_of (Some (c.Ident n)) = skip >> pure (Some n)
  tag_of _ = pure None

  unfoldable pub record_body : At → RecordKind → Option (List ℕ) → Parser (Tall Spec)
  record_body a kind n = do
    xs ← part members
    pure (tall (sp.Record a kind n xs.tree) xs.height)

  abbrev pub record_by : At → RecordKind → Option (List ℕ) → Bool → Parser (Tall Spec)
  record_by a kind (Some n) false = pure (tall (sp.RecordTag a kind n) none)
  record_by a kind n _ = record_body a kind n

  -- behind `struct` or `union`
  unfoldable pub record_spec : At → RecordKind → Parser (Tall Spec)
  record_spec a kind = do
    next ← peek
    n ← tag_of next
    opens ← ask (sees m.OpenBrace)
    record_by a kind n opens

  unfoldable pub counted_from : At → List ℕ → Parser (Tall Enumerator)
  counted_from a n = do
    x ← slot
    change (declare n false)
    pure (tall (record { at = a; name = n; value = Some x.tree }) x.height)

  unfoldable pub enumerator : Parser (Tall Enumerator)
  enumerator = do
    a ← ask here
    next ← peek
    n ← a_name next
    equals ← eat m.Assign
    if equals then counted_from a n else change (declare n false) >> pure (tall (record { at = a; name = n; value = None }) none)

  -- behind `enum` and its tag
  unfoldable pub enum_body : At → Option (List ℕ) → Parser (Tall Spec)
  enum_body a n = do
    expect m.OpenBrace
    xs ← parted_before m.CloseBrace enumerator
    comma_ends ← eat m.Comma
    expect m.CloseBrace
    pure (tall (sp.Enum a n xs.tree comma_ends) xs.height)

  abbrev pub enum_by : At → Option (List ℕ) → Bool → Parser (Tall Spec)
  enum_by a (Some n) false = pure (tall (sp.EnumTag a n) none)
  enum_by a n _ = enum_body a n

  -- behind `enum`
  unfoldable pub enum_spec : At → Parser (Tall Spec)
  enum_spec a = do
    next ← peek
    n ← tag_of next
    opens ← ask (sees m.OpenBrace)
    enum_by a n opens

  abbrev pub word_or : Bool → At → Option SpecWord → Parser (Tall Spec)
  word_or storage a None = refuse
  word_or storage a (Some w) = if storage || not (is_storage w) then skip >> pure (tall (sp.Word a w) none) else refuse

  abbrev pub spec_by : Bool → Bool → At → Option CTokKind → Parser (Tall Spec)
  spec_by storage typed a (Some (c.Mark m.Struct)) = skip >> record_spec a RecordKind.Struct
  spec_by storage typed a (Some (c.Mark m.Union)) = skip >> record_spec a RecordKind.Union
  spec_by storage typed a (Some (c.Mark m.Enum)) = skip >> enum_spec a
  spec_by storage typed a (Some (c.Ident n)) = do
    names_type ← ask (λ i. not typed && is_type i.state n)
    if names_type then skip >> pure (tall (sp.Alias a n) none) else refuse
  spec_by storage typed a next = word_or storage a (word_of next)

  unfoldable pub spec : Bool → Bool → Parser (Tall Spec)
  spec storage typed = do
    a ← ask here
    next ← peek
    spec_by storage typed a next

  unfoldable pub next_spec : Bool → Tall Specs → Parser (Tall Specs)
  next_spec storage xs = do
    x ← spec storage xs.tree.is_typed
    pure (tall (with_spec xs.tree x.tree) (join xs.height x.height))

  unfoldable pub specs : Bool → Parser (Tall Specs)
  specs storage = do
    x ← spec storage false
    xs ← looped (λ xs. spec_comes xs.tree.is_typed) (next_spec storage) (tall (one_spec x.tree) x.height)
    change (leave_out_if (not xs.tree.is_typed) ImplicitInt xs.tree.at)
    pure xs

  -- ---- members

  -- behind the colon
  unfoldable pub width : Tall Declarator → Parser (Tall Declarator)
  width x = do
    y ← slot
    pure (tall x.tree (join x.height y.height))

  unfoldable pub plain_field : Bool → Parser (Tall Declarator)
  plain_field typed = do
    x ← part (declarator k.Named typed)
    pure (tall x.tree.tree x.height)

  unfoldable pub named_width : Bool → Parser (Tall Declarator)
  named_width typed = do
    x ← plain_field typed
    expect m.Colon
    width x

  abbrev pub field_by : Bool → Bool → Bool → Parser (Tall Declarator)
  field_by false typed colon = plain_field typed
  field_by true typed true = skip >> width (tall d.Nothing none)
  field_by true typed false = named_width typed

  -- true: with a width
  unfoldable pub field : Bool → Bool → Parser (Tall Declarator)
  field has_width typed = do
    colon ← ask (sees m.Colon)
    field_by has_width typed colon

  unfoldable pub first_named : Bool → Parser (Bool × Tall Declarator)
  first_named typed = do
    x ← plain_field typed
    colon ← eat m.Colon
    if colon then (do y ← width x; pure (true, y)) else pure (false, x)

  -- the first one tells whether all have a width
  unfoldable pub first_field : Bool → Parser (Bool × Tall Declarator)
  first_field typed = do
    colon ← eat m.Colon
    if colon then (do x ← width (tall d.Nothing none); pure (true, x)) else first_named typed

  unfoldable pub member : Parser (Tall Member)
  member = do
    x ← specs true
    y ← first_field x.tree.is_typed
    ys ← looped (λ _. sees m.Comma) (comma_then (field y.0 x.tree.is_typed)) (tall (y.1.tree ∷ []) y.1.height)
    expect m.Semicolon
    change (leave_out_if y.0 BitField x.tree.at)
    pure (tall (record { specs = x.tree; declarators = ys.tree }) (join x.height ys.height))

  unfoldable pub enclosed : Parser (Tall (List Member))
  enclosed = do
    expect m.OpenBrace
    xs ← some_while (λ i. not (sees m.CloseBrace i)) member
    expect m.CloseBrace
    pure (tall xs.tree (raise class.members xs.height))

  -- ---- declarators

  abbrev pub with_word : Tall (List PointerWord) → Option PointerWord → Parser (Tall (List PointerWord))
  with_word ws None = refuse
  with_word ws (Some w) = skip >> pure (tall (ws.tree ++ w ∷ []) ws.height)

  unfoldable pub pointer_word : Tall (List PointerWord) → Parser (Tall (List PointerWord))
  pointer_word ws = do
    next ← peek
    with_word ws (pointer_of next)

  unfoldable pub pointer_words : Parser (Tall (List PointerWord))
  pointer_words = looped (λ _. pointer_comes) pointer_word (tall [] none)

  unfoldable pub pointed : DeclKind → Bool → At → Tall (List PointerWord) → Parser (Tall Declaring)
  pointed kind typed a ws = do
    x ← part (direct kind typed)
    pure (tall (around (d.Pointer a ws.tree x.tree.tree) x.tree) (raise class.declarator (join ws.height x.height)))

  -- behind a star
  unfoldable pub starred : DeclKind → Bool → At → Parser (Tall Declaring)
  starred kind typed a = do
    ws ← pointer_words
    more ← ask (direct_comes kind typed)
    if is_named kind || more then pointed kind typed a ws
        else pure (tall (around (d.Pointer a ws.tree d.Nothing) nothing) (raise class.declarator ws.height))

  unfoldable pub grouped : DeclKind → Bool → At → Parser (Tall Declaring)
  grouped kind typed a = do
    x ← part (declarator kind typed)
    expect m.CloseParen
    pure (tall (around (d.Grouped a x.tree.tree) x.tree) (raise class.declarator x.height))

  abbrev pub naming : At → List ℕ → Bool → Parser (Tall Declaring)
  naming a n true = skip >> pure (tall (called a n) (raise class.declarator none))
  naming a n false = refuse

  abbrev pub base_by : DeclKind → Bool → At → Option CTokKind → Parser (Tall Declaring)
  base_by kind typed a (Some (c.Ident n)) = ask (λ i. not (is_abstract kind) && (typed || not (is_type i.state n))) >>= naming a n
  base_by kind typed a (Some (c.Mark m.OpenParen)) = do
    opens ← ask opens_params
    if not (is_named kind) && opens then pure (tall nothing none) else skip >> grouped kind typed a
  base_by kind typed a (Some (c.Mark m.OpenBracket)) = if is_named kind then refuse else pure (tall nothing none)
  base_by kind typed a _ = refuse

  unfoldable pub base : DeclKind → Bool → Parser (Tall Declaring)
  base kind typed = do
    a ← ask here
    next ← peek
    base_by kind typed a next

  -- up to the bracket
  unfoldable pub size : Parser (Tall (Option Slot))
  size = do
    none_ ← ask (sees m.CloseBracket)
    if none_ then pure (tall None none) else (do x ← slot; pure (tall (Some x.tree) x.height))

  unfoldable pub array : Tall Declaring → At → Parser (Tall Declaring)
  array x a = do
    fits room x.height
    n ← size
    expect m.CloseBracket
    pure (tall (around (d.Array (begins a x.tree) x.tree.tree n.tree) x.tree) (raise class.declarator (join x.height n.height)))

  unfoldable pub declared : Tall Specs → Parser (Tall Param)
  declared x = do
    y ← part (declarator k.Param x.tree.is_typed)
    change (declares y.tree.name x.tree.is_typedef)
    pure (tall (record { specs = x.tree; declarator = y.tree.tree }) (join x.height y.height))

  unfoldable pub param : Parser (Tall Param)
  param = do
    x ← specs true
    more ← ask (declarator_comes k.Param x.tree.is_typed)
    if more then declared x else pure (tall (record { specs = x.tree; declarator = d.Nothing }) x.height)

  unfoldable pub params : Parser (Tall Params)
  params = do
    xs ← parted_before m.Ellipsis param
    found ← eat m.Comma
    if found then expect m.Ellipsis >> pure (tall (record { items = xs.tree; is_variadic = true }) xs.height)
        else pure (tall (record { items = xs.tree; is_variadic = false }) xs.height)

  unfoldable pub function : Tall Declaring → At → Parser (Tall Declaring)
  function x a = do
    before ← ask (λ i. i.state)
    ps ← params
    expect m.CloseParen
    behind ← ask (λ i. i.state)
    change (leave before)
    pure (tall (function_of a x.tree ps.tree (declared_since before behind)) (raise class.declarator (join x.height ps.height)))

  abbrev pub identifier_or : List ℕ → Bool → Parser (Unit {0})
  identifier_or n true = refuse
  identifier_or n false = skip

  abbrev pub identifier_by : Option CTokKind → Parser (Unit {0})
  identifier_by (Some (c.Ident n)) = ask (λ i. is_type i.state n) >>= identifier_or n
  identifier_by _ = refuse

  unfoldable pub identifier : Parser (Unit {0})
  identifier = peek >>= identifier_by

  unfoldable pub next_identifier : Unit {0} → Parser (Unit {0})
  next_identifier _ = skip >> identifier

  -- names in place of parameters
  unfoldable pub old_style : Tall Declaring → At → Parser (Tall Declaring)
  old_style x a = do
    identifier
    looped (λ _. sees m.Comma) next_identifier tt
    expect m.CloseParen
    change (leave_out OldStyle (begins a x.tree))
    pure (tall (function_of a x.tree no_params []) (raise class.declarator (join x.height none)))

  abbrev pub list_by : Tall Declaring → At → Bool → Bool → Parser (Tall Declaring)
  list_by x a true closes = function x a
  list_by x a false true = skip >> (λ i. pure (tall (function_of a x.tree no_params (declared_since i.state i.state)) (raise class.declarator (join x.height none))) i)
  list_by x a false false = if is_some x.tree.name then old_style x a else refuse

  -- behind the parenthesis
  unfoldable pub list : Tall Declaring → At → Parser (Tall Declaring)
  list x a = do
    fits room x.height
    word ← ask word_comes
    closes ← ask (sees m.CloseParen)
    list_by x a word closes

  unfoldable pub suffix : Tall Declaring → Parser (Tall Declaring)
  suffix x = do
    a ← ask here
    is_array ← ask (sees m.OpenBracket)
    if is_array then skip >> array x a else skip >> list x a

  unfoldable pub direct_rule : DeclKind → Bool → Parser (Tall Declaring)
  direct_rule kind typed = do
    x ← base kind typed
    looped (λ _. suffix_comes) suffix x

  unfoldable pub declarator_rule : DeclKind → Bool → Parser (Tall Declaring)
  declarator_rule kind typed = do
    a ← ask here
    is_pointer ← eat m.Star
    if is_pointer then starred kind typed a else direct_rule kind typed

  unfoldable pub typed_name : Tall Specs → Parser (Tall TypeName)
  typed_name x = do
    y ← part (declarator k.Abstract x.tree.is_typed)
    pure (tall (record { specs = x.tree; declarator = y.tree.tree }) (join x.height y.height))

  unfoldable pub type_name : Parser (Tall TypeName)
  type_name = do
    x ← specs false
    more ← ask (declarator_comes k.Abstract x.tree.is_typed)
    if more then typed_name x else pure (tall (record { specs = x.tree; declarator = d.Nothing }) x.height)

  -- ---- spans

  unfoldable pub bracketed : Tall (Unit {0}) → Mark → Parser (Tall (Unit {0}))
  bracketed before close = do
    x ← part (span true)
    expect close
    pure (tall tt (join before.height x.height))

  unfoldable pub typed_span : Tall (Unit {0}) → Parser (Tall (Unit {0}))
  typed_span before = do
    x ← type_name
    expect m.CloseParen
    pure (tall tt (join before.height x.height))

  unfoldable pub opened : Tall (Unit {0}) → Bool → Mark → Parser (Tall (Unit {0}))
  opened before is_paren close = do
    is_word ← ask word_comes
    if is_paren && is_word then typed_span before else bracketed before close

  abbrev pub pass_by : Tall (Unit {0}) → Bool → Option Mark → Parser (Tall (Unit {0}))
  pass_by before is_paren None = skip >> pure before
  pass_by before is_paren (Some close) = skip >> opened before is_paren close

  abbrev pub pass_next : Tall (Unit {0}) → Option CTokKind → Parser (Tall (Unit {0}))
  pass_next before (Some o) = pass_by before (g.is_paren o) (closer o)
  pass_next before None = refuse

  -- one token, or a pair of brackets with what is between them
  unfoldable pub pass : Tall (Unit {0}) → Parser (Tall (Unit {0}))
  pass before = peek >>= pass_next before

  unfoldable pub spanned : Bool → Parser (Tall (Unit {0}))
  spanned inside = do
    x ← looped (λ _. passes inside) pass (tall tt none)
    pure (tall tt (raise class.expression x.height))
