-- What is claimed of each phrase: what it is read as, and what may not follow.
use Rattle.std.proofs.Common.{◌≡◌, ℕ, ◌+◌, ◌<◌, ◌≤◌, Bool, true, false, not, List, [], ◌∷◌, ◌++◌, Option, Some, None, Ok}
use Rattle.std.specs.Prelude.{◌||◌, nat_lt}
use Rattle.c_tok.specs.declared.mark.Mark.{Mark}
use Rattle.c_tok.specs.declared.mark.Mark.TheVariants as m
use Rattle.c_tok.specs.declared.token.CTokKind.{CTokKind}
use Rattle.c_tok.specs.declared.token.CTokKind.TheVariants as c
use Rattle.c_tree.specs.declared.expr.Specs.{Specs}
use Rattle.c_tree.specs.declared.expr.Declarator.{Declarator}
use Rattle.c_tree.specs.declared.declaring.Declaring.{Declaring}
use Rattle.c_tree.specs.declared.declaring.Params.{Params}
use Rattle.c_tree.specs.declared.declaration.InitDeclarator.{InitDeclarator}
use Rattle.c_tree.specs.declared.declaration.Declaration.{Declaration}
use Rattle.c_tree.specs.declared.stmt.Stmt.{Stmt}
use Rattle.c_tree.specs.declared.height.Heights.{Heights}
use Rattle.c_tree.specs.declared.height.Tall.{Tall}
use Rattle.c_tree.specs.Heights as class
use Rattle.c_tree.specs.Heights.{Class, none, join, raise, tall}
use Rattle.c_tree.specs.Specs.{one_spec}
use Rattle.c_decl.specs.declared.kind.DeclKind.TheVariants as k
use Rattle.c_decl.specs.declared.kind.Mode.{Mode}
use Rattle.c_decl.specs.Tokens.{Token, is_empty, head_of, at_of}
use Rattle.c_decl.specs.State.{State, declares}
use Rattle.c_decl.specs.Marks.{tight}
use Rattle.c_decl.specs.Grammar as g
use Rattle.c_decl.specs.Grammar.{Phrase, Tree, Body, is_named, nothing, no_params}
use Rattle.c_decl.specs.Input.{Input, Parser, left, next, sees, refuse, is_mark}
use Rattle.c_decl.specs.Entries as en
use Rattle.c_decl.specs.Entries.{Entry, phrase_of, passes_kind, comma_then, then_one, comma_before, spec_comes, word_comes, suffix_comes, pointer_comes, goes_on, passes, type_name_at, body_comes}
use Rattle.c_decl.specs.Declarators as dr
use Rattle.c_decl.specs.Expressions as er
use Rattle.c_decl.specs.Statements as sr
use Rattle.c_decl.specs.Reading.{reader}
use Rattle.c_decl.proofs.Runs.{at}
use Rattle.c_decl.proofs.Led.{Led}
use Rattle.c_decl.proofs.Begins.{is_item}

-- ---- what may follow

-- ends something, and begins and continues nothing
abbrev pub stops : Option CTokKind → Bool
stops (Some (c.Mark m.Comma)) = true
stops (Some (c.Mark m.CloseParen)) = true
stops (Some (c.Mark m.CloseBracket)) = true
stops (Some (c.Mark m.CloseBrace)) = true
stops (Some (c.Mark m.Semicolon)) = true
stops (Some (c.Mark m.Colon)) = true
stops _ = false

-- of the declarators of a declaration
abbrev pub parts : Option CTokKind → Bool
parts (Some (c.Mark m.Comma)) = true
parts (Some (c.Mark m.Semicolon)) = true
parts _ = false

abbrev pub behind_declarator : Option CTokKind → Bool
behind_declarator (Some (c.Mark m.Assign)) = true
behind_declarator o = parts o

abbrev pub suffix_kind : Option CTokKind → Bool
suffix_kind o = is_mark m.OpenBracket o || is_mark m.OpenParen o

abbrev pub ends_option : Mark → Bool
ends_option m.Semicolon = true
ends_option m.CloseParen = true
ends_option _ = false

abbrev pub item_off : Phrase → Option CTokKind → Type 0
item_off g.assignment o = tight o < 2
item_off g.init o = tight o < 2
item_off g.enumerator o = stops o ≡ true
item_off (g.field w typed) o = parts o ≡ true
item_off g.param o = stops o ≡ true
item_off (g.init_declarator typed is_typedef) o = parts o ≡ true
item_off _ o = Unit {0}

-- what stands in lists without commas
abbrev pub is_listed : Phrase → Bool
is_listed g.member = true
is_listed g.declaration = true
is_listed g.external = true
is_listed _ = false

-- ---- room for a phrase whose parts have this room

abbrev pub class_for : Phrase → Option Class
class_for g.primary = Some class.expression
class_for g.postfix = Some class.expression
class_for g.unary = Some class.expression
class_for g.cast = Some class.expression
class_for (g.binary n) = Some class.expression
class_for g.conditional = Some class.expression
class_for g.assignment = Some class.expression
class_for g.comma = Some class.expression
class_for (g.span b) = Some class.expression
class_for g.init = Some class.initializer
class_for g.members = Some class.members
class_for (g.declarator kind typed) = Some class.declarator
class_for (g.direct kind typed) = Some class.declarator
class_for (g.stem kind typed) = Some class.declarator
class_for (g.statement closed) = Some class.statement
class_for (g.behind_label closed a n) = Some class.statement
class_for g.block = Some class.statement
class_for _ = None

abbrev pub raised_by : Option Class → Heights → Heights
raised_by (Some k) room = raise k room
raised_by None room = room

abbrev pub raised_for : Phrase → Heights → Heights
raised_for p room = raised_by (class_for p) room

-- ---- what a phrase is read as

pub data Starts {A : Type 0} (a : A) (i : Input) : A → Input → Type 0 where
  starts : Starts a i a i

abbrev pub first_one : {X : Type 0} → Tall X → Tall (List X)
first_one y = tall (y.tree ∷ []) y.height

abbrev pub same : {A : Type 0} → A → A
same a = a

abbrev pub Empty : Tall Body
Empty = tall (record { declarations = []; statements = [] }) none

module _ (mode : Mode) (n : ℕ) (room : Heights) where
  abbrev pub part : (c : Entry) → Parser (Tall (Tree (phrase_of c)))
  part = reader mode n room

  -- a declarator, what it declares, and its initializer
  pub record InitGiven (typed is_typedef : Bool) (i : Input) (x : Tall InitDeclarator) (j : Input) : Type 0 where
    pub declarator : Tall Declaring
    pub behind : Input
    pub first : part (en.declarator k.Named typed) i ≡ Ok (declarator, behind)
    pub ends : behind_declarator (head_of behind.rest) ≡ true
    pub second : sr.init_or mode part room declarator (at behind.rest (declares declarator.tree.name is_typedef behind.state)) ≡ Ok (x, j)

  abbrev pub FieldGiven : Bool → Bool → Input → Tall Declarator → Input → Type 0
  FieldGiven w typed i x j = (dr.field mode part room w typed i ≡ Ok (x, j)) × (dr.first_field mode part room typed i ≡ Ok ((w, x), j))

  abbrev pub InitsGiven : Bool → Bool → Input → Tall (List InitDeclarator) → Input → Type 0
  InitsGiven typed is_typedef i x j = Led (InitGiven typed is_typedef i) first_one (λ _. sees m.Comma)
      (comma_then (sr.init_declarator mode part room typed is_typedef)) x j

  pub data DeclarationGiven (i : Input) : Tall Declaration → Input → Type 0 where
    specs_alone : {y : Tall Specs} {k : Input} → dr.specs mode part room true i ≡ Ok (y, k) → sees m.Semicolon k ≡ true
        → DeclarationGiven i (tall (record { specs = y.tree; declarators = [] }) y.height) (next k)
    with_list : {y : Tall Specs} {k l : Input} {ys : Tall (List InitDeclarator)} → dr.specs mode part room true i ≡ Ok (y, k)
        → sees m.Semicolon k ≡ false
        → InitsGiven y.tree.is_typed y.tree.is_typedef k ys l → sees m.Semicolon l ≡ true
        → DeclarationGiven i (tall (record { specs = y.tree; declarators = ys.tree }) (join y.height ys.height)) (next l)

  pub data ParamsGiven (i : Input) : Tall Params → Input → Type 0 where
    no_list : word_comes i ≡ false → sees m.CloseParen i ≡ true → ParamsGiven i (tall no_params none) i
    a_list : {x : Tall Params} {j : Input} → word_comes i ≡ true → dr.params mode part room i ≡ Ok (x, j) → ParamsGiven i x j

  -- true: a name of a type begins it, so it is a label
  pub record StatementGiven (i : Input) (x : Tall Stmt) (j : Input) : Type 0 where
    pub rule : sr.statement_rule mode part room i ≡ Ok (x, j)
    pub label : (n : List ℕ) → type_name_at i.state (head_of i.rest) ≡ Some n
        → (sees m.Colon (next i) ≡ true) × (sr.colon_rule mode part room (at_of i.rest) n (next i) ≡ Ok (x, j))

  -- ---- what lists are made of

  abbrev pub item_parser : (p : Phrase) → Parser (Tall (Tree p))
  item_parser g.assignment = part en.assignment
  item_parser g.init = part en.init
  item_parser g.enumerator = dr.enumerator mode part room
  item_parser (g.field w typed) = dr.field mode part room w typed
  item_parser g.param = dr.param mode part room
  item_parser (g.init_declarator typed is_typedef) = sr.init_declarator mode part room typed is_typedef
  item_parser g.member = dr.member mode part room
  item_parser g.declaration = sr.declaration mode part room
  item_parser g.external = sr.external mode part room
  item_parser _ = refuse

  abbrev pub item_given : (p : Phrase) → Input → Tall (Tree p) → Input → Type 0
  item_given (g.field w typed) i x j = FieldGiven w typed i x j
  item_given (g.init_declarator typed is_typedef) i x j = InitGiven typed is_typedef i x j
  item_given p i x j = item_parser p i ≡ Ok (x, j)

  abbrev pub item_more : Phrase → Input → Bool
  item_more g.init i = comma_before m.CloseBrace i
  item_more g.enumerator i = comma_before m.CloseBrace i
  item_more g.param i = comma_before m.Ellipsis i
  item_more _ i = sees m.Comma i

  abbrev pub some_more : Phrase → Input → Bool
  some_more g.member i = not (sees m.CloseBrace i)
  some_more g.declaration i = word_comes i
  some_more _ i = nat_lt 0 (left i)

  abbrev pub Gives : (p : Phrase) → Input → Tall (Tree p) → Input → Type 0
  Gives (g.parted p) i x j = is_item p ≡ true → Led (item_given p i) first_one (λ _. item_more p) (comma_then (item_parser p)) x j
  Gives (g.some p) i x j = is_listed p ≡ true
      → Led (λ y k. item_parser p i ≡ Ok (y, k)) first_one (λ _. some_more p) (then_one (item_parser p)) x j
  Gives (g.optional g.slot) i x j = dr.size mode part room i ≡ Ok (x, j)
  Gives (g.optional g.comma) i x j = (stop : Mark) → ends_option stop ≡ true → head_of j.rest ≡ Some (c.Mark stop)
      → sr.expr_before mode part room stop i ≡ Ok (x, j)
  Gives (g.optional (g.some g.declaration)) i x j = sr.old_declarations mode part room i ≡ Ok (x, j)
  Gives (g.optional _) i x j = Unit {0}
  Gives g.primary i x j = er.primary mode part room i ≡ Ok (x, j)
  Gives g.postfix i x j = Led (λ y k. er.primary mode part room i ≡ Ok (y, k)) same (λ _. goes_on 14) (er.suffixed mode part room) x j
  Gives g.arguments i x j = er.arguments mode part room i ≡ Ok (x, j)
  Gives g.unary i x j = er.unary_rule mode part room i ≡ Ok (x, j)
  Gives g.cast i x j = er.cast_rule mode part room i ≡ Ok (x, j)
  Gives (g.binary k) i x j = (low : ℕ) → 0 < low → low ≤ k
      → Led (λ y k. er.cast_rule mode part room i ≡ Ok (y, k)) same (λ _. goes_on low) (er.operation mode part room) x j
  Gives g.conditional i x j = er.conditional_rule mode part room i ≡ Ok (x, j)
  Gives g.assignment i x j = er.assignment_rule mode part room i ≡ Ok (x, j)
  Gives g.comma i x j = Led (λ y k. er.assignment_rule mode part room i ≡ Ok (y, k)) same (λ _. sees m.Comma)
      (er.comma_next mode part room) x j
  Gives g.init i x j = er.init_rule mode part room i ≡ Ok (x, j)
  Gives (g.passed b) i x j = Led (Starts (tall tt none) i) same (λ _. passes b) (dr.pass mode part room) x j
  Gives (g.span b) i x j = dr.spanned mode part room b i ≡ Ok (x, j)
  Gives g.slot i x j = dr.slot mode part room i ≡ Ok (x, j)
  Gives (g.spec storage typed) i x j = dr.spec mode part room storage typed i ≡ Ok (x, j)
  Gives (g.words storage) i x j = Led (λ y k. dr.spec mode part room storage false i ≡ Ok (y, k)) (λ y. tall (one_spec y.tree) y.height)
      (λ xs. spec_comes xs.tree.is_typed)
      (dr.next_spec mode part room storage) x j
  Gives (g.specs storage) i x j = dr.specs mode part room storage i ≡ Ok (x, j)
  Gives g.members i x j = dr.enclosed mode part room i ≡ Ok (x, j)
  Gives g.member i x j = dr.member mode part room i ≡ Ok (x, j)
  Gives (g.field w typed) i x j = FieldGiven w typed i x j
  Gives g.enumerator i x j = dr.enumerator mode part room i ≡ Ok (x, j)
  Gives (g.declarator kind typed) i x j = dr.declarator_rule mode part room kind typed i ≡ Ok (x, j)
  Gives (g.direct kind typed) i x j = dr.direct_rule mode part room kind typed i ≡ Ok (x, j)
  Gives (g.stem kind typed) i x j = Led (λ y k. dr.base mode part room kind typed i ≡ Ok (y, k)) same (λ _. suffix_comes)
      (dr.suffix mode part room) x j
  Gives g.pointer_words i x j = Led (Starts (tall [] none) i) same (λ _. pointer_comes) (dr.pointer_word mode part room) x j
  Gives g.identifiers i x j = (x.height ≡ none) × Led (λ y k. dr.identifier mode part room i ≡ Ok (y, k)) same (λ _. sees m.Comma)
      (dr.next_identifier mode part room) tt j
  Gives g.params i x j = ParamsGiven i x j
  Gives g.param i x j = dr.param mode part room i ≡ Ok (x, j)
  Gives g.type_name i x j = dr.type_name mode part room i ≡ Ok (x, j)
  Gives (g.init_declarator typed is_typedef) i x j = InitGiven typed is_typedef i x j
  Gives g.declaration i x j = DeclarationGiven i x j
  Gives (g.statement closed) i x j = StatementGiven i x j
  Gives (g.behind_label closed a n) i x j = (sees m.Colon i ≡ true) × (sr.colon_rule mode part room a n i ≡ Ok (x, j))
  Gives g.for_head i x j = sr.for_head mode part room i ≡ Ok (x, j)
  Gives g.block i x j = sr.braced mode part room i ≡ Ok (x, j)
  Gives (g.body b) i x j = Led (Starts (false, Empty) i) same (λ _. body_comes) (sr.item mode part room) (b, x) j
  Gives g.external i x j = sr.external mode part room i ≡ Ok (x, j)

  abbrev pub Off : (p : Phrase) → List Token → Tree p → List Token → State → Type 0
  Off (g.parted p) ts x rest T = item_off p (head_of rest)
  Off (g.optional g.slot) ts x rest T = is_mark m.CloseBracket (head_of rest) ≡ true
  Off (g.optional (g.some g.declaration)) ts x rest T = is_mark m.OpenBrace (head_of rest) ≡ true
  Off g.arguments ts x rest T = is_mark m.CloseParen (head_of rest) ≡ true
  Off g.unary ts x rest T = tight (head_of rest) < 14
  Off g.cast ts x rest T = tight (head_of rest) < 14
  Off (g.binary k) ts x rest T = (tight (head_of rest) < 14) × (tight (head_of rest) ≤ k)
  Off g.conditional ts x rest T = tight (head_of rest) < 3
  Off g.comma ts x rest T = tight (head_of rest) < 2
  Off (g.span b) ts x rest T = passes_kind b (head_of rest) ≡ false
  Off g.slot ts x rest T = stops (head_of rest) ≡ true
  Off (g.spec storage typed) ts x rest T = is_mark m.OpenBrace (head_of rest) ≡ false
  Off (g.words storage) ts x rest T = is_mark m.OpenBrace (head_of rest) ≡ false
  Off (g.specs storage) ts x rest T = (is_mark m.OpenBrace (head_of rest) ≡ false) × (en.word_at T x.is_typed (head_of rest) ≡ false)
  Off (g.declarator kind typed) ts x rest T = (suffix_kind (head_of rest) ≡ false) × (is_named kind ≡ false → stops (head_of rest) ≡ true)
  Off (g.direct kind typed) ts x rest T = suffix_kind (head_of rest) ≡ false
  Off (g.stem kind typed) ts x rest T = is_empty ts ≡ true
      → dr.base mode part room kind typed (at rest T) ≡ Ok (tall nothing none, at rest T)
  Off g.params ts x rest T = is_mark m.CloseParen (head_of rest) ≡ true
  Off g.type_name ts x rest T = stops (head_of rest) ≡ true
  Off (g.statement closed) ts x rest T = closed ≡ false → is_mark m.Else (head_of rest) ≡ false
  Off (g.behind_label closed a n) ts x rest T = closed ≡ false → is_mark m.Else (head_of rest) ≡ false
  Off g.for_head ts x rest T = is_mark m.CloseParen (head_of rest) ≡ true
  Off (g.body b) ts x rest T = is_mark m.Else (head_of rest) ≡ false
  Off p ts x rest T = item_off p (head_of rest)

  -- whatever follows, as long as it can't go on with it
  pub record Reads (p : Phrase) (S : State) (h : Heights) (ts : List Token) (x : Tree p) (T : State) : Type 0 where
    pub gives : (rest : List Token) → Off p ts x rest T → Gives p (at (ts ++ rest) S) (tall x h) (at rest T)

  pub record ItemReads (p : Phrase) (S : State) (h : Heights) (ts : List Token) (x : Tree p) (T : State) : Type 0 where
    pub gives : (rest : List Token) → item_off p (head_of rest) → item_given p (at (ts ++ rest) S) (tall x h) (at rest T)

  abbrev pub Ends : Entry → List Token → Type 0
  Ends en.comma rest = tight (head_of rest) < 1
  Ends en.assignment rest = tight (head_of rest) < 2
  Ends en.conditional rest = tight (head_of rest) < 3
  Ends en.cast rest = tight (head_of rest) < 14
  Ends en.unary rest = tight (head_of rest) < 14
  Ends en.init rest = tight (head_of rest) < 2
  Ends (en.binary k) rest = (tight (head_of rest) < 14) × (tight (head_of rest) < k + 1)
  Ends (en.span b) rest = passes_kind b (head_of rest) ≡ false
  Ends en.members rest = Unit {0}
  Ends (en.declarator kind typed) rest = (suffix_kind (head_of rest) ≡ false) × (is_named kind ≡ false → stops (head_of rest) ≡ true)
  Ends (en.direct kind typed) rest = suffix_kind (head_of rest) ≡ false
  Ends en.statement rest = is_mark m.Else (head_of rest) ≡ false
  Ends (en.behind_label a n) rest = is_mark m.Else (head_of rest) ≡ false
  Ends en.block rest = Unit {0}

  -- what is read as a part
  pub record PartReads (c : Entry) (S : State) (h : Heights) (ts : List Token) (x : Tree (phrase_of c)) (T : State) : Type 0 where
    pub gives : (rest : List Token) → Ends c rest → part c (at (ts ++ rest) S) ≡ Ok (tall x h, at rest T)
