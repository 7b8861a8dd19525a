-- The grammar of C: which tokens are which tree, a production each (ANSI C X3.159-1989, 3.3 and 3.5 to 3.7).
use Rattle.std.specs.Prelude.{◌≡◌, ℕ, ◌+◌, ◌≤◌, Bool, true, false, not, ◌&&◌, ◌||◌, List, [], ◌∷◌, ◌++◌, length, Option, Some, None, is_some}
use Rattle.c_type.specs.declared.operator.BinOp.{BinOp}
use Rattle.c_tok.specs.declared.constant.Constant.{Constant}
use Rattle.c_tok.specs.declared.mark.Mark.{Mark}
use Rattle.c_tok.specs.declared.mark.Mark.TheVariants as m
use Rattle.c_tok.specs.declared.token.CTokKind.{CTokKind}
use Rattle.c_tok.specs.declared.token.CTokKind.TheVariants as c
use Rattle.c_tree.specs.declared.at.At.{At}
use Rattle.c_tree.specs.declared.operator.Access.{Access}
use Rattle.c_tree.specs.declared.operator.Infix.{Infix}
use Rattle.c_tree.specs.declared.operator.PointerWord.{PointerWord}
use Rattle.c_tree.specs.declared.operator.RecordKind.{RecordKind}
use Rattle.c_tree.specs.declared.operator.SpecWord.{SpecWord}
use Rattle.c_tree.specs.declared.operator.Step.{Step}
use Rattle.c_tree.specs.declared.operator.UnaryOp.{UnaryOp}
use Rattle.c_tree.specs.declared.expr.Expr.{Expr}
use Rattle.c_tree.specs.declared.expr.Expr.TheVariants as e
use Rattle.c_tree.specs.declared.expr.Slot.{Slot}
use Rattle.c_tree.specs.declared.expr.Slot.TheVariants as sl
use Rattle.c_tree.specs.declared.expr.Spec.{Spec}
use Rattle.c_tree.specs.declared.expr.Spec.TheVariants as sp
use Rattle.c_tree.specs.declared.expr.Specs.{Specs}
use Rattle.c_tree.specs.declared.expr.Member.{Member}
use Rattle.c_tree.specs.declared.expr.Enumerator.{Enumerator}
use Rattle.c_tree.specs.declared.expr.Declarator.{Declarator}
use Rattle.c_tree.specs.declared.expr.Declarator.TheVariants as d
use Rattle.c_tree.specs.declared.expr.Param.{Param}
use Rattle.c_tree.specs.declared.expr.TypeName.{TypeName}
use Rattle.c_tree.specs.declared.declaring.Declaring.{Declaring}
use Rattle.c_tree.specs.declared.declaring.Params.{Params}
use Rattle.c_tree.specs.declared.declaration.Init.{Init}
use Rattle.c_tree.specs.declared.declaration.Init.TheVariants as i
use Rattle.c_tree.specs.declared.declaration.InitDeclarator.{InitDeclarator}
use Rattle.c_tree.specs.declared.declaration.Declaration.{Declaration}
use Rattle.c_tree.specs.declared.stmt.Stmt.{Stmt}
use Rattle.c_tree.specs.declared.stmt.Stmt.TheVariants as st
use Rattle.c_tree.specs.declared.stmt.ForHead.{ForHead}
use Rattle.c_tree.specs.declared.stmt.Block.{Block}
use Rattle.c_tree.specs.declared.stmt.External.{External}
use Rattle.c_tree.specs.declared.stmt.External.TheVariants as ext
use Rattle.c_tree.specs.declared.height.Heights.{Heights}
use Rattle.c_tree.specs.Heights as class
use Rattle.c_tree.specs.Heights.{none, join, raise}
use Rattle.c_tree.specs.Begins.{expr_at, expr_or, declarator_at, or_at}
use Rattle.c_tree.specs.Specs.{is_storage, no_specs, one_spec, with_spec}
use Rattle.c_names.specs.declared.names.Declared.{Declared}
use Rattle.c_decl.specs.declared.kind.Control.{Control}
use Rattle.c_decl.specs.declared.kind.Control.TheVariants as control
use Rattle.c_decl.specs.declared.kind.Jump.{Jump}
use Rattle.c_decl.specs.declared.kind.Jump.TheVariants as jump
use Rattle.c_decl.specs.declared.kind.DeclKind.{DeclKind}
use Rattle.c_decl.specs.declared.kind.DeclKind.TheVariants as k
use Rattle.c_decl.specs.declared.kind.Mode.{Mode}
use Rattle.c_decl.specs.declared.kind.Mode.TheVariants.{Whole, Spans}
use Rattle.c_decl.specs.declared.marking.Marked.TheVariants.{OldStyle, ImplicitInt, BitField}
use Rattle.c_decl.specs.Tokens.{Token, tok, mark, name, tag, ending, is_empty}
use Rattle.c_decl.specs.State.{State, is_type, declare, declares, enter, leave, declared_since, leave_out, leave_out_all, leave_out_if}
use Rattle.c_decl.specs.Marks.{tight, infix_of, assign_of, unary_of, step_of, access_of, word_of, record_of, pointer_of, control_of, jump_of, passable, closer}

pub data Phrase : Type 0 where
  -- one after another, parted by commas; one after another; one or none
  parted : Phrase → Phrase
  some : Phrase → Phrase
  optional : Phrase → Phrase
  -- expressions
  primary postfix arguments unary cast : Phrase
  -- operators that bind at least so tightly
  binary : ℕ → Phrase
  conditional assignment comma init : Phrase
  -- what a span passes over; true: between brackets
  passed : Bool → Phrase
  span : Bool → Phrase
  slot : Phrase
  -- true: storage classes are allowed; true: a type stands before
  spec : Bool → Bool → Phrase
  words : Bool → Phrase
  specs : Bool → Phrase
  -- with its braces
  members : Phrase
  member : Phrase
  -- true: with a width; true: behind a type
  field : Bool → Bool → Phrase
  enumerator : Phrase
  -- true: behind a type
  declarator : DeclKind → Bool → Phrase
  direct : DeclKind → Bool → Phrase
  -- a direct declarator, or the nothing that one begins with
  stem : DeclKind → Bool → Phrase
  pointer_words : Phrase
  identifiers : Phrase
  params : Phrase
  param : Phrase
  type_name : Phrase
  -- true: behind a type; true: of a typedef
  init_declarator : Bool → Bool → Phrase
  declaration : Phrase
  -- true: closed, so that it may stand before `else`
  statement : Bool → Phrase
  -- what stands behind the name of a label
  behind_label : Bool → At → List ℕ → Phrase
  for_head : Phrase
  block : Phrase
  -- of a block; true: statements have begun, and no declaration follows
  body : Bool → Phrase
  external : Phrase

-- what a block has between its braces
pub record Body : Type 0 where
  pub declarations : List Declaration
  pub statements : List Stmt

abbrev pub Tree : Phrase → Type 0
Tree (parted p) = List (Tree p)
Tree (some p) = List (Tree p)
Tree (optional p) = Option (Tree p)
Tree arguments = List Expr
Tree init = Init
Tree (passed _) = Unit {0}
Tree (span _) = Unit {0}
Tree slot = Slot
Tree (spec _ _) = Spec
Tree (words _) = Specs
Tree (specs _) = Specs
Tree members = List Member
Tree member = Member
Tree (field _ _) = Declarator
Tree enumerator = Enumerator
Tree (declarator _ _) = Declaring
Tree (direct _ _) = Declaring
Tree (stem _ _) = Declaring
Tree pointer_words = List PointerWord
Tree identifiers = Unit {0}
Tree params = Params
Tree param = Param
Tree type_name = TypeName
Tree (init_declarator _ _) = InitDeclarator
Tree declaration = Declaration
Tree (statement _) = Stmt
Tree (behind_label _ _ _) = Stmt
Tree for_head = ForHead
Tree block = Block
Tree (body _) = Body
Tree external = External
Tree _ = Expr

-- a word of specifiers; true: behind a type, where a typedef name is a name like others
abbrev pub is_word : State → Bool → CTokKind → Bool
is_word S typed (c.Mark m.Struct) = true
is_word S typed (c.Mark m.Union) = true
is_word S typed (c.Mark m.Enum) = true
is_word S typed (c.Mark k) = is_some (word_of (Some (c.Mark k)))
is_word S typed (c.Ident n) = not typed && is_type S n
is_word S typed _ = false

-- a word of specifiers comes first
abbrev pub begins_specs : State → List Token → Bool
begins_specs S [] = false
begins_specs S (t ∷ rest) = is_word S false t.kind

abbrev pub is_paren : CTokKind → Bool
is_paren (c.Mark m.OpenParen) = true
is_paren _ = false

abbrev pub is_named : DeclKind → Bool
is_named k.Named = true
is_named _ = false

abbrev pub is_abstract : DeclKind → Bool
is_abstract k.Abstract = true
is_abstract _ = false

-- ---- the trees of declarators

abbrev pub nothing : Declaring
nothing = record { tree = d.Nothing; name = None; params = None }

abbrev pub called : At → List ℕ → Declaring
called p n = record { tree = d.Name p n; name = Some n; params = None }

-- around a declarator
abbrev pub around : Declarator → Declaring → Declaring
around tree x = record x { tree = tree }

-- where a declarator begins, or else what stands behind it
abbrev pub begins : At → Declaring → At
begins p x = or_at p (declarator_at x.tree)

-- of several lists of parameters the one nearest the name counts
abbrev pub nearest : Option (List Declared) → List Declared → Option (List Declared)
nearest None declared = Some declared
nearest (Some near) declared = Some near

abbrev pub function_of : At → Declaring → Params → List Declared → Declaring
function_of p x ps declared = record { tree = d.Function (begins p x) x.tree ps.items ps.is_variadic; name = x.name; params = nearest x.params declared }

abbrev pub no_params : Params
no_params = record { items = []; is_variadic = false }

-- ---- the trees of statements

abbrev pub controlled : Control → At → Expr → Stmt → Stmt
controlled control.Switch p x y = st.Switch p x y
controlled control.While p x y = st.While p x y

abbrev pub jumping : Jump → At → Stmt
jumping jump.Continue p = st.Continue p
jumping jump.Break p = st.Break p

-- S has what is known before the tokens, T what is known behind them; h tells how deep the tree nests.
pub data Derives (mode : Mode) : (p : Phrase) → State → Heights → List Token → Tree p → State → Type 0 where
  one : {p : Phrase} {S T : State} {h : Heights} {ts : List Token} {x : Tree p} → Derives mode p S h ts x T → Derives mode (parted p) S h ts (x ∷ []) T
  another : {p : Phrase} {S T U : State} {h g : Heights} (a : At) {ts us : List Token} {xs : List (Tree p)} {y : Tree p}
      → Derives mode (parted p) S h ts xs T → Derives mode p T g us y U → Derives mode (parted p) S (join h g) (ts ++ mark a m.Comma ++ us) (xs ++ y ∷ []) U
  first : {p : Phrase} {S T : State} {h : Heights} {ts : List Token} {x : Tree p} → Derives mode p S h ts x T → Derives mode (some p) S h ts (x ∷ []) T
  further : {p : Phrase} {S T U : State} {h g : Heights} {ts us : List Token} {xs : List (Tree p)} {y : Tree p}
      → Derives mode (some p) S h ts xs T → Derives mode p T g us y U → Derives mode (some p) S (join h g) (ts ++ us) (xs ++ y ∷ []) U
  left_out : {p : Phrase} {S : State} → Derives mode (optional p) S none [] None S
  given : {p : Phrase} {S T : State} {h : Heights} {ts : List Token} {x : Tree p} → Derives mode p S h ts x T → Derives mode (optional p) S h ts (Some x) T
  -- primary: I; constant; string; ( expression )
  named : {S : State} {a : At} {n : List ℕ} → is_type S n ≡ false → Derives mode primary S (raise class.expression none) (name a n) (e.Ident a n) S
  constant : {S : State} {a : At} {v : Constant} → Derives mode primary S (raise class.expression none) (tok (c.Constant v) a ∷ []) (e.Constant a v.value v.kind) S
  text : {S : State} {a : At} {bytes : List ℕ} → Derives mode primary S (raise class.expression none) (tok (c.Text bytes) a ∷ []) (e.Text a bytes) S
  paren : {S T : State} {h : Heights} (a b : At) {ts : List Token} {x : Expr}
      → Derives mode comma S h ts x T → Derives mode primary S (raise class.expression h) (mark a m.OpenParen ++ ts ++ mark b m.CloseParen) (e.Paren a x) T
  -- postfix: primary; postfix [ expression ]; postfix ( assignment,* ); postfix . I; postfix -> I; postfix ++; postfix --
  simple : {S T : State} {h : Heights} {ts : List Token} {x : Expr} → Derives mode primary S h ts x T → Derives mode postfix S h ts x T
  subscript : {S T U : State} {h g : Heights} (a b : At) {ts us : List Token} {x y : Expr}
      → Derives mode postfix S h ts x T → Derives mode comma T g us y U
      → Derives mode postfix S (raise class.expression (join h g)) (ts ++ mark a m.OpenBracket ++ us ++ mark b m.CloseBracket) (e.Subscript (expr_at x) x y) U
  call : {S T U : State} {h g : Heights} (a b : At) {ts us : List Token} {x : Expr} {ys : List Expr}
      → Derives mode postfix S h ts x T → Derives mode arguments T g us ys U
      → Derives mode postfix S (raise class.expression (join h g)) (ts ++ mark a m.OpenParen ++ us ++ mark b m.CloseParen) (e.Call (expr_at x) x ys) U
  reached : {S T : State} {h : Heights} (a b : At) (o : CTokKind) (n : List ℕ) {ts : List Token} {how : Access} {x : Expr}
      → access_of (Some o) ≡ Some how → Derives mode postfix S h ts x T
      → Derives mode postfix S (raise class.expression h) (ts ++ (tok o a ∷ []) ++ name b n) (e.Member (expr_at x) how x n) T
  stepped : {S T : State} {h : Heights} (a : At) (o : CTokKind) {ts : List Token} {how : Step} {x : Expr}
      → step_of (Some o) ≡ Some how → Derives mode postfix S h ts x T
      → Derives mode postfix S (raise class.expression h) (ts ++ (tok o a ∷ [])) (e.Postfix (expr_at x) how x) T
  no_arguments : {S : State} → Derives mode arguments S none [] [] S
  some_arguments : {S T : State} {h : Heights} {ts : List Token} {xs : List Expr} → Derives mode (parted assignment) S h ts xs T → Derives mode arguments S h ts xs T
  -- unary: postfix; ++ unary; -- unary; & * + - ~ ! before a cast; sizeof unary; sizeof ( type name )
  bare : {S T : State} {h : Heights} {ts : List Token} {x : Expr} → Derives mode postfix S h ts x T → Derives mode unary S h ts x T
  step : {S T : State} {h : Heights} (a : At) (o : CTokKind) {ts : List Token} {how : Step} {x : Expr}
      → step_of (Some o) ≡ Some how → Derives mode unary S h ts x T → Derives mode unary S (raise class.expression h) ((tok o a ∷ []) ++ ts) (e.Prefix a how x) T
  prefixed : {S T : State} {h : Heights} (a : At) (o : CTokKind) {ts : List Token} {op : UnaryOp} {x : Expr}
      → unary_of (Some o) ≡ Some op → Derives mode cast S h ts x T → Derives mode unary S (raise class.expression h) ((tok o a ∷ []) ++ ts) (e.Unary a op x) T
  measured : {S T : State} {h : Heights} (a : At) {ts : List Token} {x : Expr}
      → Derives mode unary S h ts x T → Derives mode unary S (raise class.expression h) (mark a m.Sizeof ++ ts) (e.SizeofExpr a x) T
  measured_type : {S T : State} {h : Heights} (a b b' : At) {ts : List Token} {x : TypeName}
      → Derives mode type_name S h ts x T
      → Derives mode unary S (raise class.expression h) (mark a m.Sizeof ++ mark b m.OpenParen ++ ts ++ mark b' m.CloseParen) (e.SizeofType a x) T
  -- cast: unary; ( type name ) cast
  uncast : {S T : State} {h : Heights} {ts : List Token} {x : Expr} → Derives mode unary S h ts x T → Derives mode cast S h ts x T
  converted : {S T U : State} {h g : Heights} (a b : At) {ts us : List Token} {to : TypeName} {x : Expr}
      → Derives mode type_name S h ts to T → Derives mode cast T g us x U
      → Derives mode cast S (raise class.expression (join h g)) (mark a m.OpenParen ++ ts ++ mark b m.CloseParen ++ us) (e.Cast a to x) U
  -- ten levels of operators between operands, from left to right
  operand : {n : ℕ} {S T : State} {h : Heights} {ts : List Token} {x : Expr} → Derives mode cast S h ts x T → Derives mode (binary n) S h ts x T
  operated : {n : ℕ} {S T U : State} {h g : Heights} (a : At) (o : CTokKind) {ts us : List Token} {op : Infix} {x y : Expr}
      → infix_of (Some o) ≡ Some op → n ≤ tight (Some o)
      → Derives mode (binary (tight (Some o))) S h ts x T → Derives mode (binary (tight (Some o) + 1)) T g us y U
      → Derives mode (binary n) S (raise class.expression (join h g)) (ts ++ (tok o a ∷ []) ++ us) (e.Binary (expr_at x) op x y) U
  -- conditional: binary; binary ? expression : conditional
  tested : {S T : State} {h : Heights} {ts : List Token} {x : Expr} → Derives mode (binary 4) S h ts x T → Derives mode conditional S h ts x T
  chosen : {S T U V : State} {h g f : Heights} (a b : At) {ts us vs : List Token} {x y z : Expr}
      → Derives mode (binary 4) S h ts x T → Derives mode comma T g us y U → Derives mode conditional U f vs z V
      → Derives mode conditional S (raise class.expression (join h (join g f))) (ts ++ mark a m.Question ++ us ++ mark b m.Colon ++ vs) (e.Conditional (expr_at x) x y z) V
  -- assignment: conditional; unary = assignment, and so with the compound operators
  valued : {S T : State} {h : Heights} {ts : List Token} {x : Expr} → Derives mode conditional S h ts x T → Derives mode assignment S h ts x T
  assigned : {S T U : State} {h g : Heights} (a : At) (o : CTokKind) {ts us : List Token} {op : Option BinOp} {x y : Expr}
      → assign_of (Some o) ≡ Some op → Derives mode unary S h ts x T → Derives mode assignment T g us y U
      → Derives mode assignment S (raise class.expression (join h g)) (ts ++ (tok o a ∷ []) ++ us) (e.Assign (expr_at x) op x y) U
  -- expression: assignment; expression , assignment
  alone : {S T : State} {h : Heights} {ts : List Token} {x : Expr} → Derives mode assignment S h ts x T → Derives mode comma S h ts x T
  joined : {S T U : State} {h g : Heights} (a : At) {ts us : List Token} {x y : Expr}
      → Derives mode comma S h ts x T → Derives mode assignment T g us y U
      → Derives mode comma S (raise class.expression (join h g)) (ts ++ mark a m.Comma ++ us) (e.Comma (expr_at x) x y) U
  -- initializer: assignment; { initializer,+ ,? }
  value : {S T : State} {h : Heights} {ts : List Token} {x : Expr} → Derives mode assignment S h ts x T → Derives mode init S (raise class.initializer h) ts (i.Value x) T
  braces : {S T : State} {h : Heights} (a b b' : At) (comma_ends : Bool) {ts : List Token} {xs : List Init}
      → Derives mode (parted init) S h ts xs T
      → Derives mode init S (raise class.initializer h) (mark a m.OpenBrace ++ ts ++ ending comma_ends b ++ mark b' m.CloseBrace) (i.Braces a xs comma_ends) T
  -- A span is a text whose brackets match; `?` and `:` count as brackets. A type name in parentheses is read.
  begun : {inside : Bool} {S : State} → Derives mode (passed inside) S none [] tt S
  over : {inside : Bool} {S T : State} {h : Heights} (a : At) (o : CTokKind) {ts : List Token}
      → passable inside o ≡ true → Derives mode (passed inside) S h ts tt T → Derives mode (passed inside) S h (ts ++ (tok o a ∷ [])) tt T
  within : {inside : Bool} {S T U : State} {h g : Heights} (a b : At) (o : CTokKind) (close : Mark) {ts us : List Token}
      → closer o ≡ Some close → is_paren o && begins_specs T us ≡ false
      → Derives mode (passed inside) S h ts tt T → Derives mode (span true) T g us tt U
      → Derives mode (passed inside) S (join h g) (ts ++ (tok o a ∷ []) ++ us ++ mark b close) tt U
  typed : {inside : Bool} {S T U : State} {h g : Heights} (a b : At) {ts us : List Token} {x : TypeName}
      → Derives mode (passed inside) S h ts tt T → Derives mode type_name T g us x U
      → Derives mode (passed inside) S (join h g) (ts ++ mark a m.OpenParen ++ us ++ mark b m.CloseParen) tt U
  spanned : {inside : Bool} {S T : State} {h : Heights} {ts : List Token} → Derives mode (passed inside) S h ts tt T → Derives mode (span inside) S (raise class.expression h) ts tt T
  -- a constant expression
  whole : {S T : State} {h : Heights} {ts : List Token} {x : Expr} → mode ≡ Whole → Derives mode conditional S h ts x T → Derives mode slot S h ts (sl.Read x) T
  passed_over : {S T : State} {h : Heights} (t : Token) {ts : List Token} → mode ≡ Spans → Derives mode (span false) S h (t ∷ ts) tt T
      → Derives mode slot S h (t ∷ ts) (sl.Span (record { first = t.at.number; count = length (t ∷ ts); names = S.names })) T
  -- a specifier
  word : {storage is_typed : Bool} {S : State} (a : At) (o : CTokKind) {w : SpecWord}
      → word_of (Some o) ≡ Some w → storage || not (is_storage w) ≡ true → Derives mode (spec storage is_typed) S none (tok o a ∷ []) (sp.Word a w) S
  record_with : {storage is_typed : Bool} {S T : State} {h : Heights} (a b : At) (o : CTokKind) (n : Option (List ℕ)) {ts : List Token} {kind : RecordKind} {xs : List Member}
      → record_of (Some o) ≡ Some kind → Derives mode members S h ts xs T
      → Derives mode (spec storage is_typed) S h ((tok o a ∷ []) ++ tag b n ++ ts) (sp.Record a kind n xs) T
  record_tag : {storage is_typed : Bool} {S : State} (a b : At) (o : CTokKind) (n : List ℕ) {kind : RecordKind}
      → record_of (Some o) ≡ Some kind → Derives mode (spec storage is_typed) S none ((tok o a ∷ []) ++ name b n) (sp.RecordTag a kind n) S
  -- the comma that may end a list of enumerators is this project's own
  enum_with : {storage is_typed : Bool} {S T : State} {h : Heights} (a a' b b' b'' : At) (n : Option (List ℕ)) (comma_ends : Bool) {ts : List Token} {xs : List Enumerator}
      → Derives mode (parted enumerator) S h ts xs T
      → Derives mode (spec storage is_typed) S h (mark a m.Enum ++ tag a' n ++ mark b m.OpenBrace ++ ts ++ ending comma_ends b' ++ mark b'' m.CloseBrace)
      (sp.Enum a n xs comma_ends) T
  enum_tag : {storage is_typed : Bool} {S : State} (a b : At) (n : List ℕ)
      → Derives mode (spec storage is_typed) S none (mark a m.Enum ++ name b n) (sp.EnumTag a n) S
  -- a typedef name, where no other specifier names a type
  alias : {storage : Bool} {S : State} {a : At} {n : List ℕ} → is_type S n ≡ true → Derives mode (spec storage false) S none (name a n) (sp.Alias a n) S
  a_spec : {storage : Bool} {S T : State} {h : Heights} {ts : List Token} {x : Spec}
      → Derives mode (spec storage false) S h ts x T → Derives mode (words storage) S h ts (one_spec x) T
  more_specs : {storage : Bool} {S T U : State} {h g : Heights} {ts us : List Token} {xs : Specs} {y : Spec}
      → Derives mode (words storage) S h ts xs T → Derives mode (spec storage xs.is_typed) T g us y U
      → Derives mode (words storage) S (join h g) (ts ++ us) (with_spec xs y) U
  -- without a type they are left out
  specified : {storage : Bool} {S T : State} {h : Heights} {ts : List Token} {x : Specs}
      → Derives mode (words storage) S h ts x T → Derives mode (specs storage) S h ts x (leave_out_if (not x.is_typed) ImplicitInt x.at T)
  -- { member+ }
  enclosed : {S T : State} {h : Heights} (a b : At) {ts : List Token} {xs : List Member}
      → Derives mode (some member) S h ts xs T → Derives mode members S (raise class.members h) (mark a m.OpenBrace ++ ts ++ mark b m.CloseBrace) xs T
  -- specifiers declarator,+ ; and with widths behind all declarators, which is left out
  member_of : {S T U : State} {h g : Heights} (a : At) (has_width : Bool) {ts us : List Token} {x : Specs} {ys : List Declarator}
      → Derives mode (specs true) S h ts x T → Derives mode (parted (field has_width x.is_typed)) T g us ys U
      → Derives mode member S (join h g) (ts ++ us ++ mark a m.Semicolon) (record { specs = x; declarators = ys }) (leave_out_if has_width BitField x.at U)
  plain_field : {is_typed : Bool} {S T : State} {h : Heights} {ts : List Token} {x : Declaring}
      → Derives mode (declarator k.Named is_typed) S h ts x T → Derives mode (field false is_typed) S h ts x.tree T
  width : {is_typed : Bool} {S T : State} {h : Heights} (a : At) {ts : List Token} {x : Slot}
      → Derives mode slot S h ts x T → Derives mode (field true is_typed) S h (mark a m.Colon ++ ts) d.Nothing T
  field_width : {is_typed : Bool} {S T U : State} {h g : Heights} (a : At) {ts us : List Token} {x : Declaring} {y : Slot}
      → Derives mode (declarator k.Named is_typed) S h ts x T → Derives mode slot T g us y U
      → Derives mode (field true is_typed) S (join h g) (ts ++ mark a m.Colon ++ us) x.tree U
  -- an enumerator is declared from its end on
  counted : {S : State} {a : At} {n : List ℕ} → Derives mode enumerator S none (name a n) (record { at = a; name = n; value = None }) (declare n false S)
  counted_from : {S T : State} {h : Heights} (a b : At) (n : List ℕ) {ts : List Token} {x : Slot}
      → Derives mode slot S h ts x T
      → Derives mode enumerator S h (name a n ++ mark b m.Assign ++ ts) (record { at = a; name = n; value = Some x }) (declare n false T)
  -- declarator: direct; pointer direct; of an abstract one also pointer alone
  straight : {kind : DeclKind} {is_typed : Bool} {S T : State} {h : Heights} {ts : List Token} {x : Declaring}
      → Derives mode (direct kind is_typed) S h ts x T → Derives mode (declarator kind is_typed) S h ts x T
  starred : {kind : DeclKind} {is_typed : Bool} {S T U : State} {h g : Heights} (a : At) {ts us : List Token} {ws : List PointerWord} {x : Declaring}
      → Derives mode pointer_words S h ts ws T → Derives mode (direct kind is_typed) T g us x U
      → Derives mode (declarator kind is_typed) S (raise class.declarator (join h g)) (mark a m.Star ++ ts ++ us) (around (d.Pointer a ws x.tree) x) U
  pointed : {kind : DeclKind} {is_typed : Bool} {S T : State} {h : Heights} (a : At) {ts : List Token} {ws : List PointerWord}
      → is_named kind ≡ false → Derives mode pointer_words S h ts ws T
      → Derives mode (declarator kind is_typed) S (raise class.declarator h) (mark a m.Star ++ ts) (around (d.Pointer a ws d.Nothing) nothing) T
  no_words : {S : State} → Derives mode pointer_words S none [] [] S
  more_words : {S T : State} {h : Heights} (a : At) (o : CTokKind) {ts : List Token} {w : PointerWord} {ws : List PointerWord}
      → pointer_of (Some o) ≡ Some w → Derives mode pointer_words S h ts ws T → Derives mode pointer_words S h (ts ++ (tok o a ∷ [])) (ws ++ w ∷ []) T
  -- direct: I; ( declarator ); direct [ size? ]; direct ( parameters? ); an abstract one begins with nothing and isn't empty
  solid : {kind : DeclKind} {is_typed : Bool} {S T : State} {h : Heights} {ts : List Token} {x : Declaring}
      → is_empty ts ≡ false → Derives mode (stem kind is_typed) S h ts x T → Derives mode (direct kind is_typed) S h ts x T
  absent : {kind : DeclKind} {is_typed : Bool} {S : State} → is_named kind ≡ false → Derives mode (stem kind is_typed) S none [] nothing S
  -- behind a type a typedef name is a name like others
  naming : {kind : DeclKind} {is_typed : Bool} {S : State} {a : At} {n : List ℕ}
      → is_abstract kind ≡ false → is_typed || not (is_type S n) ≡ true → Derives mode (stem kind is_typed) S (raise class.declarator none) (name a n) (called a n) S
  -- that of a parameter: what can be read as the parameters of a function is read so
  grouped : {kind : DeclKind} {is_typed : Bool} {S T : State} {h : Heights} (a b : At) {ts : List Token} {x : Declaring}
      → is_named kind || not (begins_specs S ts) ≡ true → Derives mode (declarator kind is_typed) S h ts x T
      → Derives mode (stem kind is_typed) S (raise class.declarator h) (mark a m.OpenParen ++ ts ++ mark b m.CloseParen) (around (d.Grouped a x.tree) x) T
  array : {kind : DeclKind} {is_typed : Bool} {S T U : State} {h g : Heights} (a b : At) {ts us : List Token} {x : Declaring} {size : Option Slot}
      → Derives mode (stem kind is_typed) S h ts x T → Derives mode (optional slot) T g us size U
      → Derives mode (stem kind is_typed) S (raise class.declarator (join h g)) (ts ++ mark a m.OpenBracket ++ us ++ mark b m.CloseBracket)
      (around (d.Array (begins a x) x.tree size) x) U
  function : {kind : DeclKind} {is_typed : Bool} {S T U : State} {h g : Heights} (a b : At) {ts us : List Token} {x : Declaring} {ps : Params}
      → Derives mode (stem kind is_typed) S h ts x T → Derives mode params T g us ps U
      → Derives mode (stem kind is_typed) S (raise class.declarator (join h g)) (ts ++ mark a m.OpenParen ++ us ++ mark b m.CloseParen)
      (function_of a x ps (declared_since T U)) (leave T U)
  -- names in place of parameters are left out
  old_style : {kind : DeclKind} {is_typed : Bool} {S T U : State} {h g : Heights} (a b : At) {ts us : List Token} {x : Declaring}
      → is_some x.name ≡ true → Derives mode (stem kind is_typed) S h ts x T → Derives mode identifiers T g us tt U
      → Derives mode (stem kind is_typed) S (raise class.declarator (join h g)) (ts ++ mark a m.OpenParen ++ us ++ mark b m.CloseParen)
      (function_of a x no_params []) (leave_out OldStyle (begins a x) U)
  an_identifier : {S : State} {a : At} {n : List ℕ} → is_type S n ≡ false → Derives mode identifiers S none (name a n) tt S
  more_identifiers : {S T : State} {h : Heights} (a b : At) (n : List ℕ) {ts : List Token}
      → is_type T n ≡ false → Derives mode identifiers S h ts tt T → Derives mode identifiers S h (ts ++ mark a m.Comma ++ name b n) tt T
  -- parameters: parameter,+ and perhaps `...`; () is (void)
  no_parameters : {S : State} → Derives mode params S none [] no_params S
  some_parameters : {S T : State} {h : Heights} {ts : List Token} {xs : List Param}
      → Derives mode (parted param) S h ts xs T → Derives mode params S h ts (record { items = xs; is_variadic = false }) T
  variadic : {S T : State} {h : Heights} (a b : At) {ts : List Token} {xs : List Param}
      → Derives mode (parted param) S h ts xs T → Derives mode params S h (ts ++ mark a m.Comma ++ mark b m.Ellipsis) (record { items = xs; is_variadic = true }) T
  unnamed : {S T : State} {h : Heights} {ts : List Token} {x : Specs}
      → Derives mode (specs true) S h ts x T → Derives mode param S h ts (record { specs = x; declarator = d.Nothing }) T
  declared : {S T U : State} {h g : Heights} {ts us : List Token} {x : Specs} {y : Declaring}
      → Derives mode (specs true) S h ts x T → Derives mode (declarator k.Param x.is_typed) T g us y U
      → Derives mode param S (join h g) (ts ++ us) (record { specs = x; declarator = y.tree }) (declares y.name x.is_typedef U)
  type_alone : {S T : State} {h : Heights} {ts : List Token} {x : Specs}
      → Derives mode (specs false) S h ts x T → Derives mode type_name S h ts (record { specs = x; declarator = d.Nothing }) T
  type_of : {S T U : State} {h g : Heights} {ts us : List Token} {x : Specs} {y : Declaring}
      → Derives mode (specs false) S h ts x T → Derives mode (declarator k.Abstract x.is_typed) T g us y U
      → Derives mode type_name S (join h g) (ts ++ us) (record { specs = x; declarator = y.tree }) U
  -- a declarator declares its name from its end on
  plainly : {is_typed is_typedef : Bool} {S T : State} {h : Heights} {ts : List Token} {x : Declaring}
      → Derives mode (declarator k.Named is_typed) S h ts x T
      → Derives mode (init_declarator is_typed is_typedef) S h ts (record { declarator = x.tree; init = None }) (declares x.name is_typedef T)
  initialized : {is_typed is_typedef : Bool} {S T U : State} {h g : Heights} (a : At) {ts us : List Token} {x : Declaring} {y : Init}
      → Derives mode (declarator k.Named is_typed) S h ts x T → Derives mode init (declares x.name is_typedef T) g us y U
      → Derives mode (init_declarator is_typed is_typedef) S (join h g) (ts ++ mark a m.Assign ++ us) (record { declarator = x.tree; init = Some y }) U
  declares_none : {S T : State} {h : Heights} (a : At) {ts : List Token} {x : Specs}
      → Derives mode (specs true) S h ts x T → Derives mode declaration S h (ts ++ mark a m.Semicolon) (record { specs = x; declarators = [] }) T
  declares_some : {S T U : State} {h g : Heights} (a : At) {ts us : List Token} {x : Specs} {ys : List InitDeclarator}
      → Derives mode (specs true) S h ts x T → Derives mode (parted (init_declarator x.is_typed x.is_typedef)) T g us ys U
      → Derives mode declaration S (join h g) (ts ++ us ++ mark a m.Semicolon) (record { specs = x; declarators = ys }) U
  -- statements: the name of a label is one also where it names a type
  labelled : {closed : Bool} {S T : State} {h : Heights} (a : At) (n : List ℕ) {ts : List Token} {x : Stmt}
      → Derives mode (behind_label closed a n) S h ts x T → Derives mode (statement closed) S h (name a n ++ ts) x T
  colon : {closed : Bool} {a : At} {n : List ℕ} {S T : State} {h : Heights} (b : At) {ts : List Token} {x : Stmt}
      → Derives mode (statement closed) S h ts x T → Derives mode (behind_label closed a n) S (raise class.statement h) (mark b m.Colon ++ ts) (st.Label a n x) T
  case_ : {closed : Bool} {S T U : State} {h g : Heights} (a b : At) {ts us : List Token} {x : Expr} {y : Stmt}
      → Derives mode conditional S h ts x T → Derives mode (statement closed) T g us y U
      → Derives mode (statement closed) S (raise class.statement (join h g)) (mark a m.Case ++ ts ++ mark b m.Colon ++ us) (st.Case a x y) U
  default_ : {closed : Bool} {S T : State} {h : Heights} (a b : At) {ts : List Token} {x : Stmt}
      → Derives mode (statement closed) S h ts x T → Derives mode (statement closed) S (raise class.statement h) (mark a m.Default ++ mark b m.Colon ++ ts) (st.Default a x) T
  compound : {closed : Bool} {S T : State} {h : Heights} {ts : List Token} {x : Block} → Derives mode block S h ts x T → Derives mode (statement closed) S h ts (st.Block x) T
  expression : {closed : Bool} {S T : State} {h : Heights} (a : At) {ts : List Token} {x : Option Expr}
      → Derives mode (optional comma) S h ts x T → Derives mode (statement closed) S (raise class.statement h) (ts ++ mark a m.Semicolon) (st.Expression (expr_or a x) x) T
  if_ : {S T U : State} {h g : Heights} (a b b' : At) {ts us : List Token} {x : Expr} {y : Stmt}
      → Derives mode comma S h ts x T → Derives mode (statement false) T g us y U
      → Derives mode (statement false) S (raise class.statement (join h g)) (mark a m.If ++ mark b m.OpenParen ++ ts ++ mark b' m.CloseParen ++ us) (st.If a x y None) U
  -- an `else` belongs to the nearest `if`, so what stands between is closed
  if_else : {closed : Bool} {S T U V : State} {h g f : Heights} (a b b' b'' : At) {ts us vs : List Token} {x : Expr} {y z : Stmt}
      → Derives mode comma S h ts x T → Derives mode (statement true) T g us y U → Derives mode (statement closed) U f vs z V
      → Derives mode (statement closed) S (raise class.statement (join h (join g f)))
      (mark a m.If ++ mark b m.OpenParen ++ ts ++ mark b' m.CloseParen ++ us ++ mark b'' m.Else ++ vs) (st.If a x y (Some z)) V
  control_ : {closed : Bool} {S T U : State} {h g : Heights} (a b b' : At) (o : CTokKind) {ts us : List Token} {how : Control} {x : Expr} {y : Stmt}
      → control_of (Some o) ≡ Some how → Derives mode comma S h ts x T → Derives mode (statement closed) T g us y U
      → Derives mode (statement closed) S (raise class.statement (join h g)) ((tok o a ∷ []) ++ mark b m.OpenParen ++ ts ++ mark b' m.CloseParen ++ us) (controlled how a x y) U
  do_ : {closed : Bool} {S T U : State} {h g : Heights} (a a' b b' b'' : At) {ts us : List Token} {x : Stmt} {y : Expr}
      → Derives mode (statement false) S h ts x T → Derives mode comma T g us y U
      → Derives mode (statement closed) S (raise class.statement (join h g))
      (mark a m.Do ++ ts ++ mark a' m.While ++ mark b m.OpenParen ++ us ++ mark b' m.CloseParen ++ mark b'' m.Semicolon) (st.Do a x y) U
  for_ : {closed : Bool} {S T U : State} {h g : Heights} (a b b' : At) {ts us : List Token} {x : ForHead} {y : Stmt}
      → Derives mode for_head S h ts x T → Derives mode (statement closed) T g us y U
      → Derives mode (statement closed) S (raise class.statement (join h g)) (mark a m.For ++ mark b m.OpenParen ++ ts ++ mark b' m.CloseParen ++ us) (st.For a x y) U
  heads : {S T U V : State} {h g f : Heights} (a b : At) {ts us vs : List Token} {x y z : Option Expr}
      → Derives mode (optional comma) S h ts x T → Derives mode (optional comma) T g us y U → Derives mode (optional comma) U f vs z V
      → Derives mode for_head S (join h (join g f)) (ts ++ mark a m.Semicolon ++ us ++ mark b m.Semicolon ++ vs) (record { start = x; test = y; step = z }) V
  goto_ : {closed : Bool} {S : State} (a b b' : At) (n : List ℕ)
      → Derives mode (statement closed) S (raise class.statement none) (mark a m.Goto ++ name b n ++ mark b' m.Semicolon) (st.Goto a n) S
  jump_ : {closed : Bool} {S : State} (a b : At) (o : CTokKind) {how : Jump}
      → jump_of (Some o) ≡ Some how → Derives mode (statement closed) S (raise class.statement none) ((tok o a ∷ []) ++ mark b m.Semicolon) (jumping how a) S
  return_ : {closed : Bool} {S T : State} {h : Heights} (a b : At) {ts : List Token} {x : Option Expr}
      → Derives mode (optional comma) S h ts x T → Derives mode (statement closed) S (raise class.statement h) (mark a m.Return ++ ts ++ mark b m.Semicolon) (st.Return a x) T
  -- { declaration* statement* }: what is declared in a block is gone behind it
  braced : {has_begun : Bool} {S T : State} {h : Heights} (a b : At) {ts : List Token} {x : Body}
      → Derives mode (body has_begun) S h ts x T
      → Derives mode block S (raise class.statement h) (mark a m.OpenBrace ++ ts ++ mark b m.CloseBrace)
      (record { at = a; declarations = x.declarations; statements = x.statements; closing = b.number }) (leave S T)
  empty : {S : State} → Derives mode (body false) S none [] (record { declarations = []; statements = [] }) S
  declared_more : {S T U : State} {h g : Heights} {ts us : List Token} {x : Body} {y : Declaration}
      → Derives mode (body false) S h ts x T → Derives mode declaration T g us y U
      → Derives mode (body false) S (join h g) (ts ++ us) (record { declarations = x.declarations ++ y ∷ []; statements = x.statements }) U
  done_more : {has_begun : Bool} {S T U : State} {h g : Heights} {ts us : List Token} {x : Body} {y : Stmt}
      → Derives mode (body has_begun) S h ts x T → Derives mode (statement false) T g us y U
      → Derives mode (body true) S (join h g) (ts ++ us) (record { declarations = x.declarations; statements = x.statements ++ y ∷ [] }) U
  -- External: declaration; function, whose body knows its parameters. Without specifiers, and with declarations before the
  -- body, it is left out.
  declaration_ : {S T : State} {h : Heights} {ts : List Token} {x : Declaration} → Derives mode declaration S h ts x T → Derives mode external S h ts (ext.Declaration x) T
  definition : {S T U V W : State} {h g f f' : Heights} {ts us vs ws : List Token} {x : Specs} {y : Declaring} {z : Option (List Declaration)} {b : Block}
      → Derives mode (specs true) S h ts x T → Derives mode (declarator k.Named x.is_typed) T g us y U
      → Derives mode (optional (some declaration)) (enter y.params (declares y.name x.is_typedef U)) f vs z V → Derives mode block V f' ws b W
      → Derives mode external S (join h (join g (join f f'))) (ts ++ us ++ vs ++ ws)
      (ext.Function (record { specs = x; declarator = y.tree; body = b })) (leave_out_if (is_some z) OldStyle x.at (leave (declares y.name x.is_typedef U) W))
  implied_function : {S T U : State} {h g : Heights} {ts us : List Token} {x : Declaring} {b : Block}
      → Derives mode (declarator k.Named false) S h ts x T → Derives mode block (enter x.params (declares x.name false T)) g us b U
      → Derives mode external S (join h g) (ts ++ us)
      (ext.Function (record { specs = no_specs (begins b.at x); declarator = x.tree; body = b })) (leave_out_all ImplicitInt (begins b.at x) (leave (declares x.name false T) U))
  implied_declaration : {S T : State} {h : Heights} (a : At) {ts : List Token} {x : InitDeclarator}
      → Derives mode (init_declarator false false) S h ts x T
      → Derives mode external S h (ts ++ mark a m.Semicolon)
      (ext.Declaration (record { specs = no_specs (or_at a (declarator_at x.declarator)); declarators = x ∷ [] })) (leave_out_all ImplicitInt (or_at a (declarator_at x.declarator)) T)
