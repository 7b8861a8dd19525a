-- The tokens of a tree, as they are written. An expression that was passed over isn't in the tree: it has none here.
use Rattle.std.specs.Prelude.{ℕ, Bool, true, false, List, [], ◌∷◌, ◌++◌, map, Option, Some, None}
use Rattle.c_type.specs.declared.operator.BinOp.{BinOp}
use Rattle.c_type.specs.declared.operator.BinOp.TheVariants as b
use Rattle.c_tok.specs.declared.mark.Mark.{Mark}
use Rattle.c_tok.specs.declared.mark.Mark.TheVariants as m
use Rattle.c_tok.specs.declared.token.CTokKind.{CTokKind}
use Rattle.c_tok.specs.declared.token.CTokKind.TheVariants as c
use Rattle.c_tree.specs.declared.operator.Access.{Access}
use Rattle.c_tree.specs.declared.operator.Access.TheVariants as access
use Rattle.c_tree.specs.declared.operator.Infix.{Infix}
use Rattle.c_tree.specs.declared.operator.Infix.TheVariants as infix_
use Rattle.c_tree.specs.declared.operator.PointerWord.{PointerWord}
use Rattle.c_tree.specs.declared.operator.PointerWord.TheVariants as pointer
use Rattle.c_tree.specs.declared.operator.RecordKind.{RecordKind}
use Rattle.c_tree.specs.declared.operator.RecordKind.TheVariants as record_kind
use Rattle.c_tree.specs.declared.operator.SpecWord.{SpecWord}
use Rattle.c_tree.specs.declared.operator.SpecWord.TheVariants as w
use Rattle.c_tree.specs.declared.operator.Step.{Step}
use Rattle.c_tree.specs.declared.operator.Step.TheVariants as step
use Rattle.c_tree.specs.declared.operator.UnaryOp.{UnaryOp}
use Rattle.c_tree.specs.declared.operator.UnaryOp.TheVariants as unary
use Rattle.c_tree.specs.declared.expr.Declarator.{Declarator, Declarator-F, fold-Declarator}
use Rattle.c_tree.specs.declared.expr.Enumerator.{Enumerator, Enumerator-F, fold-Enumerator}
use Rattle.c_tree.specs.declared.expr.Expr.{Expr, Expr-F, fold-Expr}
use Rattle.c_tree.specs.declared.expr.Member.{Member, Member-F, fold-Member}
use Rattle.c_tree.specs.declared.expr.Param.{Param, Param-F, fold-Param}
use Rattle.c_tree.specs.declared.expr.Slot.{Slot, Slot-F, fold-Slot}
use Rattle.c_tree.specs.declared.expr.Spec.{Spec, Spec-F, fold-Spec}
use Rattle.c_tree.specs.declared.expr.Specs.{Specs, Specs-F, fold-Specs}
use Rattle.c_tree.specs.declared.expr.TypeName.{TypeName, TypeName-F, fold-TypeName}
use Rattle.c_tree.specs.declared.declaration.Declaration.{Declaration}
use Rattle.c_tree.specs.declared.declaration.Init.{Init, Init-F, fold-Init}
use Rattle.c_tree.specs.declared.declaration.InitDeclarator.{InitDeclarator}
use Rattle.c_tree.specs.declared.stmt.Block.{Block, Block-F, fold-Block}
use Rattle.c_tree.specs.declared.stmt.External.{External}
use Rattle.c_tree.specs.declared.stmt.External.TheVariants as ext
use Rattle.c_tree.specs.declared.stmt.ForHead.{ForHead}
use Rattle.c_tree.specs.declared.stmt.Stmt.{Stmt, Stmt-F, fold-Stmt}
use Rattle.c_decl.specs.Tokens.{Token}

abbrev pub Kinds : Type 0
Kinds = List CTokKind

-- ---- operators and words

abbrev pub mark_of_binary : BinOp → Mark
mark_of_binary b.Multiply = m.Star
mark_of_binary b.Divide = m.Slash
mark_of_binary b.Remainder = m.Percent
mark_of_binary b.Add = m.Plus
mark_of_binary b.Subtract = m.Minus
mark_of_binary b.ShiftLeft = m.ShiftLeft
mark_of_binary b.ShiftRight = m.ShiftRight
mark_of_binary b.Less = m.Less
mark_of_binary b.Greater = m.Greater
mark_of_binary b.AtMost = m.LessEqual
mark_of_binary b.AtLeast = m.GreaterEqual
mark_of_binary b.Equal = m.EqualEqual
mark_of_binary b.NotEqual = m.NotEqual
mark_of_binary b.And = m.Ampersand
mark_of_binary b.Xor = m.Caret
mark_of_binary b.Or = m.Bar

abbrev pub mark_of_infix : Infix → Mark
mark_of_infix (infix_.Plain op) = mark_of_binary op
mark_of_infix infix_.LogicalAnd = m.AndAnd
mark_of_infix infix_.LogicalOr = m.OrOr

-- no assignment has a comparison before its `=`
abbrev pub mark_of_assign : Option BinOp → Mark
mark_of_assign (Some b.Multiply) = m.StarAssign
mark_of_assign (Some b.Divide) = m.SlashAssign
mark_of_assign (Some b.Remainder) = m.PercentAssign
mark_of_assign (Some b.Add) = m.PlusAssign
mark_of_assign (Some b.Subtract) = m.MinusAssign
mark_of_assign (Some b.ShiftLeft) = m.ShiftLeftAssign
mark_of_assign (Some b.ShiftRight) = m.ShiftRightAssign
mark_of_assign (Some b.And) = m.AmpersandAssign
mark_of_assign (Some b.Xor) = m.CaretAssign
mark_of_assign (Some b.Or) = m.BarAssign
mark_of_assign _ = m.Assign

abbrev pub mark_of_unary : UnaryOp → Mark
mark_of_unary unary.Address = m.Ampersand
mark_of_unary unary.Indirection = m.Star
mark_of_unary unary.Plus = m.Plus
mark_of_unary unary.Negate = m.Minus
mark_of_unary unary.Complement = m.Tilde
mark_of_unary unary.Not = m.Exclamation

abbrev pub mark_of_step : Step → Mark
mark_of_step step.Increment = m.PlusPlus
mark_of_step step.Decrement = m.MinusMinus

abbrev pub mark_of_access : Access → Mark
mark_of_access access.Dot = m.Dot
mark_of_access access.Arrow = m.Arrow

abbrev pub mark_of_word : SpecWord → Mark
mark_of_word w.Typedef = m.Typedef
mark_of_word w.Extern = m.Extern
mark_of_word w.Static = m.Static
mark_of_word w.Auto = m.Auto
mark_of_word w.Register = m.Register
mark_of_word w.Const = m.Const
mark_of_word w.Volatile = m.Volatile
mark_of_word w.Void = m.Void
mark_of_word w.Char = m.Char
mark_of_word w.Short = m.Short
mark_of_word w.Int = m.Int
mark_of_word w.Long = m.Long
mark_of_word w.Signed = m.Signed
mark_of_word w.Unsigned = m.Unsigned

abbrev pub mark_of_record : RecordKind → Mark
mark_of_record record_kind.Struct = m.Struct
mark_of_record record_kind.Union = m.Union

abbrev pub mark_of_pointer : PointerWord → Mark
mark_of_pointer pointer.Star = m.Star
mark_of_pointer pointer.Const = m.Const
mark_of_pointer pointer.Volatile = m.Volatile

-- ---- lists

-- what tokens are, without their places
unfoldable pub kinds : List Token → Kinds
kinds [] = []
kinds (t ∷ ts) = t.kind ∷ kinds ts

abbrev pub mark : Mark → Kinds
mark k = c.Mark k ∷ []

abbrev pub name : List ℕ → Kinds
name n = c.Ident n ∷ []

-- one after another
unfoldable pub all : List Kinds → Kinds
all [] = []
all (x ∷ xs) = x ++ all xs

-- each behind a comma
unfoldable pub behind_commas : List Kinds → Kinds
behind_commas [] = []
behind_commas (x ∷ xs) = c.Mark m.Comma ∷ x ++ behind_commas xs

-- parted by commas
abbrev pub parted : List Kinds → Kinds
parted [] = []
parted (x ∷ xs) = x ++ behind_commas xs

abbrev pub optional : Option Kinds → Kinds
optional None = []
optional (Some x) = x

abbrev pub given : {X : Type 0} → (X → Kinds) → Option X → Kinds
given tokens_of None = []
given tokens_of (Some x) = tokens_of x

-- one, and what stands before it
abbrev pub behind : Mark → Option Kinds → Kinds
behind k None = []
behind k (Some x) = mark k ++ x

abbrev pub tag : Option (List ℕ) → Kinds
tag None = []
tag (Some n) = name n

-- a comma behind the last item of a list
abbrev pub ending : Bool → Kinds
ending false = []
ending true = mark m.Comma

-- the dots behind the last parameter
abbrev pub dots : Bool → Kinds
dots false = []
dots true = mark m.Comma ++ mark m.Ellipsis

abbrev pub pointer_words : List PointerWord → Kinds
pointer_words ws = map (λ w. c.Mark (mark_of_pointer w)) ws

-- ---- expressions and types: one node, with the tokens of each part in its place

abbrev pub in_declarator : Declarator-F Kinds Kinds Kinds Kinds Kinds Kinds Kinds Kinds Kinds → Kinds
in_declarator Declarator-F.Nothing = []
in_declarator (Declarator-F.Name _ n) = name n
in_declarator (Declarator-F.Grouped _ x) = mark m.OpenParen ++ x ++ mark m.CloseParen
in_declarator (Declarator-F.Pointer _ ws x) = mark m.Star ++ pointer_words ws ++ x
in_declarator (Declarator-F.Array _ x size) = x ++ mark m.OpenBracket ++ optional size ++ mark m.CloseBracket
in_declarator (Declarator-F.Function _ x ps is_variadic) = x ++ mark m.OpenParen ++ parted ps ++ dots is_variadic ++ mark m.CloseParen

abbrev pub in_expr : Expr-F Kinds Kinds Kinds Kinds Kinds Kinds Kinds Kinds Kinds → Kinds
in_expr (Expr-F.Ident _ n) = name n
in_expr (Expr-F.Constant _ value kind) = c.Constant (record { value = value; kind = kind }) ∷ []
in_expr (Expr-F.Text _ bytes) = c.Text bytes ∷ []
in_expr (Expr-F.Paren _ x) = mark m.OpenParen ++ x ++ mark m.CloseParen
in_expr (Expr-F.Subscript _ x y) = x ++ mark m.OpenBracket ++ y ++ mark m.CloseBracket
in_expr (Expr-F.Call _ x ys) = x ++ mark m.OpenParen ++ parted ys ++ mark m.CloseParen
in_expr (Expr-F.Member _ how x n) = x ++ mark (mark_of_access how) ++ name n
in_expr (Expr-F.Postfix _ how x) = x ++ mark (mark_of_step how)
in_expr (Expr-F.Prefix _ how x) = mark (mark_of_step how) ++ x
in_expr (Expr-F.Unary _ op x) = mark (mark_of_unary op) ++ x
in_expr (Expr-F.SizeofExpr _ x) = mark m.Sizeof ++ x
in_expr (Expr-F.SizeofType _ x) = mark m.Sizeof ++ mark m.OpenParen ++ x ++ mark m.CloseParen
in_expr (Expr-F.Cast _ to x) = mark m.OpenParen ++ to ++ mark m.CloseParen ++ x
in_expr (Expr-F.Binary _ op x y) = x ++ mark (mark_of_infix op) ++ y
in_expr (Expr-F.Conditional _ x y z) = x ++ mark m.Question ++ y ++ mark m.Colon ++ z
in_expr (Expr-F.Assign _ op x y) = x ++ mark (mark_of_assign op) ++ y
in_expr (Expr-F.Comma _ x y) = x ++ mark m.Comma ++ y

abbrev pub in_slot : Slot-F Kinds Kinds Kinds Kinds Kinds Kinds Kinds Kinds Kinds → Kinds
in_slot (Slot-F.Read x) = x
in_slot (Slot-F.Span _) = []

abbrev pub in_spec : Spec-F Kinds Kinds Kinds Kinds Kinds Kinds Kinds Kinds Kinds → Kinds
in_spec (Spec-F.Word _ word) = mark (mark_of_word word)
in_spec (Spec-F.Record _ kind n xs) = mark (mark_of_record kind) ++ tag n ++ mark m.OpenBrace ++ all xs ++ mark m.CloseBrace
in_spec (Spec-F.RecordTag _ kind n) = mark (mark_of_record kind) ++ name n
in_spec (Spec-F.Enum _ n xs comma_ends) = mark m.Enum ++ tag n ++ mark m.OpenBrace ++ parted xs ++ ending comma_ends ++ mark m.CloseBrace
in_spec (Spec-F.EnumTag _ n) = mark m.Enum ++ name n
in_spec (Spec-F.Alias _ n) = name n

abbrev pub in_enumerator : Enumerator-F Kinds Kinds Kinds Kinds Kinds Kinds Kinds Kinds Kinds → Kinds
in_enumerator x = name x.name ++ behind m.Assign x.value

abbrev pub in_member : Member-F Kinds Kinds Kinds Kinds Kinds Kinds Kinds Kinds Kinds → Kinds
in_member x = x.specs ++ parted x.declarators ++ mark m.Semicolon

abbrev pub in_param : Param-F Kinds Kinds Kinds Kinds Kinds Kinds Kinds Kinds Kinds → Kinds
in_param x = x.specs ++ x.declarator

abbrev pub in_specs : Specs-F Kinds Kinds Kinds Kinds Kinds Kinds Kinds Kinds Kinds → Kinds
in_specs x = all x.items

abbrev pub in_type_name : TypeName-F Kinds Kinds Kinds Kinds Kinds Kinds Kinds Kinds Kinds → Kinds
in_type_name x = x.specs ++ x.declarator

unfoldable pub tokens_of_declarator : Declarator → Kinds
tokens_of_declarator = fold-Declarator Kinds Kinds Kinds Kinds Kinds Kinds Kinds Kinds Kinds
    in_declarator in_expr in_slot in_spec in_enumerator in_member in_param in_specs in_type_name

unfoldable pub tokens_of_expr : Expr → Kinds
tokens_of_expr = fold-Expr Kinds Kinds Kinds Kinds Kinds Kinds Kinds Kinds Kinds
    in_declarator in_expr in_slot in_spec in_enumerator in_member in_param in_specs in_type_name

unfoldable pub tokens_of_slot : Slot → Kinds
tokens_of_slot = fold-Slot Kinds Kinds Kinds Kinds Kinds Kinds Kinds Kinds Kinds
    in_declarator in_expr in_slot in_spec in_enumerator in_member in_param in_specs in_type_name

unfoldable pub tokens_of_spec : Spec → Kinds
tokens_of_spec = fold-Spec Kinds Kinds Kinds Kinds Kinds Kinds Kinds Kinds Kinds
    in_declarator in_expr in_slot in_spec in_enumerator in_member in_param in_specs in_type_name

unfoldable pub tokens_of_enumerator : Enumerator → Kinds
tokens_of_enumerator = fold-Enumerator Kinds Kinds Kinds Kinds Kinds Kinds Kinds Kinds Kinds
    in_declarator in_expr in_slot in_spec in_enumerator in_member in_param in_specs in_type_name

unfoldable pub tokens_of_member : Member → Kinds
tokens_of_member = fold-Member Kinds Kinds Kinds Kinds Kinds Kinds Kinds Kinds Kinds
    in_declarator in_expr in_slot in_spec in_enumerator in_member in_param in_specs in_type_name

unfoldable pub tokens_of_param : Param → Kinds
tokens_of_param = fold-Param Kinds Kinds Kinds Kinds Kinds Kinds Kinds Kinds Kinds
    in_declarator in_expr in_slot in_spec in_enumerator in_member in_param in_specs in_type_name

unfoldable pub tokens_of_specs : Specs → Kinds
tokens_of_specs = fold-Specs Kinds Kinds Kinds Kinds Kinds Kinds Kinds Kinds Kinds
    in_declarator in_expr in_slot in_spec in_enumerator in_member in_param in_specs in_type_name

unfoldable pub tokens_of_type_name : TypeName → Kinds
tokens_of_type_name = fold-TypeName Kinds Kinds Kinds Kinds Kinds Kinds Kinds Kinds Kinds
    in_declarator in_expr in_slot in_spec in_enumerator in_member in_param in_specs in_type_name

-- ---- declarations

abbrev pub in_init : Init-F Kinds → Kinds
in_init (Init-F.Value x) = tokens_of_expr x
in_init (Init-F.Braces _ xs comma_ends) = mark m.OpenBrace ++ parted xs ++ ending comma_ends ++ mark m.CloseBrace

unfoldable pub tokens_of_init : Init → Kinds
tokens_of_init = fold-Init Kinds in_init

abbrev pub with_init : Option Init → Kinds
with_init None = []
with_init (Some x) = mark m.Assign ++ tokens_of_init x

unfoldable pub tokens_of_init_declarator : InitDeclarator → Kinds
tokens_of_init_declarator x = tokens_of_declarator x.declarator ++ with_init x.init

unfoldable pub tokens_of_declaration : Declaration → Kinds
tokens_of_declaration x = tokens_of_specs x.specs ++ parted (map tokens_of_init_declarator x.declarators) ++ mark m.Semicolon

-- ---- statements

abbrev pub some_expr : Option Expr → Kinds
some_expr x = given tokens_of_expr x

unfoldable pub tokens_of_head : ForHead → Kinds
tokens_of_head x = some_expr x.start ++ mark m.Semicolon ++ some_expr x.test ++ mark m.Semicolon ++ some_expr x.step

abbrev pub in_stmt : Stmt-F Kinds Kinds → Kinds
in_stmt (Stmt-F.Label _ n x) = name n ++ mark m.Colon ++ x
in_stmt (Stmt-F.Case _ x y) = mark m.Case ++ tokens_of_expr x ++ mark m.Colon ++ y
in_stmt (Stmt-F.Default _ x) = mark m.Default ++ mark m.Colon ++ x
in_stmt (Stmt-F.Block x) = x
in_stmt (Stmt-F.Expression _ x) = some_expr x ++ mark m.Semicolon
in_stmt (Stmt-F.If _ x y z) = mark m.If ++ mark m.OpenParen ++ tokens_of_expr x ++ mark m.CloseParen ++ y ++ behind m.Else z
in_stmt (Stmt-F.Switch _ x y) = mark m.Switch ++ mark m.OpenParen ++ tokens_of_expr x ++ mark m.CloseParen ++ y
in_stmt (Stmt-F.While _ x y) = mark m.While ++ mark m.OpenParen ++ tokens_of_expr x ++ mark m.CloseParen ++ y
in_stmt (Stmt-F.Do _ x y) = mark m.Do ++ x ++ mark m.While ++ mark m.OpenParen ++ tokens_of_expr y ++ mark m.CloseParen ++ mark m.Semicolon
in_stmt (Stmt-F.For _ x y) = mark m.For ++ mark m.OpenParen ++ tokens_of_head x ++ mark m.CloseParen ++ y
in_stmt (Stmt-F.Goto _ n) = mark m.Goto ++ name n ++ mark m.Semicolon
in_stmt (Stmt-F.Continue _) = mark m.Continue ++ mark m.Semicolon
in_stmt (Stmt-F.Break _) = mark m.Break ++ mark m.Semicolon
in_stmt (Stmt-F.Return _ x) = mark m.Return ++ some_expr x ++ mark m.Semicolon

abbrev pub in_block : Block-F Kinds Kinds → Kinds
in_block x = mark m.OpenBrace ++ all (map tokens_of_declaration x.declarations) ++ all x.statements ++ mark m.CloseBrace

unfoldable pub tokens_of_stmt : Stmt → Kinds
tokens_of_stmt = fold-Stmt Kinds Kinds in_stmt in_block

unfoldable pub tokens_of_block : Block → Kinds
tokens_of_block = fold-Block Kinds Kinds in_stmt in_block

-- ---- units

abbrev pub tokens_of_external : External → Kinds
tokens_of_external (ext.Function x) = tokens_of_specs x.specs ++ tokens_of_declarator x.declarator ++ tokens_of_block x.body
tokens_of_external (ext.Declaration x) = tokens_of_declaration x

abbrev pub tokens_of_unit : List External → Kinds
tokens_of_unit xs = all (map tokens_of_external xs)
