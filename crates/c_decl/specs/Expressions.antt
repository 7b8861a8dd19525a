-- How expressions and initializers are read.
use Rattle.std.specs.Prelude.{ℕ, Bool, true, false, not, ◌&&◌, nat_lt, if◌then◌else◌, List, [], Option, Some, None}
use Rattle.c_type.specs.declared.operator.BinOp.{BinOp}
use Rattle.c_tok.specs.declared.mark.Mark.TheVariants as m
use Rattle.c_tok.specs.declared.token.CTokKind.{CTokKind}
use Rattle.c_tok.specs.declared.token.CTokKind.TheVariants as c
use Rattle.c_tree.specs.declared.at.At.{At}
use Rattle.c_tree.specs.declared.operator.Access.{Access}
use Rattle.c_tree.specs.declared.operator.Infix.{Infix}
use Rattle.c_tree.specs.declared.operator.Step.{Step}
use Rattle.c_tree.specs.declared.operator.UnaryOp.{UnaryOp}
use Rattle.c_tree.specs.declared.expr.Expr.{Expr}
use Rattle.c_tree.specs.declared.expr.Expr.TheVariants as e
use Rattle.c_tree.specs.declared.declaration.Init.{Init}
use Rattle.c_tree.specs.declared.declaration.Init.TheVariants as i
use Rattle.c_tree.specs.declared.height.Heights.{Heights}
use Rattle.c_tree.specs.declared.height.Tall.{Tall}
use Rattle.c_tree.specs.Heights as class
use Rattle.c_tree.specs.Heights.{none, join, raise, tall}
use Rattle.c_tree.specs.Begins.{expr_at}
use Rattle.c_decl.specs.declared.kind.Mode.{Mode}
use Rattle.c_decl.specs.State.{is_type}
use Rattle.c_decl.specs.Marks.{tight, infix_of, assign_of, unary_of, step_of, access_of}
use Rattle.c_decl.specs.Grammar.{Tree}
use Rattle.c_decl.specs.Input.{here, next, Parser, ◌>>=◌, ◌>>◌, pure, refuse, peek, ask, skip, sees, eat, expect, a_name, looped}
use Rattle.c_decl.specs.Entries.{Entry, comma, assignment, conditional, cast, unary, init, binary, phrase_of, is_unary, goes_on, opens_type, parted, parted_before, fits}
use Rattle.c_decl.specs.Declarators.{type_name}

-- ---- `part` reads what has room, and these what may be one higher in its class.
module _ (mode : Mode) (part : (c : Entry) → Parser (Tall (Tree (phrase_of c)))) (room : Heights) where
  -- ---- expressions

  -- behind the parenthesis
  unfoldable pub parenthesized : At → Parser (Tall Expr)
  parenthesized a = do
    x ← part comma
    expect m.CloseParen
    pure (tall (e.Paren a x.tree) (raise class.expression x.height))

  abbrev pub name_or : At → List ℕ → Bool → Parser (Tall Expr)
  name_or a n true = refuse
  name_or a n false = skip >> pure (tall (e.Ident a n) (raise class.expression none))

  abbrev pub primary_by : At → Option CTokKind → Parser (Tall Expr)
  primary_by a (Some (c.Ident n)) = ask (λ i. is_type i.state n) >>= name_or a n
  primary_by a (Some (c.Constant v)) = skip >> pure (tall (e.Constant a v.value v.kind) (raise class.expression none))
  primary_by a (Some (c.Text bytes)) = skip >> pure (tall (e.Text a bytes) (raise class.expression none))
  primary_by a (Some (c.Mark m.OpenParen)) = skip >> parenthesized a
  primary_by a _ = refuse

  unfoldable pub primary : Parser (Tall Expr)
  primary = do
    a ← ask here
    next ← peek
    primary_by a next

  -- up to the parenthesis
  unfoldable pub arguments : Parser (Tall (List Expr))
  arguments = do
    none_ ← ask (sees m.CloseParen)
    if none_ then pure (tall [] none) else parted (part assignment)

  unfoldable pub call : Tall Expr → Parser (Tall Expr)
  call x = do
    fits room x.height
    ys ← arguments
    expect m.CloseParen
    pure (tall (e.Call (expr_at x.tree) x.tree ys.tree) (raise class.expression (join x.height ys.height)))

  unfoldable pub subscript : Tall Expr → Parser (Tall Expr)
  subscript x = do
    fits room x.height
    y ← part comma
    expect m.CloseBracket
    pure (tall (e.Subscript (expr_at x.tree) x.tree y.tree) (raise class.expression (join x.height y.height)))

  unfoldable pub reached : Tall Expr → Access → Parser (Tall Expr)
  reached x how = do
    fits room x.height
    next ← peek
    n ← a_name next
    pure (tall (e.Member (expr_at x.tree) how x.tree n) (raise class.expression x.height))

  unfoldable pub stepped : Tall Expr → Step → Parser (Tall Expr)
  stepped x how = do
    fits room x.height
    pure (tall (e.Postfix (expr_at x.tree) how x.tree) (raise class.expression x.height))

  abbrev pub step_or : Tall Expr → Option Step → Parser (Tall Expr)
  step_or x (Some how) = skip >> stepped x how
  step_or x None = refuse

  abbrev pub access_or : Tall Expr → Option CTokKind → Option Access → Parser (Tall Expr)
  access_or x next (Some how) = skip >> reached x how
  access_or x next None = step_or x (step_of next)

  abbrev pub suffix_by : Tall Expr → Option CTokKind → Parser (Tall Expr)
  suffix_by x (Some (c.Mark m.OpenBracket)) = skip >> subscript x
  suffix_by x (Some (c.Mark m.OpenParen)) = skip >> call x
  suffix_by x next = access_or x next (access_of next)

  unfoldable pub suffixed : Tall Expr → Parser (Tall Expr)
  suffixed x = peek >>= suffix_by x

  unfoldable pub postfix : Parser (Tall Expr)
  postfix = do
    x ← primary
    looped (λ _. goes_on 14) suffixed x

  -- behind `sizeof` and a parenthesis
  unfoldable pub measured_type : At → Parser (Tall Expr)
  measured_type a = do
    x ← type_name mode part room
    expect m.CloseParen
    pure (tall (e.SizeofType a x.tree) (raise class.expression x.height))

  unfoldable pub measured_value : At → Parser (Tall Expr)
  measured_value a = do
    x ← part unary
    pure (tall (e.SizeofExpr a x.tree) (raise class.expression x.height))

  -- a parenthesis is taken, since it may begin a type also where no expression may nest any more
  unfoldable pub value_or : At → Parser (Tall Expr)
  value_or a = do
    opens ← ask (sees m.OpenParen)
    if opens && not (nat_lt 0 room.expression) then skip >> refuse else measured_value a

  -- behind `sizeof`
  unfoldable pub measured : At → Parser (Tall Expr)
  measured a = do
    is_type_ ← ask opens_type
    if is_type_ then skip >> measured_type a else value_or a

  unfoldable pub prefix_step : At → Step → Parser (Tall Expr)
  prefix_step a how = do
    x ← part unary
    pure (tall (e.Prefix a how x.tree) (raise class.expression x.height))

  unfoldable pub prefixed : At → UnaryOp → Parser (Tall Expr)
  prefixed a op = do
    x ← part cast
    pure (tall (e.Unary a op x.tree) (raise class.expression x.height))

  abbrev pub unary_or : At → Option UnaryOp → Parser (Tall Expr)
  unary_or a (Some op) = skip >> prefixed a op
  unary_or a None = postfix

  abbrev pub prefix_or : At → Option CTokKind → Option Step → Parser (Tall Expr)
  prefix_or a next (Some how) = skip >> prefix_step a how
  prefix_or a next None = unary_or a (unary_of next)

  abbrev pub unary_by : At → Option CTokKind → Parser (Tall Expr)
  unary_by a (Some (c.Mark m.Sizeof)) = skip >> measured a
  unary_by a next = prefix_or a next (step_of next)

  unfoldable pub unary_rule : Parser (Tall Expr)
  unary_rule = do
    a ← ask here
    next ← peek
    unary_by a next

  -- behind the parenthesis
  unfoldable pub converted : At → Parser (Tall Expr)
  converted a = do
    to ← type_name mode part room
    expect m.CloseParen
    x ← part cast
    pure (tall (e.Cast a to.tree x.tree) (raise class.expression (join to.height x.height)))

  unfoldable pub cast_rule : Parser (Tall Expr)
  cast_rule = do
    a ← ask here
    is_cast ← ask opens_type
    if is_cast then skip >> converted a else unary_rule

  unfoldable pub operated : Tall Expr → ℕ → Infix → Parser (Tall Expr)
  operated x level op = do
    fits room x.height
    y ← part (binary level)
    pure (tall (e.Binary (expr_at x.tree) op x.tree y.tree) (raise class.expression (join x.height y.height)))

  abbrev pub operand : Tall Expr → ℕ → Option Infix → Parser (Tall Expr)
  operand x level None = refuse
  operand x level (Some op) = skip >> operated x level op

  unfoldable pub operation : Tall Expr → Parser (Tall Expr)
  operation x = do
    next ← peek
    operand x (tight next) (infix_of next)

  unfoldable pub binary_rule : ℕ → Parser (Tall Expr)
  binary_rule least = do
    x ← cast_rule
    looped (λ _. goes_on least) operation x

  unfoldable pub chosen : Tall Expr → Parser (Tall Expr)
  chosen x = do
    fits room x.height
    y ← part comma
    expect m.Colon
    z ← part conditional
    pure (tall (e.Conditional (expr_at x.tree) x.tree y.tree z.tree) (raise class.expression (join x.height (join y.height z.height))))

  unfoldable pub conditional_rule : Parser (Tall Expr)
  conditional_rule = do
    x ← binary_rule 4
    found ← eat m.Question
    if found then chosen x else pure x

  unfoldable pub assigned : Tall Expr → Option BinOp → Parser (Tall Expr)
  assigned x op = do
    fits room x.height
    y ← part assignment
    pure (tall (e.Assign (expr_at x.tree) op x.tree y.tree) (raise class.expression (join x.height y.height)))

  abbrev pub assign_by : Tall Expr → Option (Option BinOp) → Parser (Tall Expr)
  assign_by x (Some op) = skip >> assigned x op
  assign_by x None = pure x

  unfoldable pub assign_or : Tall Expr → Parser (Tall Expr)
  assign_or x = if is_unary x.tree then (do next ← peek; assign_by x (assign_of next)) else pure x

  unfoldable pub assignment_rule : Parser (Tall Expr)
  assignment_rule = do
    x ← conditional_rule
    assign_or x

  unfoldable pub joined : Tall Expr → Parser (Tall Expr)
  joined x = do
    fits room x.height
    y ← part assignment
    pure (tall (e.Comma (expr_at x.tree) x.tree y.tree) (raise class.expression (join x.height y.height)))

  unfoldable pub comma_next : Tall Expr → Parser (Tall Expr)
  comma_next x = skip >> joined x

  unfoldable pub comma_rule : Parser (Tall Expr)
  comma_rule = do
    x ← assignment_rule
    looped (λ _. sees m.Comma) comma_next x

  -- ---- initializers

  -- behind the brace
  unfoldable pub braces : At → Parser (Tall Init)
  braces a = do
    xs ← parted_before m.CloseBrace (part init)
    comma_ends ← eat m.Comma
    expect m.CloseBrace
    pure (tall (i.Braces a xs.tree comma_ends) (raise class.initializer xs.height))

  unfoldable pub init_value : Parser (Tall Init)
  init_value = do
    x ← part assignment
    pure (tall (i.Value x.tree) (raise class.initializer x.height))

  unfoldable pub init_rule : Parser (Tall Init)
  init_rule = do
    a ← ask here
    opens ← eat m.OpenBrace
    if opens then braces a else init_value
