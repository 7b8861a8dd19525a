-- How declarations, statements and units are read.
use Rattle.std.specs.Prelude.{ℕ, Bool, true, false, not, ◌&&◌, ◌||◌, if◌then◌else◌, nat_lt, List, [], ◌∷◌, ◌++◌, Option, Some, None, is_some}
use Rattle.c_tok.specs.declared.mark.Mark.{Mark}
use Rattle.c_tok.specs.declared.mark.Mark.TheVariants as m
use Rattle.c_tok.specs.declared.token.CTokKind.{CTokKind}
use Rattle.c_tok.specs.declared.token.CTokKind.TheVariants as c
use Rattle.c_tree.specs.declared.at.At.{At}
use Rattle.c_tree.specs.declared.expr.Expr.{Expr}
use Rattle.c_tree.specs.declared.expr.Specs.{Specs}
use Rattle.c_tree.specs.declared.declaring.Declaring.{Declaring}
use Rattle.c_tree.specs.declared.declaration.InitDeclarator.{InitDeclarator}
use Rattle.c_tree.specs.declared.declaration.Declaration.{Declaration}
use Rattle.c_tree.specs.declared.stmt.Stmt.{Stmt}
use Rattle.c_tree.specs.declared.stmt.Stmt.TheVariants as st
use Rattle.c_tree.specs.declared.stmt.ForHead.{ForHead}
use Rattle.c_tree.specs.declared.stmt.Block.{Block}
use Rattle.c_tree.specs.declared.stmt.External.{External}
use Rattle.c_tree.specs.declared.stmt.External.TheVariants as ext
use Rattle.c_tree.specs.declared.height.Heights.{Heights}
use Rattle.c_tree.specs.declared.height.Tall.{Tall}
use Rattle.c_tree.specs.Heights as class
use Rattle.c_tree.specs.Heights.{none, join, raise, tall}
use Rattle.c_tree.specs.Begins.{expr_or, declarator_at, or_at}
use Rattle.c_tree.specs.Specs.{no_specs}
use Rattle.c_decl.specs.declared.kind.Control.{Control}
use Rattle.c_decl.specs.declared.kind.DeclKind.TheVariants as k
use Rattle.c_decl.specs.declared.kind.Jump.{Jump}
use Rattle.c_decl.specs.declared.kind.Mode.{Mode}
use Rattle.c_decl.specs.declared.marking.Marked.TheVariants.{OldStyle, ImplicitInt}
use Rattle.c_decl.specs.State.{State, declares, enter, leave, leave_out_all, leave_out_if}
use Rattle.c_decl.specs.Marks.{control_of, jump_of}
use Rattle.c_decl.specs.Grammar.{Tree, Body, is_word, begins, controlled, jumping}
use Rattle.c_decl.specs.Input.{◌>>=◌, head, here, next, left, Parser, ◌>>◌, pure, refuse, peek, ask, change, skip, sees, eat, expect, a_name, looped}
use Rattle.c_decl.specs.Entries.{Entry, comma, conditional, init, declarator, statement, behind_label, block, phrase_of, word_comes, label_comes, type_name_at, body_comes, comma_then, parted, some_while}
use Rattle.c_decl.specs.Declarators.{specs}

-- ---- `part` reads what has room, and these what may be one higher in its class.
module _ (mode : Mode) (part : (c : Entry) → Parser (Tall (Tree (phrase_of c)))) (room : Heights) where
  -- ---- declarations

  unfoldable pub initialized : Tall Declaring → Parser (Tall InitDeclarator)
  initialized x = do
    y ← part init
    pure (tall (record { declarator = x.tree.tree; init = Some y.tree }) (join x.height y.height))

  -- behind the declarator
  unfoldable pub init_or : Tall Declaring → Parser (Tall InitDeclarator)
  init_or x = do
    equals ← eat m.Assign
    if equals then initialized x else pure (tall (record { declarator = x.tree.tree; init = None }) x.height)

  unfoldable pub init_declarator : Bool → Bool → Parser (Tall InitDeclarator)
  init_declarator typed is_typedef = do
    x ← part (declarator k.Named typed)
    change (declares x.tree.name is_typedef)
    init_or x

  unfoldable pub declared_list : Tall Specs → Parser (Tall Declaration)
  declared_list x = do
    ys ← parted (init_declarator x.tree.is_typed x.tree.is_typedef)
    expect m.Semicolon
    pure (tall (record { specs = x.tree; declarators = ys.tree }) (join x.height ys.height))

  unfoldable pub declaration : Parser (Tall Declaration)
  declaration = do
    x ← specs mode part room true
    ends ← eat m.Semicolon
    if ends then pure (tall (record { specs = x.tree; declarators = [] }) x.height) else declared_list x

  -- ---- statements

  -- an expression, unless the mark comes
  unfoldable pub expr_before : Mark → Parser (Tall (Option Expr))
  expr_before stop = do
    none_ ← ask (sees stop)
    if none_ then pure (tall None none) else (do x ← part comma; pure (tall (Some x.tree) x.height))

  -- behind the name of a label
  unfoldable pub colon_rule : At → List ℕ → Parser (Tall Stmt)
  colon_rule a n = do
    expect m.Colon
    x ← part statement
    pure (tall (st.Label a n x.tree) (raise class.statement x.height))

  unfoldable pub case_ : At → Parser (Tall Stmt)
  case_ a = do
    x ← part conditional
    expect m.Colon
    y ← part statement
    pure (tall (st.Case a x.tree y.tree) (raise class.statement (join x.height y.height)))

  unfoldable pub default_ : At → Parser (Tall Stmt)
  default_ a = do
    expect m.Colon
    x ← part statement
    pure (tall (st.Default a x.tree) (raise class.statement x.height))

  unfoldable pub expressed : Parser (Tall Stmt)
  expressed = do
    x ← expr_before m.Semicolon
    a ← ask here
    expect m.Semicolon
    pure (tall (st.Expression (expr_or a x.tree) x.tree) (raise class.statement x.height))

  unfoldable pub otherwise : At → Tall Expr → Tall Stmt → Parser (Tall Stmt)
  otherwise a x y = do
    z ← part statement
    pure (tall (st.If a x.tree y.tree (Some z.tree)) (raise class.statement (join x.height (join y.height z.height))))

  -- ( expression )
  unfoldable pub test : Parser (Tall Expr)
  test = do
    expect m.OpenParen
    x ← part comma
    expect m.CloseParen
    pure x

  unfoldable pub if_ : At → Parser (Tall Stmt)
  if_ a = do
    x ← test
    y ← part statement
    more ← eat m.Else
    if more then otherwise a x y else pure (tall (st.If a x.tree y.tree None) (raise class.statement (join x.height y.height)))

  unfoldable pub control_rule : At → Control → Parser (Tall Stmt)
  control_rule a how = do
    x ← test
    y ← part statement
    pure (tall (controlled how a x.tree y.tree) (raise class.statement (join x.height y.height)))

  unfoldable pub do_ : At → Parser (Tall Stmt)
  do_ a = do
    x ← part statement
    expect m.While
    y ← test
    expect m.Semicolon
    pure (tall (st.Do a x.tree y.tree) (raise class.statement (join x.height y.height)))

  unfoldable pub for_head : Parser (Tall ForHead)
  for_head = do
    x ← expr_before m.Semicolon
    expect m.Semicolon
    y ← expr_before m.Semicolon
    expect m.Semicolon
    z ← expr_before m.CloseParen
    pure (tall (record { start = x.tree; test = y.tree; step = z.tree }) (join x.height (join y.height z.height)))

  unfoldable pub for_ : At → Parser (Tall Stmt)
  for_ a = do
    expect m.OpenParen
    x ← for_head
    expect m.CloseParen
    y ← part statement
    pure (tall (st.For a x.tree y.tree) (raise class.statement (join x.height y.height)))

  unfoldable pub goto_ : At → Parser (Tall Stmt)
  goto_ a = do
    next ← peek
    n ← a_name next
    expect m.Semicolon
    pure (tall (st.Goto a n) (raise class.statement none))

  unfoldable pub jump_ : At → Jump → Parser (Tall Stmt)
  jump_ a how = do
    expect m.Semicolon
    pure (tall (jumping how a) (raise class.statement none))

  unfoldable pub return_ : At → Parser (Tall Stmt)
  return_ a = do
    x ← expr_before m.Semicolon
    expect m.Semicolon
    pure (tall (st.Return a x.tree) (raise class.statement x.height))

  -- true: a declaration may follow
  unfoldable pub declare_next : Tall Body → Parser (Bool × Tall Body)
  declare_next before = do
    x ← declaration
    pure (false, tall (record { declarations = before.tree.declarations ++ x.tree ∷ []; statements = before.tree.statements }) (join before.height x.height))

  abbrev pub with_statement : Tall Body → Tall Stmt → Bool × Tall Body
  with_statement before x = (true, tall (record { declarations = before.tree.declarations; statements = before.tree.statements ++ x.tree ∷ [] }) (join before.height x.height))

  unfoldable pub do_next : Tall Body → Parser (Bool × Tall Body)
  do_next before = do
    x ← part statement
    pure (with_statement before x)

  unfoldable pub label_next : Tall Body → At → List ℕ → Parser (Bool × Tall Body)
  label_next before a n = do
    x ← part (behind_label a n)
    pure (with_statement before x)

  -- A name of a type begins a declaration or a label, and behind the first statement a label alone. The token behind it
  -- decides.
  unfoldable pub typed_item : Bool × Tall Body → At → List ℕ → Parser (Bool × Tall Body)
  typed_item before a n = do
    is_label ← ask (λ i. before.0 || sees m.Colon (next i))
    if is_label then skip >> label_next before.1 a n else declare_next before.1

  unfoldable pub other_item : Bool × Tall Body → Parser (Bool × Tall Body)
  other_item before = do
    is_word ← ask word_comes
    if is_word && not before.0 then declare_next before.1 else do_next before.1

  abbrev pub item_by : Bool × Tall Body → At → Option (List ℕ) → Parser (Bool × Tall Body)
  item_by before a (Some n) = typed_item before a n
  item_by before a None = other_item before

  -- the value is whether statements have begun, and what stands before
  unfoldable pub item : Bool × Tall Body → Parser (Bool × Tall Body)
  item before = do
    a ← ask here
    n ← ask (λ i. type_name_at i.state (head i))
    item_by before a n

  unfoldable pub braced : Parser (Tall Block)
  braced = do
    a ← ask here
    before ← ask (λ i. i.state)
    expect m.OpenBrace
    x ← looped (λ _. body_comes) item (false, tall (record { declarations = []; statements = [] }) none)
    b ← ask here
    expect m.CloseBrace
    change (leave before)
    pure (tall (record { at = a; declarations = x.1.tree.declarations; statements = x.1.tree.statements; closing = b.number }) (raise class.statement x.1.height))

  abbrev pub label_by : At → Option CTokKind → Parser (Tall Stmt)
  label_by a (Some (c.Ident n)) = skip >> colon_rule a n
  label_by a _ = refuse

  unfoldable pub compound : Parser (Tall Stmt)
  compound = do x ← braced; pure (tall (st.Block x.tree) x.height)

  abbrev pub jump_or : At → Option Jump → Parser (Tall Stmt)
  jump_or a (Some how) = skip >> jump_ a how
  jump_or a None = expressed

  abbrev pub control_or : At → Option CTokKind → Option Control → Parser (Tall Stmt)
  control_or a next (Some how) = skip >> control_rule a how
  control_or a next None = jump_or a (jump_of next)

  abbrev pub statement_by : At → Option CTokKind → Parser (Tall Stmt)
  statement_by a (Some (c.Mark m.OpenBrace)) = compound
  statement_by a (Some (c.Mark m.Case)) = skip >> case_ a
  statement_by a (Some (c.Mark m.Default)) = skip >> default_ a
  statement_by a (Some (c.Mark m.If)) = skip >> if_ a
  statement_by a (Some (c.Mark m.Do)) = skip >> do_ a
  statement_by a (Some (c.Mark m.For)) = skip >> for_ a
  statement_by a (Some (c.Mark m.Goto)) = skip >> goto_ a
  statement_by a (Some (c.Mark m.Return)) = skip >> return_ a
  statement_by a next = control_or a next (control_of next)

  unfoldable pub statement_rule : Parser (Tall Stmt)
  statement_rule = do
    a ← ask here
    next ← peek
    is_label ← ask label_comes
    if is_label then label_by a next else statement_by a next

  -- ---- units

  unfoldable pub old_declarations : Parser (Tall (Option (List Declaration)))
  old_declarations = do
    more ← ask word_comes
    if more then (do xs ← some_while word_comes declaration; pure (tall (Some xs.tree) xs.height)) else pure (tall None none)

  -- in the scope of the parameters; `before` is what is known behind it
  unfoldable pub definition : Tall Specs → Tall Declaring → State → Parser (Tall External)
  definition x y before = do
    z ← old_declarations
    b ← part block
    change (leave before)
    change (leave_out_if (is_some z.tree) OldStyle x.tree.at)
    pure (tall (ext.Function (record { specs = x.tree; declarator = y.tree.tree; body = b.tree })) (join x.height (join y.height (join z.height b.height))))

  -- behind the first declarator
  unfoldable pub declared_from : Tall Specs → Tall Declaring → Parser (Tall External)
  declared_from x y = do
    z ← init_or y
    zs ← looped (λ _. sees m.Comma) (comma_then (init_declarator x.tree.is_typed x.tree.is_typedef)) (tall (z.tree ∷ []) z.height)
    expect m.Semicolon
    pure (tall (ext.Declaration (record { specs = x.tree; declarators = zs.tree })) (join x.height zs.height))

  -- what comes next is looked at in the scope of the parameters
  unfoldable pub specified_from : Tall Specs → Parser (Tall External)
  specified_from x = do
    y ← part (declarator k.Named x.tree.is_typed)
    change (declares y.tree.name x.tree.is_typedef)
    before ← ask (λ i. i.state)
    change (enter y.tree.params)
    defines ← ask (λ i. sees m.OpenBrace i || word_comes i)
    if defines then definition x y before else change (leave before) >> declared_from x y

  unfoldable pub specified : Parser (Tall External)
  specified = do
    x ← specs mode part room true
    ends ← eat m.Semicolon
    if ends then pure (tall (ext.Declaration (record { specs = x.tree; declarators = [] })) x.height) else specified_from x

  unfoldable pub implied_function : Tall Declaring → Parser (Tall External)
  implied_function x = do
    before ← ask (λ i. i.state)
    change (enter x.tree.params)
    b ← part block
    change (leave before)
    change (leave_out_all ImplicitInt (begins b.tree.at x.tree))
    pure (tall (ext.Function (record { specs = no_specs (begins b.tree.at x.tree); declarator = x.tree.tree; body = b.tree })) (join x.height b.height))

  unfoldable pub implied_declaration : Tall Declaring → Parser (Tall External)
  implied_declaration x = do
    y ← init_or x
    a ← ask here
    expect m.Semicolon
    change (leave_out_all ImplicitInt (or_at a (declarator_at y.tree.declarator)))
    pure (tall (ext.Declaration (record { specs = no_specs (or_at a (declarator_at y.tree.declarator)); declarators = y.tree ∷ [] })) y.height)

  unfoldable pub implied : Parser (Tall External)
  implied = do
    x ← part (declarator k.Named false)
    change (declares x.tree.name false)
    defines ← ask (sees m.OpenBrace)
    if defines then implied_function x else implied_declaration x

  unfoldable pub external : Parser (Tall External)
  external = do
    has_specs ← ask word_comes
    if has_specs then specified else implied

  unfoldable pub unit : Parser (Tall (List External))
  unit = some_while (λ i. nat_lt 0 (left i)) external
