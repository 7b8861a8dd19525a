-- Declarations, statements and blocks: what is read is derived, and what is refused can be ended.
use Rattle.std.proofs.Common.{◌≡◌, ℕ, Bool, true, false, not, cond, List, [], ◌∷◌, ◌++◌, Option, Some, None, Ok, refl, append_assoc}
use Rattle.std.specs.Prelude.{◌&&◌, ◌||◌}
use Rattle.c_tok.specs.declared.mark.Mark.{Mark}
use Rattle.c_tok.specs.declared.mark.Mark.TheVariants as m
use Rattle.c_tok.specs.declared.token.CTokKind.{CTokKind}
use Rattle.c_tok.specs.declared.token.CTokKind.TheVariants as c
use Rattle.c_tree.specs.declared.at.At.{At}
use Rattle.c_tree.specs.declared.declaration.Declaration.{Declaration}
use Rattle.c_tree.specs.declared.declaration.InitDeclarator.{InitDeclarator}
use Rattle.c_tree.specs.declared.stmt.Stmt.{Stmt}
use Rattle.c_tree.specs.declared.stmt.Stmt.TheVariants as st
use Rattle.c_decl.specs.declared.kind.Control.{Control}
use Rattle.c_decl.specs.declared.kind.Jump.{Jump}
use Rattle.c_tree.specs.declared.expr.Expr.{Expr}
use Rattle.c_tree.specs.Begins.{expr_or}
use Rattle.c_tree.specs.declared.declaring.Declaring.{Declaring}
use Rattle.c_tree.specs.declared.height.Heights.{Heights}
use Rattle.c_tree.specs.declared.height.Tall.{Tall}
use Rattle.c_tree.specs.Heights as class
use Rattle.c_tree.specs.Heights.{none, join, raise, tall}
use Rattle.c_decl.specs.declared.kind.DeclKind.TheVariants as k
use Rattle.c_decl.specs.declared.kind.Mode.{Mode}
use Rattle.c_decl.specs.Tokens.{Token, tok, mark, name, nowhere}
use Rattle.c_decl.specs.State.{State, is_type, declares, leave}
use Rattle.c_decl.specs.Marks.{control_of, jump_of}
use Rattle.c_decl.specs.Grammar as g
use Rattle.c_decl.specs.Grammar.{Tree, Derives, Body}
use Rattle.c_decl.specs.Input.{Input, Parser, and_then, here, next, sees, expect, looped}
use Rattle.c_decl.specs.Entries as en
use Rattle.c_decl.specs.Entries.{Entry, phrase_of}
use Rattle.c_decl.proofs.Tests.{clash, not_true, and_right, or_left}
use Rattle.c_decl.proofs.Runs.{at}
use Rattle.c_decl.proofs.Took.{eat_on_then, Says, Of, Goes, Reads, Open, opened, can, done, knowing, refuses, here_mark_then, token, mark_then, eat_then, by_token, name_then, in_row, choose, then_, loop}
use Rattle.c_decl.proofs.SoundSpans as sp_
use Rattle.c_decl.specs.Statements as sr
use Rattle.c_decl.proofs.Got.{Parts, part_reads, Got, parted_reads}

module _ (mode : Mode) (part : (c : Entry) → Parser (Tall (Tree (phrase_of c)))) (room : Heights) (parts : Parts mode part) where
  -- ---- declarations

  pub init_or_goes : {typed is_typedef : Bool} {S T : State} (x : Tall Declaring) (us : List Token)
      → Derives mode (g.declarator k.Named typed) S x.height us x.tree T → (rest : List Token)
      → Goes (Of mode (g.init_declarator typed is_typedef) S) us (at rest (declares x.tree.name is_typedef T))
      (sr.init_or mode part room x (at rest (declares x.tree.name is_typedef T)))
  unfolding sr.init_or sr.initialized
  init_or_goes {is_typedef = is_typedef} {T = T} x us f rest =
      eat_then {j = at rest (declares x.tree.name is_typedef T)} m.Assign
      (λ equals. cond {A = Parser (Tall InitDeclarator)} equals (sr.initialized mode part room x)
      (λ l. Ok (tall (record { declarator = x.tree.tree; init = None }) x.height, l)))
      (λ a more. then_ (part_reads parts en.init (at more (declares x.tree.name is_typedef T))) λ y k vs h.
      done (g.initialized a f h) refl)
      (λ _. done (g.plainly f) refl)

  pub init_declarator_reads : (typed is_typedef : Bool) (i : Input)
      → Reads mode (g.init_declarator typed is_typedef) i (sr.init_declarator mode part room typed is_typedef i)
  unfolding sr.init_declarator
  init_declarator_reads typed is_typedef i = then_ (part_reads parts (en.declarator k.Named typed) i) λ x j us f.
      knowing refl (init_or_goes x us f j.rest)

  pub declaration_reads : (i : Input) → Reads mode g.declaration i (sr.declaration mode part room i)
  unfolding sr.declaration sr.declared_list
  declaration_reads i = then_ (sp_.specs_reads mode part room parts true i) λ x j us f.
      eat_then m.Semicolon (λ ends. cond {A = Parser (Tall Declaration)} ends
      (λ l. Ok (tall (record { specs = x.tree; declarators = [] }) x.height, l)) (sr.declared_list mode part room x))
      (λ a more. done (g.declares_none a f) refl)
      (λ _. then_ (parted_reads _ (init_declarator_reads x.tree.is_typed x.tree.is_typedef) j) λ ys k vs h.
      mark_then m.Semicolon _ λ a rest. done (g.declares_some a f h) refl)

  -- ---- statements

  expr_before_reads : (stop : Mark) (i : Input) → Reads mode (g.optional g.comma) i (sr.expr_before mode part room stop i)
  unfolding sr.expr_before
  expr_before_reads stop i = choose (sees stop i) _ _ (λ _. done g.left_out refl)
      (λ _. then_ (part_reads parts en.comma i) λ x k us f. done (g.given f) refl)

  -- an expression in parentheses
  test_then : {A : Type 0} {D : Says A} {ts : List Token} {j : Input} (h : Tall Expr → Parser A)
      → ((a b : At) (x : Tall Expr) (U : State) (us rest : List Token) → Derives mode g.comma j.state x.height us x.tree U
      → Goes D (ts ++ mark a m.OpenParen ++ us ++ mark b m.CloseParen) (at rest U) (h x (at rest U)))
      → Goes D ts j (and_then (sr.test mode part room j) h)
  unfolding sr.test
  test_then {j = j} h go =
      in_row (expect m.OpenParen j) _ h (mark_then m.OpenParen _ λ a more.
      in_row (part en.comma (at more j.state)) _ h (then_ (part_reads parts en.comma (at more j.state)) λ x k us f.
      in_row (expect m.CloseParen k) _ h (mark_then m.CloseParen _ λ b rest. go a b x k.state us rest f)))

  abbrev States : State → Says (Tall Stmt)
  States S = Got mode en.statement S

  abbrev Labels : At → List ℕ → State → Says (Tall Stmt)
  Labels a n S x us k = Derives mode (g.behind_label false a n) S x.height us x.tree k.state ×
      (sees m.Else k ≡ true → Derives mode (g.behind_label true a n) S x.height us x.tree k.state)

  pub colon_reads : (a : At) (n : List ℕ) (i : Input) → Goes (Labels a n i.state) [] i (sr.colon_rule mode part room a n i)
  unfolding sr.colon_rule
  colon_reads a n i = mark_then m.Colon _ λ b more. then_ (parts en.statement (at more i.state)) λ x k us f.
      done (g.colon b f.0, λ e. g.colon b (f.1 e)) refl

  expressed_goes : (i : Input) → Goes (States i.state) [] i (sr.expressed mode part room i)
  unfolding sr.expressed
  expressed_goes i = then_ (expr_before_reads m.Semicolon i) λ x k us f.
      here_mark_then m.Semicolon (λ a _ j. Ok (tall (st.Expression (expr_or a x.tree) x.tree) (raise class.statement x.height), j))
      λ a more. done (g.expression a f, λ _. g.expression a f) refl

  for_head_reads : (i : Input) → Reads mode g.for_head i (sr.for_head mode part room i)
  unfolding sr.for_head
  for_head_reads i = then_ (expr_before_reads m.Semicolon i) λ x k us f. mark_then m.Semicolon _ λ a more.
      then_ (expr_before_reads m.Semicolon (at more k.state)) λ y l vs h. mark_then m.Semicolon _ λ b rest.
      then_ (expr_before_reads m.CloseParen (at rest l.state)) λ z l' ws h'. done (g.heads a b f h h') refl

  jump_goes : (S : State) (o : CTokKind) (a : At) (rest : List Token) (found : Option Jump) → jump_of (Some o) ≡ found
      → Goes (States S) [] (at (tok o a ∷ rest) S) (sr.jump_or mode part room a found (at (tok o a ∷ rest) S))
  unfolding next sr.jump_
  jump_goes S o a rest None is = expressed_goes (at (tok o a ∷ rest) S)
  jump_goes S o a rest (Some how) is = token (mark_then m.Semicolon _ λ b more. done (g.jump_ a b o is, λ _. g.jump_ a b o is) refl)

  control_goes : (S : State) (o : CTokKind) (a : At) (rest : List Token) (found : Option Control) → control_of (Some o) ≡ found
      → Goes (States S) [] (at (tok o a ∷ rest) S) (sr.control_or mode part room a (Some o) found (at (tok o a ∷ rest) S))
  unfolding next sr.control_rule
  control_goes S o a rest None is = jump_goes S o a rest (jump_of (Some o)) refl
  control_goes S o a rest (Some how) is = token (test_then _ λ b b' x U us more f. then_ (parts en.statement (at more U)) λ y k vs h.
      done (g.control_ a b b' o is f h.0, λ e. g.control_ a b b' o is f (h.1 e)) refl)

  -- ---- blocks

  abbrev Bodies : State → Says (Bool × Tall Body)
  Bodies S x us k = Derives mode (g.body x.0) S x.1.height us x.1.tree k.state

  declare_goes : {S : State} (j : Input) (begun : Bool) (x : Tall Body) (us : List Token) → begun ≡ false
      → Derives mode (g.body begun) S x.height us x.tree j.state
      → Goes (Bodies S) us j (sr.declare_next mode part room x j)
  unfolding sr.declare_next
  declare_goes j true x us is f = absurd cc
  declare_goes j false x us is f = then_ (declaration_reads j) λ y k vs h. done (g.declared_more f h) refl

  do_next_goes : {S : State} (j : Input) (begun : Bool) (x : Tall Body) (us : List Token)
      → Derives mode (g.body begun) S x.height us x.tree j.state → Goes (Bodies S) us j (sr.do_next mode part room x j)
  unfolding sr.do_next
  do_next_goes j begun x us f = then_ (parts en.statement j) λ y k vs h. done (g.done_more f h.0) refl

  other_goes : {S : State} (j : Input) (x : Bool × Tall Body) (us : List Token) → Bodies S x us j
      → Goes (Bodies S) us j (sr.other_item mode part room x j)
  unfolding sr.other_item
  other_goes j x us f = choose (en.word_comes j && not x.0) _ _
      (λ on. declare_goes j x.0 x.1 us (not_true _ (and_right (en.word_comes j) _ on)) f) (λ _. do_next_goes j x.0 x.1 us f)

  typed_goes : {S T : State} (x : Bool × Tall Body) (us : List Token) → Derives mode (g.body x.0) S x.1.height us x.1.tree T
      → (a : At) (n : List ℕ) (rest : List Token)
      → Goes (Bodies S) us (at (name a n ++ rest) T) (sr.typed_item mode part room x a n (at (name a n ++ rest) T))
  unfolding sr.typed_item sr.label_next next
  typed_goes {T = T} x us f a n rest = choose (x.0 || sees m.Colon (at rest T)) _ _
      (λ _. token (then_ (part_reads parts (en.behind_label a n) (at rest T)) λ y k vs h.
      done (g.done_more f (g.labelled a n h)) (simp append_assoc)))
      (λ off. declare_goes (at (name a n ++ rest) T) x.0 x.1 us (or_left x.0 _ off) f)

  item_kind : {S T : State} (x : Bool × Tall Body) (us : List Token) → Derives mode (g.body x.0) S x.1.height us x.1.tree T
      → (o : CTokKind) (a : At) (rest : List Token)
      → Goes (Bodies S) us (at (tok o a ∷ rest) T) (sr.item_by mode part room x a (en.type_name_at T (Some o)) (at (tok o a ∷ rest) T))
  item_kind {S = S} {T = T} x us f (c.Ident n) a rest = by (is_type T n) where
    by : (b : Bool) → Goes (Bodies S) us (at (name a n ++ rest) T)
        (sr.item_by mode part room x a (cond b (Some n) None) (at (name a n ++ rest) T))
    by true = typed_goes x us f a n rest
    by false = other_goes (at (name a n ++ rest) T) x us f
  item_kind {T = T} x us f o a rest = other_goes (at (tok o a ∷ rest) T) x us f

  pub block_reads : (i : Input) → Reads mode g.block i (sr.braced mode part room i)
  unfolding sr.braced sr.item
  block_reads i =
      here_mark_then m.OpenBrace (λ a _ j. and_then (looped (λ _.
      en.body_comes) (sr.item mode part room) (false, tall (record { declarations = []; statements = [] }) none) j) (λ x k.
      and_then (expect m.CloseBrace k) (λ _ l. Ok (
        tall (record {
          at = a;
          declarations = x.1.tree.declarations;
          statements = x.1.tree.statements;
          closing = (here k).number;
        }) (raise class.statement x.1.height),
        record l { state = leave i.state l.state },
      )))) λ a more.
      then_ {D = Bodies i.state} (loop {D = Bodies i.state} (λ x k us _ f.
      by_token (λ a next j. sr.item_by mode part room x a (en.type_name_at j.state next) j) (other_goes (at [] k.state) x us f)
      (λ o a rest. item_kind x us f o a rest))
      _ (at more i.state) [] g.empty) λ x k us f.
      here_mark_then m.CloseBrace (λ b _ l. Ok (
        tall (record {
          at = a;
          declarations = x.1.tree.declarations;
          statements = x.1.tree.statements;
          closing = b.number;
        }) (raise class.statement x.1.height),
        record l { state = leave i.state l.state },
      )) λ b rest.
      knowing refl (done (g.braced a b f) refl)

  -- ---- which statement

  least_statement : {S : State} → Open (States S) []
  least_statement {S = S} = opened (mark nowhere m.Semicolon)
      (can (tall _ _) S (g.expression nowhere g.left_out, λ _. g.expression nowhere g.left_out) refl)

  label_kind : (S : State) (o : CTokKind) (a : At) (rest : List Token)
      → Goes (States S) [] (at (tok o a ∷ rest) S) (sr.label_by mode part room a (Some o) (at (tok o a ∷ rest) S))
  unfolding next sr.colon_rule
  label_kind S (c.Ident n) a rest = token (mark_then m.Colon _ λ b more. then_ (parts en.statement (at more S)) λ x k us f.
      done (g.labelled a n (g.colon b f.0), λ e. g.labelled a n (g.colon b (f.1 e))) refl)
  label_kind S o a rest = refuses least_statement

  statement_kind : (S : State) (o : CTokKind) (a : At) (rest : List Token)
      → Goes (States S) [] (at (tok o a ∷ rest) S) (sr.statement_by mode part room a (Some o) (at (tok o a ∷ rest) S))
  unfolding next sr.compound sr.case_ sr.default_ sr.if_ sr.otherwise sr.do_ sr.for_ sr.goto_ sr.return_
  statement_kind S (c.Mark m.OpenBrace) a rest = then_ (block_reads (at (mark a m.OpenBrace ++ rest) S)) λ x k us f.
      done (g.compound f, λ _. g.compound f) refl
  statement_kind S (c.Mark m.Case) a rest = token (then_ (part_reads parts en.conditional (at rest S)) λ x k us f.
      mark_then m.Colon _ λ b more. then_ (parts en.statement (at more k.state)) λ y l vs h.
      done (g.case_ a b f h.0, λ e. g.case_ a b f (h.1 e)) refl)
  statement_kind S (c.Mark m.Default) a rest = token (mark_then m.Colon _ λ b more. then_ (parts en.statement (at more S)) λ x k us f.
      done (g.default_ a b f.0, λ e. g.default_ a b (f.1 e)) refl)
  statement_kind S (c.Mark m.If) a rest = token (test_then _ λ b b' x U us more f. then_ (parts en.statement (at more U)) λ y k vs h.
      eat_on_then m.Else (λ else_. cond {A = Parser (Tall Stmt)} else_ (sr.otherwise mode part room a x y)
      (λ l. Ok (tall (st.If a x.tree y.tree None) (raise class.statement (join x.height y.height)), l)))
      (λ b'' more on. then_ (parts en.statement (at more k.state)) λ z l ws h'.
      done (g.if_else a b b' b'' f (h.1 on) h'.0, λ e. g.if_else a b b' b'' f (h.1 on) (h'.1 e)) refl)
      (λ off. done (g.if_ a b b' f h.0, λ e. clash _ e off) refl))
  statement_kind S (c.Mark m.Do) a rest = token (then_ (parts en.statement (at rest S)) λ x k us h. mark_then m.While _ λ a' more.
      test_then _ λ b b' y U vs rest f. mark_then m.Semicolon _ λ b'' more.
      done (g.do_ a a' b b' b'' h.0 f, λ _. g.do_ a a' b b' b'' h.0 f) refl)
  statement_kind S (c.Mark m.For) a rest = token (mark_then m.OpenParen _ λ b more. then_ (for_head_reads (at more S)) λ x k us f.
      mark_then m.CloseParen _ λ b' rest. then_ (parts en.statement (at rest k.state)) λ y l vs h.
      done (g.for_ a b b' f h.0, λ e. g.for_ a b b' f (h.1 e)) refl)
  statement_kind S (c.Mark m.Goto) a rest = token (name_then _ λ b n more. mark_then m.Semicolon _ λ b' rest.
      done (g.goto_ a b b' n, λ _. g.goto_ a b b' n) refl)
  statement_kind S (c.Mark m.Return) a rest = token (then_ (expr_before_reads m.Semicolon (at rest S)) λ x k us f.
      mark_then m.Semicolon _ λ b more. done (g.return_ a b f, λ _. g.return_ a b f) refl)
  statement_kind S o a rest = control_goes S o a rest (control_of (Some o)) refl

  pub statement_reads : (i : Input) → Goes (States i.state) [] i (sr.statement_rule mode part room i)
  unfolding sr.statement_rule
  statement_reads i = by_token (λ a next j. cond {A = Parser (Tall Stmt)} (en.label_comes j) (sr.label_by mode part room a next)
      (sr.statement_by mode part room a next) j)
      (choose (en.label_comes (at [] i.state)) _ _ (λ _. refuses least_statement) (λ _. expressed_goes (at [] i.state)))
      (λ o a rest. choose (en.label_comes (at (tok o a ∷ rest) i.state)) _ _ (λ _. label_kind i.state o a rest)
      (λ _. statement_kind i.state o a rest))
