-- Declarations, statements and units are read alike as far as a token.
use Rattle.std.proofs.Common.{◌≡◌, ℕ, ◌<◌, Bool, true, false, cond, List, [], ◌∷◌, ◌++◌, length, Option, Some, None, Ok, refl, arith}
use Rattle.std.specs.Prelude.{◌&&◌, ◌||◌, not, nat_lt, is_some}
use Rattle.c_tok.specs.declared.mark.Mark.{Mark}
use Rattle.c_tok.specs.declared.mark.Mark.TheVariants as m
use Rattle.c_tok.specs.declared.token.CTokKind.{CTokKind}
use Rattle.c_tok.specs.declared.token.CTokKind.TheVariants as c
use Rattle.c_tree.specs.declared.at.At.{At}
use Rattle.c_tree.specs.declared.expr.Expr.{Expr}
use Rattle.c_tree.specs.declared.expr.Specs.{Specs}
use Rattle.c_tree.specs.declared.declaring.Declaring.{Declaring}
use Rattle.c_tree.specs.declared.stmt.Stmt.{Stmt}
use Rattle.c_tree.specs.declared.stmt.Stmt.TheVariants as st
use Rattle.c_tree.specs.declared.stmt.External.TheVariants as ext
use Rattle.c_tree.specs.declared.height.Heights.{Heights}
use Rattle.c_tree.specs.declared.height.Tall.{Tall}
use Rattle.c_tree.specs.Heights as class
use Rattle.c_tree.specs.Heights.{none, join, raise, tall}
use Rattle.c_tree.specs.Begins.{expr_or, declarator_at, or_at}
use Rattle.c_tree.specs.Specs.{no_specs}
use Rattle.c_decl.specs.declared.kind.DeclKind.TheVariants as k
use Rattle.c_decl.specs.declared.kind.Mode.{Mode}
use Rattle.c_decl.specs.declared.marking.Marked.TheVariants.{OldStyle, ImplicitInt}
use Rattle.c_decl.specs.Tokens.{Token, tok, name}
use Rattle.c_decl.specs.State.{State, is_type, declares, enter, leave, leave_out_all, leave_out_if}
use Rattle.c_decl.specs.Marks.{control_of, jump_of}
use Rattle.c_decl.specs.Grammar.{Tree, Body, begins}
use Rattle.c_decl.specs.Input.{Input, Parser, and_then, after, head, here, next, left, sees, expect}
use Rattle.c_decl.specs.Entries.{Entry, phrase_of, word_comes, label_comes, type_name_at, body_comes, comma_then}
use Rattle.c_decl.specs.Statements as r
use Rattle.c_decl.proofs.Runs.{at, fine}
use Rattle.c_decl.proofs.Steady.{Fork, Steady, Passes, Told, told, taken, stays, bind, first, loosely, pure_steady, refuse_steady, skip_steady, expect_steady, name_steady, change_steady, pick, pick_passes, sees_first, keyed, steady_as, looped_steady, passes_goes, passes_on, parted_steady, some_steady, comma_then_steady, via, by_option, asks, peeks, placed, if_sees, if_eats, skips, changes}
use Rattle.c_decl.proofs.Looks.{state_first, word_first, body_first, some_first, defines_first}
use Rattle.c_decl.proofs.Parts.{Parts}
use Rattle.c_decl.proofs.LocalDeclarators.{specs, alias_taken}

-- what stands behind the name of a type
abbrev named_key : Option (List ℕ) → Bool → Bool
named_key None colon = false
named_key (Some n) colon = colon

item_key : Input → At × Option (List ℕ) × Bool
item_key i = (here i, type_name_at i.state (head i), named_key (type_name_at i.state (head i)) (sees m.Colon (next i)))

label_key : Input → At × Option CTokKind × Bool
label_key i = (here i, head i, label_comes i)

label_by_kind : (o : CTokKind) (p : At) (y : Token) (rest rest' : List Token) (S : State)
    → label_key (at (tok o p ∷ y ∷ rest) S) ≡ label_key (at (tok o p ∷ y ∷ rest') S)
unfolding label_key label_comes sees here head next
label_by_kind (c.Ident n) p y rest rest' S = refl
label_by_kind o p y rest rest' S = refl

item_second : (x y : Token) (rest rest' : List Token) (S : State) → item_key (at (x ∷ y ∷ rest) S) ≡ item_key (at (x ∷ y ∷ rest') S)
unfolding item_key sees here head next
item_second x y rest rest' S = refl

module _ (F : Fork) (mode : Mode) (part : (c : Entry) → Parser (Tall (Tree (phrase_of c)))) (room : Heights)
    (parts : Parts F part room) where
  -- ---- declarations

  init_or : (x : Tall Declaring) → Steady F false (r.init_or mode part room x)
  unfolding r.init_or r.initialized
  init_or x = if_eats m.Assign (via (r.initialized mode part room x) (bind parts.init λ y. pure_steady _))
      (pure_steady (tall (record { declarator = x.tree.tree; init = None }) x.height))

  init_declarator : (typed is_typedef : Bool) → Steady F false (r.init_declarator mode part room typed is_typedef)
  unfolding r.init_declarator
  init_declarator typed is_typedef = bind (parts.declarator k.Named typed) λ x. bind (change_steady (declares x.tree.name is_typedef))
      λ _. init_or x

  behind_specs : (x : Tall Specs) → Steady F false (λ i. cond (sees m.Semicolon i)
      (λ j. Ok (tall (record { specs = x.tree; declarators = [] }) x.height, j))
      (r.declared_list mode part room x) (after m.Semicolon i))
  unfolding r.declared_list
  behind_specs x = if_eats m.Semicolon (pure_steady (tall (record { specs = x.tree; declarators = [] }) x.height))
      (via (r.declared_list mode part room x)
      (bind (parted_steady (init_declarator x.tree.is_typed x.tree.is_typedef)) λ ys. bind (expect_steady m.Semicolon) λ _. pure_steady _))

  declaration : Steady F true (r.declaration mode part room)
  unfolding r.declaration
  declaration = first (specs F mode part room parts true) behind_specs

  -- ---- what statements have

  expr_before : (stop : Mark) → Steady F false (r.expr_before mode part room stop)
  unfolding r.expr_before
  expr_before stop = if_sees stop (pure_steady (tall None none)) (bind parts.comma λ x. pure_steady (tall (Some x.tree) x.height))

  test : Steady F false (r.test mode part room)
  unfolding r.test
  test = bind (expect_steady m.OpenParen) λ _. bind parts.comma λ x. bind (expect_steady m.CloseParen) λ _. pure_steady x

  for_head : Steady F false (r.for_head mode part room)
  unfolding r.for_head
  for_head = bind (expr_before m.Semicolon) λ x. bind (expect_steady m.Semicolon) λ _. bind (expr_before m.Semicolon) λ y.
      bind (expect_steady m.Semicolon) λ _. bind (expr_before m.CloseParen) λ z. pure_steady _

  semicolon : (x : Tall (Option Expr)) → Steady F true (λ i. and_then (expect m.Semicolon i)
      (λ _ j. Ok (tall (st.Expression (expr_or (here i) x.tree) x.tree) (raise class.statement x.height), j)))
  semicolon x = placed λ a. first (expect_steady m.Semicolon) λ _.
      pure_steady (tall (st.Expression (expr_or a x.tree) x.tree) (raise class.statement x.height))

  expressed : Steady F true (r.expressed mode part room)
  unfolding r.expressed
  expressed = bind (expr_before m.Semicolon) semicolon

  declare_next : (x : Tall Body) → Steady F true (r.declare_next mode part room x)
  unfolding r.declare_next
  declare_next x = first declaration λ y. pure_steady _

  alias_declared : (x : Tall Body) (n : List ℕ) (p : At) (rest : List Token) (S : State) → is_type S n ≡ true
      → Passes (length rest) (r.declare_next mode part room x (at (name p n ++ rest) S))
  unfolding r.declare_next r.declaration
  alias_declared x n p rest S is =
      passes_on (passes_on (alias_taken F mode part room parts true n p rest S is) λ y j. (behind_specs y).moves j) λ y j. fine stays

  -- ---- statements

  module _ (some : 0 < room.expression) where
    pub colon_rule : (a : At) (n : List ℕ) → Steady F true (r.colon_rule mode part room a n)
    unfolding r.colon_rule
    colon_rule a n = first (expect_steady m.Colon) λ _. bind (parts.statement some) λ x. pure_steady _

    label_next : (x : Tall Body) (a : At) (n : List ℕ) → Steady F true (r.label_next mode part room x a n)
    unfolding r.label_next
    label_next x a n = first (parts.behind_label some a n) λ y. pure_steady _

    other_item : (x : Bool × Tall Body) → Steady F true (r.other_item mode part room x)
    unfolding r.other_item r.do_next
    other_item x = asks word_comes word_first λ word. pick (word && not x.0) (declare_next x.1)
        (via (r.do_next mode part room x.1) (first (parts.statement some) λ y. pure_steady _))

    named_item : Bool × Tall Body → At → Option (List ℕ) → Bool → Parser (Bool × Tall Body)
    named_item x a None colon = r.other_item mode part room x
    named_item x a (Some n) colon = cond (x.0 || colon) (λ i. r.label_next mode part room x.1 a n (next i))
        (r.declare_next mode part room x.1)

    named_steady : (x : Bool × Tall Body) (a : At) (n : Option (List ℕ)) (colon : Bool) → Steady F true (named_item x a n colon)
    unfolding named_item
    named_steady x a None colon = other_item x
    named_steady x a (Some n) colon = pick (x.0 || colon) (first skip_steady λ _. label_next x.1 a n) (declare_next x.1)

    named_same : (x : Bool × Tall Body) (a : At) (n : Option (List ℕ)) (i : Input)
        → named_item x a n (named_key n (sees m.Colon (next i))) i ≡ r.item_by mode part room x a n i
    unfolding named_item r.typed_item
    named_same x a None i = refl
    named_same x a (Some n) i = refl

    item_on : Bool × Tall Body → At × Option (List ℕ) × Bool → Parser (Bool × Tall Body)
    item_on x k = named_item x k.0 k.1 k.2

    tells_type : (x : Bool × Tall Body) (n : List ℕ) (p : At) (S : State) (b : Bool) → is_type S n ≡ b
        → Told (tok (c.Ident n) p) S item_key (λ rest. Passes (length rest)
        (item_on x (item_key (at (name p n ++ rest) S)) (at (name p n ++ rest) S)))
    unfolding item_key item_on named_item here head next left
    tells_type x n p S true is = taken λ rest. rw is (pick_passes (x.0 || sees m.Colon (at rest S))
        (λ i. r.label_next mode part room x.1 p n (next i)) (r.declare_next mode part room x.1) _ _
        (passes_goes (at rest S) (omega arith) ((label_next x.1 p n).moves (at rest S))) (alias_declared x.1 n p rest S is))
    tells_type x n p S false is = told λ rest rest'. rw is refl

    tells_item : (x : Bool × Tall Body) (o : CTokKind) (p : At) (S : State)
        → Told (tok o p) S item_key (λ rest. Passes (length rest) (item_on x (item_key (at (tok o p ∷ rest) S)) (at (tok o p ∷ rest) S)))
    unfolding item_key here head
    tells_item x (c.Ident n) p S = tells_type x n p S (is_type S n) refl
    tells_item x o p S = told λ rest rest'. refl

    item : (x : Bool × Tall Body) → Steady F true (r.item mode part room x)
    unfolding r.item item_on item_key
    item x = steady_as _ (λ i. item_on x (item_key i) i) (λ i. named_same x (here i) (type_name_at i.state (head i)) i)
        (keyed item_key (item_on x) (λ k. named_steady x k.0 k.1 k.2) item_second (λ t S. tells_item x t.kind t.at S))

    pub braced : Steady F true (r.braced mode part room)
    unfolding r.braced
    braced = placed λ a. asks (λ i. i.state) state_first λ before. first (expect_steady m.OpenBrace) λ _.
        bind (looped_steady (λ _. body_comes) (r.item mode part room) (λ _. body_first) item
        (false, tall (record { declarations = []; statements = [] }) none)) λ x.
        placed λ b. bind (expect_steady m.CloseBrace) λ _.
        changes {a = tall (record { at = a; declarations = x.1.tree.declarations; statements = x.1.tree.statements; closing = b.number })
        (raise class.statement x.1.height)} (leave before)

    -- ---- a label or an expression: two tokens tell, and either way takes the name

    label_by : (a : At) (o : Option CTokKind) → Steady F true (r.label_by mode part room a o)
    label_by a (Some (c.Ident n)) = first skip_steady λ _. colon_rule a n
    label_by a (Some o) = refuse_steady
    label_by a None = refuse_steady

    other_statement : (a : At) (o : Option CTokKind) → Steady F true (r.control_or mode part room a o (control_of o))
    unfolding r.control_rule r.jump_
    other_statement a o = by_option (control_of o) (r.control_or mode part room a o)
        (by_option (jump_of o) (r.jump_or mode part room a) expressed λ how. skips (r.jump_ mode part room a how)
        (bind (expect_steady m.Semicolon) λ _. pure_steady _))
        λ how. skips (r.control_rule mode part room a how) (bind test λ x. bind (parts.statement some) λ y. pure_steady _)

    statement_by : (a : At) (o : Option CTokKind) → Steady F true (r.statement_by mode part room a o)
    unfolding r.compound r.case_ r.default_ r.if_ r.otherwise r.do_ r.for_ r.goto_ r.return_
    statement_by a (Some (c.Mark m.OpenBrace)) = first braced λ x. pure_steady _
    statement_by a (Some (c.Mark m.Case)) = skips (r.case_ mode part room a)
        (bind parts.conditional λ x. bind (expect_steady m.Colon) λ _. bind (parts.statement some) λ y. pure_steady _)
    statement_by a (Some (c.Mark m.Default)) = skips (r.default_ mode part room a)
        (bind (expect_steady m.Colon) λ _. bind (parts.statement some) λ x. pure_steady _)
    statement_by a (Some (c.Mark m.If)) = skips (r.if_ mode part room a) (bind test λ x. bind (parts.statement some) λ y.
        if_eats m.Else (via (r.otherwise mode part room a x y) (loosely (bind (parts.statement some) λ z. pure_steady _)))
        (pure_steady (tall (st.If a x.tree y.tree None) (raise class.statement (join x.height y.height)))))
    statement_by a (Some (c.Mark m.Do)) = skips (r.do_ mode part room a)
        (bind (parts.statement some) λ x. bind (expect_steady m.While) λ _. bind test λ y. bind (expect_steady m.Semicolon) λ _.
        pure_steady _)
    statement_by a (Some (c.Mark m.For)) = skips (r.for_ mode part room a)
        (bind (expect_steady m.OpenParen) λ _. bind for_head λ x. bind (expect_steady m.CloseParen) λ _. bind (parts.statement some) λ y.
        pure_steady _)
    statement_by a (Some (c.Mark m.Goto)) = skips (r.goto_ mode part room a)
        (peeks λ o. bind (name_steady o) λ n. bind (expect_steady m.Semicolon) λ _.
        pure_steady (tall (st.Goto a n) (raise class.statement none)))
    statement_by a (Some (c.Mark m.Return)) = skips (r.return_ mode part room a)
        (bind (expr_before m.Semicolon) λ x. bind (expect_steady m.Semicolon) λ _. pure_steady _)
    statement_by a (Some o) = other_statement a (Some o)
    statement_by a None = other_statement a None

    labelled : At × Option CTokKind × Bool → Parser (Tall Stmt)
    labelled k = cond k.2 (r.label_by mode part room k.0 k.1) (r.statement_by mode part room k.0 k.1)

    name_expressed : (n : List ℕ) (p : At) (rest : List Token) (S : State) → is_type S n ≡ false
        → Passes (length rest) (r.expressed mode part room (at (name p n ++ rest) S))
    unfolding r.expressed r.expr_before sees head
    name_expressed n p rest S is = passes_on (passes_on (parts.names n p rest S is some) λ x j. fine stays) λ x j. (semicolon x).moves j

    tells_name : (n : List ℕ) (p : At) (S : State) (b : Bool) → is_type S n ≡ b
        → Told (tok (c.Ident n) p) S label_key (λ rest. Passes (length rest)
        (labelled (label_key (at (name p n ++ rest) S)) (at (name p n ++ rest) S)))
    unfolding label_key labelled label_comes here head next left
    tells_name n p S true is = told λ rest rest'. rw is refl
    tells_name n p S false is = taken λ rest. pick_passes (is_type S n || sees m.Colon (at rest S))
        (λ i. r.colon_rule mode part room p n (next i)) (r.expressed mode part room) _ _
        (passes_goes (at rest S) (omega arith) ((colon_rule p n).moves (at rest S))) (name_expressed n p rest S is)

    tells_label : (o : CTokKind) (p : At) (S : State) → Told (tok o p) S label_key
        (λ rest. Passes (length rest) (labelled (label_key (at (tok o p ∷ rest) S)) (at (tok o p ∷ rest) S)))
    unfolding label_key label_comes here head
    tells_label (c.Ident n) p S = tells_name n p S (is_type S n) refl
    tells_label o p S = told λ rest rest'. refl

    pub statement_rule : Steady F true (r.statement_rule mode part room)
    unfolding r.statement_rule labelled label_key
    statement_rule = keyed label_key labelled (λ k. pick k.2 (label_by k.0 k.1) (statement_by k.0 k.1))
        (λ x y rest rest' S. label_by_kind x.kind x.at y rest rest' S) (λ x S. tells_label x.kind x.at S)

    -- ---- units

    definition : (x : Tall Specs) (y : Tall Declaring) (before : State) → Steady F false (r.definition mode part room x y before)
    unfolding r.definition r.old_declarations
    definition x y before = bind (via (r.old_declarations mode part room) (asks word_comes word_first λ more. pick more
        (bind (some_steady word_comes word_first declaration) λ xs. pure_steady (tall (Some xs.tree) xs.height))
        (pure_steady (tall None none)))) λ z.
        bind (parts.block some) λ b. bind (change_steady (leave before)) λ _.
        changes {a = tall (ext.Function (record { specs = x.tree; declarator = y.tree.tree; body = b.tree }))
        (join x.height (join y.height (join z.height b.height)))} (leave_out_if (is_some z.tree) OldStyle x.tree.at)

    declared_from : (x : Tall Specs) (y : Tall Declaring) → Steady F false (r.declared_from mode part room x y)
    unfolding r.declared_from
    declared_from x y = bind (init_or y) λ z. bind (looped_steady (λ _. sees m.Comma)
        (comma_then (r.init_declarator mode part room x.tree.is_typed x.tree.is_typedef)) (λ _. sees_first m.Comma)
        (comma_then_steady (init_declarator x.tree.is_typed x.tree.is_typedef)) _) λ zs. bind (expect_steady m.Semicolon) λ _. pure_steady _

    specified : Steady F true (r.specified mode part room)
    unfolding r.specified r.specified_from
    specified = first (specs F mode part room parts true) λ x. if_eats m.Semicolon
        (pure_steady (tall (ext.Declaration (record { specs = x.tree; declarators = [] })) x.height))
        (via (r.specified_from mode part room x) (bind (parts.declarator k.Named x.tree.is_typed) λ y.
        bind (change_steady (declares y.tree.name x.tree.is_typedef)) λ _.
        asks (λ i. i.state) state_first λ before. bind (change_steady (enter y.tree.params)) λ _. asks
        (λ i. sees m.OpenBrace i || word_comes i) defines_first λ defines.
        pick defines (definition x y before) (bind (change_steady (leave before)) λ _. declared_from x y)))

    implied_function : (x : Tall Declaring) → Steady F true (r.implied_function mode part room x)
    unfolding r.implied_function
    implied_function x = asks (λ i. i.state) state_first λ before. bind (change_steady (enter x.tree.params)) λ _.
        first (parts.block some) λ b. bind (change_steady (leave before)) λ _.
        changes {a = tall (ext.Function (record { specs = no_specs (begins b.tree.at x.tree); declarator = x.tree.tree; body = b.tree }))
        (join x.height b.height)}
        (leave_out_all ImplicitInt (begins b.tree.at x.tree))

    implied_declaration : (x : Tall Declaring) → Steady F true (r.implied_declaration mode part room x)
    unfolding r.implied_declaration
    implied_declaration x = bind (init_or x) λ y. placed λ a. first (expect_steady m.Semicolon) λ _.
        changes {a = tall (ext.Declaration (record {
          specs = no_specs
              (or_at a (declarator_at y.tree.declarator));
          declarators = y.tree ∷ [];
        })) y.height}
        (leave_out_all ImplicitInt (or_at a (declarator_at y.tree.declarator)))

    pub external : Steady F true (r.external mode part room)
    unfolding r.external r.implied
    external = asks word_comes word_first λ has_specs. pick has_specs specified (via (r.implied mode part room)
        (bind (parts.declarator k.Named false) λ x. bind (change_steady (declares x.tree.name false)) λ _. if_sees m.OpenBrace
        (implied_function x) (implied_declaration x)))

    pub unit : Steady F true (r.unit mode part room)
    unfolding r.unit
    unit = some_steady (λ i. nat_lt 0 (left i)) some_first external
