-- Expressions and initializers: what is read is derived, and what is refused can be ended.
use Rattle.std.proofs.Common.{append_assoc, ◌≡◌, ℕ, ◌+◌, ◌<◌, ◌≤◌, Bool, true, false, not, cond, List, [], ◌∷◌, ◌++◌, length, Option, Some, None, Ok, refl, ap, arith}
use Rattle.std.specs.Prelude.{nat_lt, ◌&&◌}
use Rattle.std.proofs.lemmas.Bool.{ltb-false, ltb-true}
use Rattle.c_tok.specs.declared.mark.Mark.TheVariants as m
use Rattle.c_tok.specs.declared.token.CTokKind.{CTokKind}
use Rattle.c_tok.specs.declared.token.CTokKind.TheVariants as c
use Rattle.c_tree.specs.declared.at.At.{At}
use Rattle.c_tree.specs.declared.operator.Access.{Access}
use Rattle.c_tree.specs.declared.operator.Infix.{Infix}
use Rattle.c_tree.specs.declared.operator.Step.{Step}
use Rattle.c_tree.specs.declared.operator.UnaryOp.{UnaryOp}
use Rattle.c_tree.specs.declared.expr.Expr.{Expr, Expr-F, out-Expr}
use Rattle.c_tree.specs.declared.expr.Expr.TheVariants as e
use Rattle.c_tree.specs.declared.declaration.Init.{Init}
use Rattle.c_tree.specs.declared.declaration.Init.TheVariants as init_
use Rattle.c_tree.specs.Begins.{expr_at}
use Rattle.c_type.specs.declared.operator.BinOp.{BinOp}
use Rattle.c_tree.specs.declared.expr.Slot.{Slot}
use Rattle.c_tree.specs.declared.expr.Enumerator.{Enumerator}
use Rattle.c_tree.specs.declared.expr.Spec.{Spec}
use Rattle.c_tree.specs.declared.expr.Specs.{Specs}
use Rattle.c_tree.specs.declared.expr.Declarator.{Declarator}
use Rattle.c_tree.specs.declared.expr.Member.{Member}
use Rattle.c_tree.specs.declared.expr.Param.{Param}
use Rattle.c_tree.specs.declared.expr.TypeName.{TypeName}
use Rattle.c_tree.specs.declared.height.Heights.{Heights}
use Rattle.c_tree.specs.declared.height.Tall.{Tall}
use Rattle.c_tree.specs.Heights as class
use Rattle.c_tree.specs.Heights.{raise, tall}
use Rattle.c_decl.specs.declared.kind.Mode.{Mode}
use Rattle.c_decl.specs.Tokens.{Token, tok, mark, name, nowhere, head_of}
use Rattle.c_decl.specs.State.{State, is_type}
use Rattle.c_decl.specs.Marks.{tight, infix_of, assign_of, unary_of, step_of, access_of}
use Rattle.c_decl.specs.Grammar as g
use Rattle.c_decl.specs.Grammar.{Phrase, Tree, Derives}
use Rattle.c_decl.specs.Input.{Input, Parser, and_then, head, next, left, sees, expect, refuse}
use Rattle.c_decl.specs.Entries as en
use Rattle.c_decl.specs.Entries.{Entry, phrase_of}
use Rattle.c_decl.proofs.Tests.{clash, not_true, not_false, and_left}
use Rattle.c_decl.proofs.Runs.{Needs, at, refused}
use Rattle.c_decl.proofs.Took.{halts, Says, Of, Goes, Moves, Reads, Open, opened, closed, can, done, refuses, moves, loop_to, here_skip, here_eat_then, fits_then, token, skip_mark, mark_then, eat_then, ending_then, by_token, name_then, choose, then_, loop, as_}
use Rattle.c_decl.proofs.SoundDeclarators as sd
use Rattle.c_decl.specs.Expressions as xr
use Rattle.c_decl.proofs.Got.{Parts, part_reads, parted_reads, parted_before_reads, nought, zero_}

-- ---- how tightly operators join

goes_on_is : (n : ℕ) (i : Input) → en.goes_on n i ≡ true → n ≤ tight (head i)
unfolding en.goes_on
goes_on_is n i on = ltb-false _ _ (not_true (nat_lt (tight (head i)) n) on)

goes_on_not : (n : ℕ) (i : Input) → en.goes_on n i ≡ false → tight (head i) < n
unfolding en.goes_on
goes_on_not n i off = ltb-true _ _ (not_false (nat_lt (tight (head i)) n) off)

goes_needs : {A : Type 0} (n : ℕ) → 0 < n → Needs {A = A} (λ _. en.goes_on n)
unfolding left head
goes_needs n some _ i on = by i.rest (goes_on_is n i on) where
  by : (rest : List Token) → n ≤ tight (head_of rest) → 0 < length rest
  by [] le = omega arith
  by (t ∷ rest) le = omega arith

-- ---- what may stand left of `=` is unary by its top node

abbrev AsUnary : (mode : Mode) (p : Phrase) → State → Heights → List Token → Tree p → State → Type 0
AsUnary mode g.cast S h ts x T = en.is_unary x ≡ true → Derives mode g.unary S h ts x T
AsUnary mode (g.binary n) S h ts x T = en.is_unary x ≡ true → Derives mode g.unary S h ts x T
AsUnary mode g.conditional S h ts x T = en.is_unary x ≡ true → Derives mode g.unary S h ts x T
AsUnary mode _ S h ts x T = Unit {0}

at_top : (x : Expr-F Declarator Expr Slot Spec Enumerator Member Param Specs TypeName) (y : Expr) → out-Expr y ≡ x
    → en.is_unary y ≡ en.is_unary_at x
unfolding en.is_unary
at_top x y is = ap en.is_unary_at is

as_unary : {mode : Mode} {p : Phrase} {S T : State} {h : Heights} {ts : List Token} {x : Tree p} → Derives mode p S h ts x T
    → AsUnary mode p S h ts x T
as_unary (g.uncast f) = λ _. f
as_unary (g.converted a b {to = to} {x = x} f h) = λ is. clash _ is (at_top _ _ (e.outs-Cast a to x))
as_unary (g.operand f) = as_unary f
as_unary (g.operated a o {op = op} {x = x} {y = y} known tightly f h) = λ is. clash _ is (at_top _ _ (e.outs-Binary (expr_at x) op x y))
as_unary (g.tested f) = as_unary f
as_unary (g.chosen a b {x = x} {y = y} {z = z} f h h') = λ is. clash _ is (at_top _ _ (e.outs-Conditional (expr_at x) x y z))
as_unary _ = tt

unary_of_tree : {mode : Mode} {S T : State} {h : Heights} {ts : List Token} {x : Expr} → Derives mode g.conditional S h ts x T
    → en.is_unary x ≡ true → Derives mode g.unary S h ts x T
unary_of_tree f = as_unary f

opens_is : (i : Input) → en.opens_type i ≡ true → sees m.OpenParen i ≡ true
unfolding en.opens_type
opens_is i on = by (sees m.OpenParen i) (en.word_comes (next i)) on where
  by : (a b : Bool) → cond a b false ≡ true → a ≡ true
  by true b e = refl
  by false b e = absurd cc

module _ (mode : Mode) (part : (c : Entry) → Parser (Tall (Tree (phrase_of c)))) (room : Heights) (parts : Parts mode part) where
  -- ---- primary and postfix

  least_primary : {S : State} → Open (Of mode g.primary S) []
  least_primary {S = S} = opened (tok (c.Constant zero_) nowhere ∷ []) (can (tall _ _) S nought refl)

  name_goes : (S : State) (a : At) (n : List ℕ) (rest : List Token) (b : Bool) → is_type S n ≡ b
      → Goes (Of mode g.primary S) [] (at (name a n ++ rest) S) (xr.name_or mode part room a n b (at (name a n ++ rest) S))
  unfolding next
  name_goes S a n rest true is = refuses least_primary
  name_goes S a n rest false is = token (done (g.named is) refl)

  primary_kind : (S : State) (o : CTokKind) (a : At) (rest : List Token)
      → Goes (Of mode g.primary S) [] (at (tok o a ∷ rest) S) (xr.primary_by mode part room a (Some o) (at (tok o a ∷ rest) S))
  unfolding next xr.parenthesized
  primary_kind S (c.Ident n) a rest = name_goes S a n rest (is_type S n) refl
  primary_kind S (c.Constant v) a rest = token (done g.constant refl)
  primary_kind S (c.Text bytes) a rest = token (done g.text refl)
  primary_kind S (c.Mark m.OpenParen) a rest = token (then_ (part_reads parts en.comma (at rest S)) λ x k us f.
      mark_then m.CloseParen _ λ b more. done (g.paren a b f) refl)
  primary_kind S o a rest = refuses least_primary

  primary_reads : (i : Input) → Reads mode g.primary i (xr.primary mode part room i)
  unfolding xr.primary
  primary_reads i = by_token (xr.primary_by mode part room) (refuses least_primary) (λ o a rest. primary_kind i.state o a rest)

  arguments_reads : (i : Input) → Reads mode g.arguments i (xr.arguments mode part room i)
  unfolding xr.arguments
  arguments_reads i = choose (sees m.CloseParen i) _ _ (λ _. done g.no_arguments refl)
      (λ _. as_ (λ _ _ _ f. g.some_arguments f) (parted_reads {mode = mode} {p = g.assignment} (part en.assignment)
      (part_reads parts en.assignment) i))

  step_goes : {S T : State} (x : Tall Expr) (us : List Token) → Derives mode g.postfix S x.height us x.tree T
      → (o : CTokKind) (a : At) (rest : List Token) (found : Option Step) → step_of (Some o) ≡ found
      → Goes (Of mode g.postfix S) us (at (tok o a ∷ rest) T) (xr.step_or mode part room x found (at (tok o a ∷ rest) T))
  unfolding next xr.stepped
  step_goes {T = T} x us f o a rest None is = refuses (closed x T f)
  step_goes x us f o a rest (Some how) is = token (fits_then room x.height _ λ more. done (g.stepped a o is f) refl)

  access_goes : {S T : State} (x : Tall Expr) (us : List Token) → Derives mode g.postfix S x.height us x.tree T
      → (o : CTokKind) (a : At) (rest : List Token) (found : Option Access) → access_of (Some o) ≡ found
      → Goes (Of mode g.postfix S) us (at (tok o a ∷ rest) T) (xr.access_or mode part room x (Some o) found (at (tok o a ∷ rest) T))
  unfolding next xr.reached
  access_goes x us f o a rest None is = step_goes x us f o a rest (step_of (Some o)) refl
  access_goes x us f o a rest (Some how) is = token (fits_then room x.height _ λ more. name_then _ λ b n more.
      done (g.reached a b o n is f) refl)

  suffix_kind : {S T : State} (x : Tall Expr) (us : List Token) → Derives mode g.postfix S x.height us x.tree T
      → (o : CTokKind) (a : At) (rest : List Token)
      → Goes (Of mode g.postfix S) us (at (tok o a ∷ rest) T) (xr.suffix_by mode part room x (Some o) (at (tok o a ∷ rest) T))
  unfolding next xr.subscript xr.call
  suffix_kind x us f (c.Mark m.OpenBracket) a rest = token (fits_then room x.height _ λ more.
      then_ (part_reads parts en.comma (at more _)) λ y k vs h.
      mark_then m.CloseBracket _ λ b rest. done (g.subscript a b f h) refl)
  suffix_kind x us f (c.Mark m.OpenParen) a rest = token (fits_then room x.height _ λ more.
      then_ (arguments_reads (at more _)) λ y k vs h.
      mark_then m.CloseParen _ λ b rest. done (g.call a b f h) refl)
  suffix_kind x us f o a rest = access_goes x us f o a rest (access_of (Some o)) refl

  postfix_reads : (i : Input) → Reads mode g.postfix i (xr.postfix mode part room i)
  unfolding xr.postfix xr.suffixed
  postfix_reads i = then_ (primary_reads i) λ x j us f.
      loop (λ y k vs _ h. by_token (λ _ next. xr.suffix_by mode part room y next) (refuses (closed y k.state h))
      (λ o a rest. suffix_kind y vs h o a rest)) x j us (g.simple f)

  -- ---- unary and cast

  value_goes : (S : State) (a : At) (rest : List Token)
      → Goes (Of mode g.unary S) (mark a m.Sizeof) (at rest S) (xr.value_or mode part room a (at rest S))
  unfolding xr.value_or xr.measured_value
  value_goes S a rest = choose (sees m.OpenParen (at rest S) && not (nat_lt 0 room.expression)) _ _
      (λ on. skip_mark m.OpenParen refuse (and_left (sees m.OpenParen (at rest S)) _ on) λ b more.
      refuses (opened (mark nowhere m.Int ++ mark nowhere m.CloseParen) (can (tall _ _) _
      (g.measured_type a b nowhere (g.type_alone (g.specified (g.a_spec (g.word nowhere (c.Mark m.Int) refl refl)))))
      (simp append_assoc))))
      (λ _. then_ (part_reads parts en.unary (at rest S)) λ x k us f. done (g.measured a f) refl)

  measured_goes : (S : State) (a : At) (rest : List Token) → Goes (Of mode g.unary S) (mark a m.Sizeof) (at rest S)
      (xr.measured mode part room a (at rest S))
  unfolding xr.measured xr.measured_type
  measured_goes S a rest = choose (en.opens_type (at rest S)) _ _
      (λ on. skip_mark m.OpenParen (xr.measured_type mode part room a) (opens_is (at rest S) on) λ b more.
      then_ (sd.type_name_reads mode part room parts (at more S)) λ x k us f. mark_then m.CloseParen _ λ b' rest.
      done (g.measured_type a b b' f) refl)
      (λ _. value_goes S a rest)

  unary_goes : (S : State) (o : CTokKind) (a : At) (rest : List Token) (found : Option UnaryOp) → unary_of (Some o) ≡ found
      → Goes (Of mode g.unary S) [] (at (tok o a ∷ rest) S) (xr.unary_or mode part room a found (at (tok o a ∷ rest) S))
  unfolding next xr.prefixed
  unary_goes S o a rest None is = as_ (λ _ _ _ f. g.bare f) (postfix_reads (at (tok o a ∷ rest) S))
  unary_goes S o a rest (Some op) is = token (then_ (part_reads parts en.cast (at rest S)) λ x k us f. done (g.prefixed a o is f) refl)

  prefix_goes : (S : State) (o : CTokKind) (a : At) (rest : List Token) (found : Option Step) → step_of (Some o) ≡ found
      → Goes (Of mode g.unary S) [] (at (tok o a ∷ rest) S) (xr.prefix_or mode part room a (Some o) found (at (tok o a ∷ rest) S))
  unfolding next xr.prefix_step
  prefix_goes S o a rest None is = unary_goes S o a rest (unary_of (Some o)) refl
  prefix_goes S o a rest (Some how) is = token (then_ (part_reads parts en.unary (at rest S)) λ x k us f. done (g.step a o is f) refl)

  unary_kind : (S : State) (o : CTokKind) (a : At) (rest : List Token)
      → Goes (Of mode g.unary S) [] (at (tok o a ∷ rest) S) (xr.unary_by mode part room a (Some o) (at (tok o a ∷ rest) S))
  unfolding next
  unary_kind S (c.Mark m.Sizeof) a rest = token (measured_goes S a rest)
  unary_kind S o a rest = prefix_goes S o a rest (step_of (Some o)) refl

  pub unary_reads : (i : Input) → Reads mode g.unary i (xr.unary_rule mode part room i)
  unfolding xr.unary_rule
  unary_reads i = by_token (xr.unary_by mode part room) (as_ (λ _ _ _ f. g.bare f) (postfix_reads (at [] i.state)))
      (λ o a rest. unary_kind i.state o a rest)

  pub cast_reads : (i : Input) → Reads mode g.cast i (xr.cast_rule mode part room i)
  unfolding xr.cast_rule xr.converted
  cast_reads i = choose (en.opens_type i) _ _
      (λ on. here_skip m.OpenParen (xr.converted mode part room) (opens_is i on) λ a rest.
      then_ (sd.type_name_reads mode part room parts (at rest i.state)) λ x k us f. mark_then m.CloseParen _ λ b more.
      then_ (part_reads parts en.cast (at more k.state)) λ y l vs h. done (g.converted a b f h) refl)
      (λ _. as_ (λ _ _ _ f. g.uncast f) (unary_reads i))

  -- ---- operators between operands

  -- Between two operators: how tight the last one was doesn't keep the next one from standing after it.
  abbrev Climbs : ℕ → State → Says (Tall Expr)
  Climbs n S x us k = Derives mode (g.binary n) S x.height us x.tree k.state
      × (n ≤ tight (head k) → Derives mode (g.binary (tight (head k))) S x.height us x.tree k.state)

  operand_moves : (n : ℕ) → 0 < n → {S T : State} (x : Tall Expr) (us : List Token) (o : CTokKind) (a : At) (rest : List Token)
      → Climbs n S x us (at (tok o a ∷ rest) T) → n ≤ tight (Some o)
      → (found : Option Infix) → infix_of (Some o) ≡ found → Moves (Climbs n S) us (at (tok o a ∷ rest) T)
      (xr.operand mode part room x (tight (Some o)) found (at (tok o a ∷ rest) T))
  unfolding next head xr.operated
  operand_moves n some {T = T} x us o a rest f on None is = refused (halts (closed x T (f.0, λ le. absurd (omega arith))))
  operand_moves n some {T = T} x us o a rest f on (Some op) is =
      moves (fits_then room x.height _ λ more. then_ (parts (en.binary (tight (Some o))) (at more T)) λ y k vs h.
      done (
        g.operated a o is on (f.1 on) h.0,
        λ _. g.operated a o is (let less : tight (head k) < tight (Some o) + 1 = h.1 in
            omega arith) (f.1 on) h.0,
      ) refl)

  operation_moves : (n : ℕ) → 0 < n → {S : State} (x : Tall Expr) (T : State) (rest us : List Token) → en.goes_on n (at rest T) ≡ true
      → Climbs n S x us (at rest T)
      → Moves (Climbs n S) us (at rest T) (xr.operation mode part room x (at rest T))
  unfolding xr.operation head
  operation_moves n some x T [] us on f = absurd (let le = goes_on_is n (at [] T) on in omega arith)
  operation_moves n some x T (t ∷ rest) us on f = operand_moves n some x us t.kind t.at rest f (goes_on_is n (at (t ∷ rest) T) on)
      (infix_of (Some t.kind)) refl

  abbrev Ended : ℕ → State → Says (Tall Expr)
  Ended n S x us k = Derives mode (g.binary n) S x.height us x.tree k.state × (tight (head k) < n)

  pub binary_reads : (n : ℕ) → 0 < n → (i : Input) → Goes (Ended n i.state) [] i (xr.binary_rule mode part room n i)
  unfolding xr.binary_rule
  binary_reads n some i = then_ (cast_reads i) λ x j us f.
      loop_to {D = Climbs n i.state} (λ _. en.goes_on n) (goes_needs n some) (xr.operation mode part room)
      (λ y k vs on h. operation_moves n some y k.state k.rest vs on h)
      (λ y vs k h off. (h.0, goes_on_not n k off)) x j us (g.operand f, λ _. g.operand f)

  -- ---- `?`, `=` and `,`

  pub conditional_reads : (i : Input) → Reads mode g.conditional i (xr.conditional_rule mode part room i)
  unfolding xr.conditional_rule xr.chosen
  conditional_reads i = then_ (binary_reads 4 (omega arith) i) λ x j us f.
      eat_then m.Question (λ found. cond {A = Parser (Tall Expr)} found (xr.chosen mode part room x) (λ l. Ok (x, l)))
      (λ a rest. fits_then room x.height _ λ more. then_ (part_reads parts en.comma (at more j.state)) λ y k vs h.
      mark_then m.Colon _ λ b rest. then_ (part_reads parts en.conditional (at rest k.state)) λ z l ws h'.
      done (g.chosen a b f.0 h h') refl)
      (λ _. done (g.tested f.0) refl)

  assign_goes : {S T : State} (x : Tall Expr) (us : List Token) → Derives mode g.conditional S x.height us x.tree T
      → Derives mode g.unary S x.height us x.tree T
      → (o : CTokKind) (a : At) (rest : List Token) (found : Option (Option BinOp)) → assign_of (Some o) ≡ found
      → Goes (Of mode g.assignment S) us (at (tok o a ∷ rest) T) (xr.assign_by mode part room x found (at (tok o a ∷ rest) T))
  unfolding next xr.assigned
  assign_goes x us f h o a rest None is = done (g.valued f) refl
  assign_goes x us f h o a rest (Some op) is = token (fits_then room x.height _ λ more.
      then_ (part_reads parts en.assignment (at more _)) λ y k vs h'. done (g.assigned a o is h h') refl)

  pub assignment_reads : (i : Input) → Reads mode g.assignment i (xr.assignment_rule mode part room i)
  unfolding xr.assignment_rule xr.assign_or
  assignment_reads i = then_ (conditional_reads i) λ x j us f. choose (en.is_unary x.tree) _ _
      (λ on. by_token (λ _ next. xr.assign_by mode part room x (assign_of next)) (done (g.valued f) refl)
      (λ o a rest. assign_goes x us f (unary_of_tree f on) o a rest (assign_of (Some o)) refl))
      (λ _. done (g.valued f) refl)

  pub comma_reads : (i : Input) → Reads mode g.comma i (xr.comma_rule mode part room i)
  unfolding xr.comma_rule xr.comma_next xr.joined
  comma_reads i = then_ (assignment_reads i) λ x j us f.
      loop (λ y k vs on h. skip_mark m.Comma (xr.joined mode part room y) on λ a rest. fits_then room y.height _ λ more.
      then_ (part_reads parts en.assignment (at more k.state)) λ z l ws h'. done (g.joined a h h') refl)
      x j us (g.alone f)

  -- ---- initializers

  pub init_reads : (i : Input) → Reads mode g.init i (xr.init_rule mode part room i)
  unfolding xr.init_rule xr.init_value xr.braces
  init_reads i = here_eat_then m.OpenBrace (λ a opens. cond {A = Parser (Tall Init)} opens (xr.braces mode part room a)
      (xr.init_value mode part room))
      (λ a rest. then_ (parted_before_reads m.CloseBrace _ (part_reads parts en.init) (at rest i.state)) λ xs k us f.
      ending_then (λ comma_ends j. and_then (expect m.CloseBrace j)
      (λ _ l. Ok (tall (init_.Braces a xs.tree comma_ends) (raise class.initializer xs.height), l))) λ comma_ends b more.
      mark_then m.CloseBrace _ λ b' rest. done (g.braces a b b' comma_ends f) refl)
      (λ _. then_ (part_reads parts en.assignment i) λ x k us f. done (g.value f) refl)
