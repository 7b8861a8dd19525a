-- Expressions and initializers are read alike as far as a token.
use Rattle.std.proofs.Common.{◌≡◌, ℕ, Bool, true, false, not, cond, List, [], ◌∷◌, ◌++◌, length, Option, Some, None, Ok, Err, refl, arith}
use Rattle.std.specs.Prelude.{◌&&◌, nat_lt}
use Rattle.std.proofs.lemmas.Bool.{ltb-true}
use Rattle.c_tok.specs.declared.mark.Mark.TheVariants as m
use Rattle.c_tok.specs.declared.token.CTokKind.{CTokKind}
use Rattle.c_tok.specs.declared.token.CTokKind.TheVariants as c
use Rattle.c_tree.specs.declared.at.At.{At}
use Rattle.c_tree.specs.declared.expr.Expr.{Expr}
use Rattle.c_tree.specs.declared.expr.Expr.TheVariants as e
use Rattle.c_tree.specs.declared.declaration.Init.TheVariants as i
use Rattle.c_tree.specs.declared.height.Heights.{Heights}
use Rattle.c_tree.specs.declared.height.Tall.{Tall}
use Rattle.c_tree.specs.Heights as class
use Rattle.c_tree.specs.Heights.{none, raise, tall}
use Rattle.c_tree.specs.Begins.{expr_at}
use Rattle.c_decl.specs.declared.kind.Mode.{Mode}
use Rattle.c_decl.specs.Tokens.{Token, tok, name, mark, same_mark}
use Rattle.c_decl.specs.State.{State, is_type}
use Rattle.c_decl.specs.Marks.{tight, infix_of, assign_of, unary_of, step_of, access_of}
use Rattle.c_decl.specs.Grammar.{Tree}
use Rattle.c_decl.specs.Input.{Input, Parser, after, head, here, next, left, sees, refusal, looped}
use Rattle.c_decl.specs.Entries.{Entry, phrase_of, is_unary, goes_on, opens_type, word_comes, spec_comes}
use Rattle.c_decl.specs.Expressions as r
use Rattle.c_decl.proofs.Runs.{at, fine, refused}
use Rattle.c_decl.proofs.Steady.{Fork, Steady, Passes, Told, told, taken, stays, bind, pure_steady, refuse_steady, skip_steady, expect_steady, name_steady, pick, pick_passes, sees_first, fits_steady, keyed, looped_steady, passes_goes, passes_on, listed, parted_steady, via, by_bool, by_option, asks, peeks, placed, if_sees, if_eats, skips, skip_pure}
use Rattle.c_decl.proofs.Looks.{goes_first}
use Rattle.c_decl.proofs.Parts.{Parts}
use Rattle.c_decl.proofs.LocalDeclarators.{type_name}

opens_second : (x y : Token) (rest rest' : List Token) (S : State) → opens_type (at (x ∷ y ∷ rest) S) ≡ opens_type (at (x ∷ y ∷ rest') S)
unfolding opens_type word_comes spec_comes sees head next
opens_second x y rest rest' S = refl

cast_key : Input → At × Bool
cast_key i = (here i, opens_type i)

cast_second : (x y : Token) (rest rest' : List Token) (S : State) → cast_key (at (x ∷ y ∷ rest) S) ≡ cast_key (at (x ∷ y ∷ rest') S)
unfolding cast_key here opens_type word_comes spec_comes sees head next
cast_second x y rest rest' S = refl

module _ (F : Fork) (mode : Mode) (part : (c : Entry) → Parser (Tall (Tree (phrase_of c)))) (room : Heights)
    (parts : Parts F part room) where
  -- ---- primary and postfix expressions

  parenthesized : (a : At) → Steady F false (r.parenthesized mode part room a)
  unfolding r.parenthesized
  parenthesized a = bind parts.comma λ x. bind (expect_steady m.CloseParen) λ _. pure_steady _

  primary : Steady F false (r.primary mode part room)
  unfolding r.primary
  primary = placed λ a. peeks λ o. by_kind a o where
    by_kind : (a : At) (o : Option CTokKind) → Steady F false (r.primary_by mode part room a o)
    by_kind a (Some (c.Ident n)) = asks (λ i. is_type i.state n) (λ _ _ _ _. refl) λ b.
        by_bool b (r.name_or mode part room a n) refuse_steady skip_pure
    by_kind a (Some (c.Constant v)) = skip_pure
    by_kind a (Some (c.Text bytes)) = skip_pure
    by_kind a (Some (c.Mark m.OpenParen)) = bind skip_steady λ _. parenthesized a
    by_kind a (Some o) = refuse_steady
    by_kind a None = refuse_steady

  suffixed : (x : Tall Expr) → Steady F true (r.suffixed mode part room x)
  unfolding r.suffixed r.subscript r.call r.arguments r.reached r.stepped
  suffixed x = peeks λ o. by_kind o where
    arguments : Steady F false (r.arguments mode part room)
    arguments = if_sees m.CloseParen (pure_steady (tall [] none)) (parted_steady parts.assignment)

    other : (o : Option CTokKind) → Steady F true (r.access_or mode part room x o (access_of o))
    other o = by_option (access_of o) (r.access_or mode part room x o)
        (by_option (step_of o) (r.step_or mode part room x) refuse_steady
        λ how. skips (r.stepped mode part room x how) (bind (fits_steady room x.height) λ _. pure_steady _))
        λ how. skips (r.reached mode part room x how) (bind (fits_steady room x.height) λ _. peeks λ o. bind (name_steady o)
        λ n. pure_steady (tall (e.Member (expr_at x.tree) how x.tree n) (raise class.expression x.height)))

    by_kind : (o : Option CTokKind) → Steady F true (r.suffix_by mode part room x o)
    by_kind (Some (c.Mark m.OpenBracket)) = skips (r.subscript mode part room x)
        (bind (fits_steady room x.height) λ _. bind parts.comma λ y. bind (expect_steady m.CloseBracket) λ _. pure_steady _)
    by_kind (Some (c.Mark m.OpenParen)) = skips (r.call mode part room x)
        (bind (fits_steady room x.height) λ _. bind arguments λ ys. bind (expect_steady m.CloseParen) λ _. pure_steady _)
    by_kind (Some o) = other (Some o)
    by_kind None = other None

  suffixes : (x : Tall Expr) → Steady F false (looped (λ _. goes_on 14) (r.suffixed mode part room) x)
  suffixes x = looped_steady (λ _. goes_on 14) (r.suffixed mode part room) (λ _. goes_first 14) suffixed x

  -- ---- unary expressions and casts: two tokens tell, and either way takes the parenthesis

  measured_type : (a : At) → Steady F false (r.measured_type mode part room a)
  unfolding r.measured_type
  measured_type a = bind (type_name F mode part room parts) λ x. bind (expect_steady m.CloseParen) λ _. pure_steady _

  measured_value : (a : At) → Steady F false (r.measured_value mode part room a)
  unfolding r.measured_value
  measured_value a = bind parts.unary λ x. pure_steady _

  value_or : (a : At) → Steady F false (r.value_or mode part room a)
  unfolding r.value_or
  value_or a = asks (sees m.OpenParen) (sees_first m.OpenParen) λ opens. pick (opens && not (nat_lt 0 room.expression))
      (bind skip_steady λ _. refuse_steady) (measured_value a)

  measured_by : At → Bool → Parser (Tall Expr)
  measured_by a b = cond b (λ i. r.measured_type mode part room a (next i)) (r.value_or mode part room a)

  -- with no room the parenthesis is taken all the same
  value_passes : (a p : At) (rest : List Token) (S : State) (b : Bool) → nat_lt 0 room.expression ≡ b
      → Passes (length rest) (cond {A = Parser (Tall Expr)} (not b) (λ i. Err (refusal (next i))) (r.measured_value mode part room a)
      (at (mark p m.OpenParen ++ rest) S))
  unfolding refusal left next r.measured_value
  value_passes a p rest S false off = refused (omega arith)
  value_passes a p rest S true on = passes_on (parts.parens p rest S (ltb-true 0 _ on)) λ x j. fine stays

  tells_measured : (a : At) (o : CTokKind) (p : At) (S : State)
      → Told (tok o p) S opens_type (λ rest. Passes (length rest) (measured_by a (opens_type (at (tok o p ∷ rest) S))
      (at (tok o p ∷ rest) S)))
  unfolding opens_type sees head same_mark measured_by next left r.value_or
  tells_measured a (c.Mark m.OpenParen) p S = taken λ rest. pick_passes (word_comes (at rest S))
      (λ i. r.measured_type mode part room a (next i)) (r.value_or mode part room a) _ _
      (passes_goes (at rest S) (omega arith) ((measured_type a).moves (at rest S))) (value_passes a p rest S _ refl)
  tells_measured a o p S = told λ rest rest'. refl

  measured : (a : At) → Steady F false (r.measured mode part room a)
  unfolding r.measured measured_by
  measured a = keyed opens_type (measured_by a) (λ b. pick b (bind skip_steady λ _. measured_type a) (value_or a)) opens_second
      (λ x S. tells_measured a x.kind x.at S)

  pub unary_rule : Steady F false (r.unary_rule mode part room)
  unfolding r.unary_rule r.prefix_step r.prefixed r.postfix
  unary_rule = placed λ a. peeks λ o. by_kind a o where
    other : (a : At) (o : Option CTokKind) → Steady F false (r.prefix_or mode part room a o (step_of o))
    other a o = by_option (step_of o) (r.prefix_or mode part room a o)
        (by_option (unary_of o) (r.unary_or mode part room a) (bind primary suffixes) λ op. skips (r.prefixed mode part room a op)
        (bind parts.cast λ x. pure_steady _))
        λ how. skips (r.prefix_step mode part room a how) (bind parts.unary λ x. pure_steady _)

    by_kind : (a : At) (o : Option CTokKind) → Steady F false (r.unary_by mode part room a o)
    by_kind a (Some (c.Mark m.Sizeof)) = bind skip_steady λ _. measured a
    by_kind a (Some o) = other a (Some o)
    by_kind a None = other a None

  -- a parenthesis is taken
  pub paren_taken : (p : At) (rest : List Token) (S : State) → Passes (length rest)
      (r.unary_rule mode part room (at (mark p m.OpenParen ++ rest) S))
  unfolding r.unary_rule r.postfix r.primary here head next left
  paren_taken p rest S = passes_on (passes_goes (at rest S) (omega arith) ((parenthesized p).moves (at rest S))) λ x j. (suffixes x).moves j

  converted : (a : At) → Steady F false (r.converted mode part room a)
  unfolding r.converted
  converted a = bind (type_name F mode part room parts) λ x. bind (expect_steady m.CloseParen) λ _. bind parts.cast λ y. pure_steady _

  cast_by : At × Bool → Parser (Tall Expr)
  cast_by k = cond k.1 (λ i. r.converted mode part room k.0 (next i)) (r.unary_rule mode part room)

  tells_cast : (o : CTokKind) (p : At) (S : State)
      → Told (tok o p) S cast_key (λ rest. Passes (length rest) (cast_by (cast_key (at (tok o p ∷ rest) S)) (at (tok o p ∷ rest) S)))
  unfolding cast_key here opens_type sees head same_mark cast_by next left
  tells_cast (c.Mark m.OpenParen) p S = taken λ rest. pick_passes (word_comes (at rest S))
      (λ i. r.converted mode part room p (next i)) (r.unary_rule mode part room) _ _
      (passes_goes (at rest S) (omega arith) ((converted p).moves (at rest S))) (paren_taken p rest S)
  tells_cast o p S = told λ rest rest'. refl

  pub cast_rule : Steady F false (r.cast_rule mode part room)
  unfolding r.cast_rule cast_by cast_key
  cast_rule = keyed cast_key cast_by (λ k. pick k.1 (bind skip_steady λ _. converted k.0) unary_rule) cast_second
      (λ x S. tells_cast x.kind x.at S)

  -- ---- operators between operands

  operation : (x : Tall Expr) → Steady F true (r.operation mode part room x)
  unfolding r.operation r.operated
  operation x = peeks λ o. by_option (infix_of o) (r.operand mode part room x (tight o)) refuse_steady
      λ op. skips (r.operated mode part room x (tight o) op) (bind (fits_steady room x.height) λ _. bind (parts.binary (tight o)) λ y.
      pure_steady _)

  operations : (n : ℕ) (x : Tall Expr) → Steady F false (looped (λ _. goes_on n) (r.operation mode part room) x)
  operations n x = looped_steady (λ _. goes_on n) (r.operation mode part room) (λ _. goes_first n) operation x

  pub binary_rule : (n : ℕ) → Steady F false (r.binary_rule mode part room n)
  unfolding r.binary_rule
  binary_rule n = bind cast_rule (operations n)

  question : (x : Tall Expr) → Steady F false (λ i. cond (sees m.Question i) (r.chosen mode part room x) (λ j. Ok (x, j))
      (after m.Question i))
  unfolding r.chosen
  question x = if_eats m.Question (via (r.chosen mode part room x) (bind (fits_steady room x.height) λ _. bind parts.comma λ y.
      bind (expect_steady m.Colon) λ _. bind parts.conditional λ z. pure_steady _)) (pure_steady x)

  pub conditional_rule : Steady F false (r.conditional_rule mode part room)
  unfolding r.conditional_rule
  conditional_rule = bind (binary_rule 4) question

  assign_or : (x : Tall Expr) → Steady F false (r.assign_or mode part room x)
  unfolding r.assign_or r.assigned
  assign_or x = pick (is_unary x.tree) (peeks λ o. by_option (assign_of o) (r.assign_by mode part room x) (pure_steady x)
      λ op. skips (r.assigned mode part room x op) (bind (fits_steady room x.height) λ _. bind parts.assignment λ y. pure_steady _))
      (pure_steady x)

  pub assignment_rule : Steady F false (r.assignment_rule mode part room)
  unfolding r.assignment_rule
  assignment_rule = bind conditional_rule assign_or

  commas : (x : Tall Expr) → Steady F false (looped (λ _. sees m.Comma) (r.comma_next mode part room) x)
  unfolding r.comma_next r.joined
  commas x = looped_steady (λ _. sees m.Comma) (r.comma_next mode part room) (λ _. sees_first m.Comma)
      (λ x. skips (r.joined mode part room x) (bind (fits_steady room x.height) λ _. bind parts.assignment λ y. pure_steady _)) x

  pub comma_rule : Steady F false (r.comma_rule mode part room)
  unfolding r.comma_rule
  comma_rule = bind assignment_rule commas

  -- a name is taken
  pub name_taken : (n : List ℕ) (p : At) (rest : List Token) (S : State) → is_type S n ≡ false
      → Passes (length rest) (r.comma_rule mode part room (at (name p n ++ rest) S))
  unfolding r.comma_rule r.assignment_rule r.conditional_rule r.binary_rule r.cast_rule r.unary_rule r.postfix r.primary opens_type sees here head next left
  name_taken n p rest S is =
      let primary : Passes (length rest) (r.primary mode part room (at (name p n ++ rest) S))
      = rw is (fine {i = at rest S} (omega arith)) in
      passes_on (passes_on (passes_on (passes_on (passes_on primary λ x j. (suffixes x).moves j) λ x j. (operations 4 x).moves j)
      λ x j. (question x).moves j) λ x j. (assign_or x).moves j) λ x j. (commas x).moves j

  -- ---- initializers

  pub init_rule : Steady F false (r.init_rule mode part room)
  unfolding r.init_rule r.braces r.init_value
  init_rule = placed λ a. if_eats m.OpenBrace (via (r.braces mode part room a) (listed m.CloseBrace _ parts.init λ xs found.
      bind (expect_steady m.CloseBrace) λ _. pure_steady (tall (i.Braces a xs.tree found) (raise class.initializer xs.height))))
      (via (r.init_value mode part room) (bind parts.assignment λ x. pure_steady _))
