-- What expressions and initializers are read as nests within the room.
use Rattle.std.proofs.Common.{ℕ, Bool, true, false, not, Option, Some, None, Ok, refl}
use Rattle.std.specs.Prelude.{◌&&◌, nat_lt}
use Rattle.c_type.specs.declared.operator.BinOp.{BinOp}
use Rattle.c_tok.specs.declared.mark.Mark.TheVariants as m
use Rattle.c_tok.specs.declared.token.CTokKind.{CTokKind}
use Rattle.c_tok.specs.declared.token.CTokKind.TheVariants as c
use Rattle.c_tree.specs.declared.at.At.{At}
use Rattle.c_tree.specs.declared.operator.Access.{Access}
use Rattle.c_tree.specs.declared.operator.Infix.{Infix}
use Rattle.c_tree.specs.declared.operator.Step.{Step}
use Rattle.c_tree.specs.declared.operator.UnaryOp.{UnaryOp}
use Rattle.c_tree.specs.declared.expr.Expr.{Expr}
use Rattle.c_tree.specs.declared.declaration.Init.TheVariants as init_
use Rattle.c_tree.specs.declared.height.Heights.{Heights}
use Rattle.c_tree.specs.declared.height.Tall.{Tall}
use Rattle.c_tree.specs.Heights as class
use Rattle.c_tree.specs.Heights.{none, join, raise, Below, tall}
use Rattle.c_decl.specs.declared.kind.Mode.TheVariants.{Whole}
use Rattle.c_decl.specs.State.{is_type}
use Rattle.c_decl.specs.Marks.{tight, infix_of, assign_of, unary_of, step_of, access_of}
use Rattle.c_decl.specs.Grammar.{Tree}
use Rattle.c_decl.specs.Input.{Input, Parser, and_then, next, head, here, sees, expect}
use Rattle.c_decl.specs.Entries as en
use Rattle.c_decl.specs.Entries.{Entry, phrase_of}
use Rattle.c_decl.specs.Expressions as r
use Rattle.c_decl.proofs.Room.{both_below, none_below, outer_below}
use Rattle.c_decl.proofs.Sinks.{Sinks, Low, binds, gives, refuses, skips, pick, eats, eat_pick, expects, names_then, fits_then, loops, parted_sinks, before_sinks}
use Rattle.c_decl.proofs.SinksDeclarators.{Lows, type_name_low}

module _ (part : (c : Entry) → Parser (Tall (Tree (phrase_of c)))) (room : Heights) (parts : Lows Whole part room) where
  abbrev Deep : {X : Type 0} → Tall X → Type 0
  Deep x = Below x.height (raise class.expression room)

  nothing_low : Below none room
  nothing_low = none_below room

  deep : (h : Heights) → Below h room → Below (raise class.expression h) (raise class.expression room)
  deep h l = outer_below class.expression h room l

  deeper : (h f : Heights) → Below h room → Below f room → Below (raise class.expression (join h f)) (raise class.expression room)
  deeper h f l l' = deep (join h f) (both_below h f room l l')

  parenthesized_low : (a : At) (i : Input) → Sinks Deep i (r.parenthesized Whole part room a i)
  unfolding r.parenthesized
  parenthesized_low a i = binds (parts en.comma refl i) λ x j l. expects m.CloseParen _ λ j'. gives (deep x.height l)

  primary_by : (a : At) (o : Option CTokKind) (i : Input) → Sinks Deep i (r.primary_by Whole part room a o i)
  primary_by a (Some (c.Ident n)) i = by (is_type i.state n) where
    by : (b : Bool) → Sinks Deep i (r.name_or Whole part room a n b i)
    by true = refuses
    by false = skips (gives (deep none nothing_low))
  primary_by a (Some (c.Constant v)) i = skips (gives (deep none nothing_low))
  primary_by a (Some (c.Text bytes)) i = skips (gives (deep none nothing_low))
  primary_by a (Some (c.Mark m.OpenParen)) i = skips (parenthesized_low a (next i))
  primary_by a (Some o) i = refuses
  primary_by a None i = refuses

  primary_low : (i : Input) → Sinks Deep i (r.primary Whole part room i)
  unfolding r.primary
  primary_low i = primary_by (here i) (head i) i

  arguments_low : (i : Input) → Sinks (Low room) i (r.arguments Whole part room i)
  unfolding r.arguments
  arguments_low i = pick (sees m.CloseParen i) _ _ (λ _. gives nothing_low)
      (λ _. parted_sinks room (part en.assignment) (parts en.assignment refl) i)

  call_low : (x : Tall Expr) (i : Input) → Sinks Deep i (r.call Whole part room x i)
  unfolding r.call
  call_low x i = fits_then room x.height _ λ l. binds (arguments_low i) λ ys j l'. expects m.CloseParen _ λ j'.
      gives (deeper x.height ys.height l l')

  subscript_low : (x : Tall Expr) (i : Input) → Sinks Deep i (r.subscript Whole part room x i)
  unfolding r.subscript
  subscript_low x i = fits_then room x.height _ λ l. binds (parts en.comma refl i) λ y j l'. expects m.CloseBracket _ λ j'.
      gives (deeper x.height y.height l l')

  reached_low : (x : Tall Expr) (how : Access) (i : Input) → Sinks Deep i (r.reached Whole part room x how i)
  unfolding r.reached
  reached_low x how i = fits_then room x.height _ λ l. names_then (head i) _ λ n j. gives (deep x.height l)

  stepped_low : (x : Tall Expr) (how : Step) (i : Input) → Sinks Deep i (r.stepped Whole part room x how i)
  unfolding r.stepped
  stepped_low x how i = fits_then room x.height _ λ l. gives (deep x.height l)

  step_or : (x : Tall Expr) (o : Option Step) (i : Input) → Sinks Deep i (r.step_or Whole part room x o i)
  step_or x (Some how) i = skips (stepped_low x how (next i))
  step_or x None i = refuses

  access_or : (x : Tall Expr) (next_ : Option CTokKind) (o : Option Access) (i : Input)
      → Sinks Deep i (r.access_or Whole part room x next_ o i)
  access_or x next_ (Some how) i = skips (reached_low x how (next i))
  access_or x next_ None i = step_or x (step_of next_) i

  suffix_by : (x : Tall Expr) (o : Option CTokKind) (i : Input) → Sinks Deep i (r.suffix_by Whole part room x o i)
  suffix_by x (Some (c.Mark m.OpenBracket)) i = skips (subscript_low x (next i))
  suffix_by x (Some (c.Mark m.OpenParen)) i = skips (call_low x (next i))
  suffix_by x o i = access_or x o (access_of o) i

  postfix_low : (i : Input) → Sinks Deep i (r.postfix Whole part room i)
  unfolding r.postfix r.suffixed
  postfix_low i = binds (primary_low i) λ x j l. loops (λ _. en.goes_on 14) (r.suffixed Whole part room)
      (λ y k _. suffix_by y (head k) k) x j l

  measured_type_low : (a : At) (i : Input) → Sinks Deep i (r.measured_type Whole part room a i)
  unfolding r.measured_type
  measured_type_low a i = binds (type_name_low Whole part room parts i) λ x j l. expects m.CloseParen _ λ j'. gives (deep x.height l)

  measured_value_low : (a : At) (i : Input) → Sinks Deep i (r.measured_value Whole part room a i)
  unfolding r.measured_value
  measured_value_low a i = binds (parts en.unary refl i) λ x j l. gives (deep x.height l)

  value_or_low : (a : At) (i : Input) → Sinks Deep i (r.value_or Whole part room a i)
  unfolding r.value_or
  value_or_low a i = pick (sees m.OpenParen i && not (nat_lt 0 room.expression)) _ (r.measured_value Whole part room a) (λ _. skips refuses)
      (λ _. measured_value_low a i)

  measured_low : (a : At) (i : Input) → Sinks Deep i (r.measured Whole part room a i)
  unfolding r.measured
  measured_low a i = pick (en.opens_type i) _ (r.value_or Whole part room a) (λ _. skips (measured_type_low a (next i)))
      (λ _. value_or_low a i)

  prefix_step_low : (a : At) (how : Step) (i : Input) → Sinks Deep i (r.prefix_step Whole part room a how i)
  unfolding r.prefix_step
  prefix_step_low a how i = binds (parts en.unary refl i) λ x j l. gives (deep x.height l)

  prefixed_low : (a : At) (op : UnaryOp) (i : Input) → Sinks Deep i (r.prefixed Whole part room a op i)
  unfolding r.prefixed
  prefixed_low a op i = binds (parts en.cast refl i) λ x j l. gives (deep x.height l)

  unary_or : (a : At) (o : Option UnaryOp) (i : Input) → Sinks Deep i (r.unary_or Whole part room a o i)
  unary_or a (Some op) i = skips (prefixed_low a op (next i))
  unary_or a None i = postfix_low i

  prefix_or : (a : At) (next_ : Option CTokKind) (o : Option Step) (i : Input) → Sinks Deep i (r.prefix_or Whole part room a next_ o i)
  prefix_or a next_ (Some how) i = skips (prefix_step_low a how (next i))
  prefix_or a next_ None i = unary_or a (unary_of next_) i

  unary_by : (a : At) (o : Option CTokKind) (i : Input) → Sinks Deep i (r.unary_by Whole part room a o i)
  unary_by a (Some (c.Mark m.Sizeof)) i = skips (measured_low a (next i))
  unary_by a o i = prefix_or a o (step_of o) i

  pub unary_low : (i : Input) → Sinks Deep i (r.unary_rule Whole part room i)
  unfolding r.unary_rule
  unary_low i = unary_by (here i) (head i) i

  converted_low : (a : At) (i : Input) → Sinks Deep i (r.converted Whole part room a i)
  unfolding r.converted
  converted_low a i = binds (type_name_low Whole part room parts i) λ to j l. expects m.CloseParen _ λ j'.
      binds (parts en.cast refl j') λ x k l'. gives (deeper to.height x.height l l')

  pub cast_low : (i : Input) → Sinks Deep i (r.cast_rule Whole part room i)
  unfolding r.cast_rule
  cast_low i = pick (en.opens_type i) _ (r.unary_rule Whole part room) (λ _. skips (converted_low (here i) (next i))) (λ _. unary_low i)

  operated_low : (x : Tall Expr) (level : ℕ) (op : Infix) (i : Input) → Sinks Deep i (r.operated Whole part room x level op i)
  unfolding r.operated
  operated_low x level op i = fits_then room x.height _ λ l. binds (parts (en.binary level) refl i) λ y j l'.
      gives (deeper x.height y.height l l')

  operand_low : (x : Tall Expr) (level : ℕ) (o : Option Infix) (i : Input) → Sinks Deep i (r.operand Whole part room x level o i)
  operand_low x level (Some op) i = skips (operated_low x level op (next i))
  operand_low x level None i = refuses

  pub binary_low : (n : ℕ) (i : Input) → Sinks Deep i (r.binary_rule Whole part room n i)
  unfolding r.binary_rule r.operation
  binary_low n i = binds (cast_low i) λ x j l. loops (λ _. en.goes_on n) (r.operation Whole part room)
      (λ y k _. operand_low y (tight (head k)) (infix_of (head k)) k) x j l

  chosen_low : (x : Tall Expr) (i : Input) → Sinks Deep i (r.chosen Whole part room x i)
  unfolding r.chosen
  chosen_low x i = fits_then room x.height _ λ l. binds (parts en.comma refl i) λ y j l'. expects m.Colon _ λ j'.
      binds (parts en.conditional refl j') λ z k l''.
      gives (deeper x.height (join y.height z.height) l (both_below y.height z.height room l' l''))

  pub conditional_low : (i : Input) → Sinks Deep i (r.conditional_rule Whole part room i)
  unfolding r.conditional_rule
  conditional_low i = binds (binary_low 4 i) λ x j l. eat_pick m.Question (r.chosen Whole part room x) _ (chosen_low x) (λ j'. gives l)

  assigned_low : (x : Tall Expr) (op : Option BinOp) (i : Input) → Sinks Deep i (r.assigned Whole part room x op i)
  unfolding r.assigned
  assigned_low x op i = fits_then room x.height _ λ l. binds (parts en.assignment refl i) λ y j l'. gives (deeper x.height y.height l l')

  assign_by : (x : Tall Expr) (o : Option (Option BinOp)) (i : Input) → Deep x → Sinks Deep i (r.assign_by Whole part room x o i)
  assign_by x (Some op) i l = skips (assigned_low x op (next i))
  assign_by x None i l = gives l

  pub assignment_low : (i : Input) → Sinks Deep i (r.assignment_rule Whole part room i)
  unfolding r.assignment_rule r.assign_or
  assignment_low i = binds (conditional_low i) λ x j l. pick (en.is_unary x.tree) _ _
      (λ _. assign_by x (assign_of (head j)) j l) (λ _. gives l)

  pub joined_low : (x : Tall Expr) (i : Input) → Sinks Deep i (r.joined Whole part room x i)
  unfolding r.joined
  joined_low x i = fits_then room x.height _ λ l. binds (parts en.assignment refl i) λ y j l'. gives (deeper x.height y.height l l')

  pub comma_low : (i : Input) → Sinks Deep i (r.comma_rule Whole part room i)
  unfolding r.comma_rule r.comma_next
  comma_low i = binds (assignment_low i) λ x j l. loops (λ _. sees m.Comma) (r.comma_next Whole part room)
      (λ y k _. skips (joined_low y (next k))) x j l

  -- ---- initializers

  abbrev Inner : {X : Type 0} → Tall X → Type 0
  Inner x = Below x.height (raise class.initializer room)

  braces_low : (a : At) (i : Input) → Sinks Inner i (r.braces Whole part room a i)
  unfolding r.braces
  braces_low a i = binds (before_sinks room (part en.init) (parts en.init refl) m.CloseBrace i) λ xs j l. eats m.Comma
      (λ ends k. and_then (expect m.CloseBrace k) (λ _ k'. Ok (tall (init_.Braces a xs.tree ends) (raise class.initializer xs.height), k')))
      λ ends k. expects m.CloseBrace _ λ k'. gives (outer_below class.initializer xs.height room l)

  value_low : (i : Input) → Sinks Inner i (r.init_value Whole part room i)
  unfolding r.init_value
  value_low i = binds (parts en.assignment refl i) λ x j l. gives (outer_below class.initializer x.height room l)

  pub init_low : (i : Input) → Sinks Inner i (r.init_rule Whole part room i)
  unfolding r.init_rule
  init_low i = eat_pick m.OpenBrace (r.braces Whole part room (here i)) (r.init_value Whole part room) (braces_low (here i)) value_low
