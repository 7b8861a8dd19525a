-- Expressions are read.
use Rattle.std.proofs.Common.{◌≡◌, ℕ, ◌<◌, ◌≤◌, Bool, true, false, not, cond, List, [], ◌∷◌, ◌++◌, Option, Some, None, Ok, refl, ap, subst, ◌∙◌, arith, append_assoc, length-append}
use Rattle.std.specs.Prelude.{◌&&◌, nat_lt, is_some}
use Rattle.std.proofs.lemmas.Bool.{ltb-true, lt-ltb}
use Rattle.c_type.specs.declared.operator.BinOp.{BinOp}
use Rattle.c_tok.specs.declared.mark.Mark.TheVariants as m
use Rattle.c_tok.specs.declared.token.CTokKind.{CTokKind}
use Rattle.c_tok.specs.declared.token.CTokKind.TheVariants as c
use Rattle.c_tok.specs.declared.constant.Constant.{Constant}
use Rattle.c_tree.specs.declared.at.At.{At}
use Rattle.c_tree.specs.declared.operator.Access.{Access}
use Rattle.c_tree.specs.declared.operator.Infix.{Infix}
use Rattle.c_tree.specs.declared.operator.Step.{Step}
use Rattle.c_tree.specs.declared.operator.UnaryOp.{UnaryOp}
use Rattle.c_tree.specs.declared.expr.Expr.{Expr}
use Rattle.c_tree.specs.declared.expr.Expr.TheVariants as e
use Rattle.c_tree.specs.declared.expr.TypeName.{TypeName}
use Rattle.c_tree.specs.declared.declaration.Init.TheVariants as i
use Rattle.c_tree.specs.declared.height.Heights.{Heights}
use Rattle.c_tree.specs.declared.height.Tall.{Tall}
use Rattle.c_tree.specs.Heights as class
use Rattle.c_tree.specs.Heights.{none, join, raise, Below, tall}
use Rattle.c_tree.specs.Begins.{expr_at}
use Rattle.c_decl.specs.declared.kind.Mode.{Mode}
use Rattle.c_decl.specs.Tokens.{Token, tok, mark, name, head_of, at_of, same_mark}
use Rattle.c_decl.specs.State.{State, is_type}
use Rattle.c_decl.specs.Marks.{tight, infix_of, assign_of, unary_of, step_of, access_of}
use Rattle.c_decl.specs.Grammar as g
use Rattle.c_decl.specs.Grammar.{Tree, is_word}
use Rattle.c_decl.specs.Input.{Parser, left, next, after, head, here, sees, expect, is_mark}
use Rattle.c_decl.specs.Entries as en
use Rattle.c_decl.specs.Entries.{Entry, phrase_of, opens_type, is_unary}
use Rattle.c_decl.specs.Expressions as er
use Rattle.c_decl.specs.Reading.{reader}
use Rattle.c_decl.proofs.Runs.{at}
use Rattle.c_decl.proofs.Led.{begun, turned, stopped}
use Rattle.c_decl.proofs.Begins.{First, starts, bare_starts, off_first, at_mark}
use Rattle.c_decl.proofs.Claims.{Reads, PartReads}
use Rattle.c_decl.proofs.Children.{placed, fits_ok, loose, goes, goes_off, word_first}

access_tight : (o : CTokKind) (how : Access) → access_of (Some o) ≡ Some how → 14 ≤ tight (Some o)
access_tight (c.Mark m.Dot) how e = omega arith
access_tight (c.Mark m.Arrow) how e = omega arith
access_tight _ how e = absurd cc

step_tight : (o : CTokKind) (how : Step) → step_of (Some o) ≡ Some how → 14 ≤ tight (Some o)
step_tight (c.Mark m.PlusPlus) how e = omega arith
step_tight (c.Mark m.MinusMinus) how e = omega arith
step_tight _ how e = absurd cc

pub infix_tight : (o : CTokKind) (op : Infix) → infix_of (Some o) ≡ Some op → tight (Some o) < 14
infix_tight o op e = ltb-true _ _ (subst (λ (z : Bool). is_some (infix_of (Some o)) ≡ z → nat_lt (tight (Some o)) 14 ≡ true) refl
    (by_kind o) (ap is_some e)) where
      by_kind : (o : CTokKind) → is_some (infix_of (Some o)) ≡ true → nat_lt (tight (Some o)) 14 ≡ true
      by_kind (c.Mark m.OpenBracket) e = absurd cc
      by_kind (c.Mark m.OpenParen) e = absurd cc
      by_kind (c.Mark m.Dot) e = absurd cc
      by_kind (c.Mark m.Arrow) e = absurd cc
      by_kind (c.Mark m.PlusPlus) e = absurd cc
      by_kind (c.Mark m.MinusMinus) e = absurd cc
      by_kind _ e = refl

assign_tight : (o : CTokKind) (op : Option BinOp) → assign_of (Some o) ≡ Some op → tight (Some o) ≡ 2
assign_tight (c.Mark m.Assign) how e = refl
assign_tight (c.Mark m.StarAssign) how e = refl
assign_tight (c.Mark m.SlashAssign) how e = refl
assign_tight (c.Mark m.PercentAssign) how e = refl
assign_tight (c.Mark m.PlusAssign) how e = refl
assign_tight (c.Mark m.MinusAssign) how e = refl
assign_tight (c.Mark m.ShiftLeftAssign) how e = refl
assign_tight (c.Mark m.ShiftRightAssign) how e = refl
assign_tight (c.Mark m.AmpersandAssign) how e = refl
assign_tight (c.Mark m.CaretAssign) how e = refl
assign_tight (c.Mark m.BarAssign) how e = refl
assign_tight _ how e = absurd cc

no_assign : (o : Option CTokKind) → tight o < 2 → assign_of o ≡ None
no_assign (Some (c.Mark m.Assign)) e = absurd (omega arith)
no_assign (Some (c.Mark m.StarAssign)) e = absurd (omega arith)
no_assign (Some (c.Mark m.SlashAssign)) e = absurd (omega arith)
no_assign (Some (c.Mark m.PercentAssign)) e = absurd (omega arith)
no_assign (Some (c.Mark m.PlusAssign)) e = absurd (omega arith)
no_assign (Some (c.Mark m.MinusAssign)) e = absurd (omega arith)
no_assign (Some (c.Mark m.ShiftLeftAssign)) e = absurd (omega arith)
no_assign (Some (c.Mark m.ShiftRightAssign)) e = absurd (omega arith)
no_assign (Some (c.Mark m.AmpersandAssign)) e = absurd (omega arith)
no_assign (Some (c.Mark m.CaretAssign)) e = absurd (omega arith)
no_assign (Some (c.Mark m.BarAssign)) e = absurd (omega arith)
no_assign _ e = refl

may_nest : (b : Bool) (room : Heights) → 0 < room.expression → b && not (nat_lt 0 room.expression) ≡ false
may_nest true room some = rw (lt-ltb 0 room.expression some) refl
may_nest false room some = refl

module _ (mode : Mode) (n : ℕ) (room : Heights) where
  abbrev Room : (c : Entry) → Parser (Tall (Tree (phrase_of c)))
  Room = reader mode n room

  -- which way the first token decides
  access_way : (x : Tall Expr) (o : CTokKind) (how : Access) → access_of (Some o) ≡ Some how
      → er.suffix_by mode Room room x (Some o) ≡ er.access_or mode Room room x (Some o) (Some how)
  access_way x (c.Mark m.Dot) how e = ap (λ (z : Option Access). er.access_or mode Room room x (Some (c.Mark m.Dot)) z) e
  access_way x (c.Mark m.Arrow) how e = ap (λ (z : Option Access). er.access_or mode Room room x (Some (c.Mark m.Arrow)) z) e
  access_way x _ how e = absurd cc

  step_way : (x : Tall Expr) (o : CTokKind) (how : Step) → step_of (Some o) ≡ Some how
      → er.suffix_by mode Room room x (Some o) ≡ er.step_or mode Room room x (Some how)
  step_way x (c.Mark m.PlusPlus) how e = ap (λ (z : Option Step). er.step_or mode Room room x z) e
  step_way x (c.Mark m.MinusMinus) how e = ap (λ (z : Option Step). er.step_or mode Room room x z) e
  step_way x _ how e = absurd cc

  bare_way : (S : State) (a : At) (o : CTokKind) → bare_starts S o ≡ true
      → er.unary_by mode Room room a (Some o) ≡ er.postfix mode Room room
  bare_way S a (c.Ident k) e = refl
  bare_way S a (c.Constant v) e = refl
  bare_way S a (c.Text bytes) e = refl
  bare_way S a (c.Mark m.OpenParen) e = refl
  bare_way S a _ e = absurd cc

  prefix_way : (a : At) (o : CTokKind) (how : Step) → step_of (Some o) ≡ Some how
      → er.unary_by mode Room room a (Some o) ≡ er.prefix_or mode Room room a (Some o) (Some how)
  prefix_way a (c.Mark m.PlusPlus) how e = ap (λ (z : Option Step). er.prefix_or mode Room room a (Some (c.Mark m.PlusPlus)) z) e
  prefix_way a (c.Mark m.MinusMinus) how e = ap (λ (z : Option Step). er.prefix_or mode Room room a (Some (c.Mark m.MinusMinus)) z) e
  prefix_way a _ how e = absurd cc

  unary_way : (a : At) (o : CTokKind) (op : UnaryOp) → unary_of (Some o) ≡ Some op
      → er.unary_by mode Room room a (Some o) ≡ er.unary_or mode Room room a (Some op)
  unary_way a (c.Mark m.Ampersand) op e = ap (λ (z : Option UnaryOp). er.unary_or mode Room room a z) e
  unary_way a (c.Mark m.Star) op e = ap (λ (z : Option UnaryOp). er.unary_or mode Room room a z) e
  unary_way a (c.Mark m.Plus) op e = ap (λ (z : Option UnaryOp). er.unary_or mode Room room a z) e
  unary_way a (c.Mark m.Minus) op e = ap (λ (z : Option UnaryOp). er.unary_or mode Room room a z) e
  unary_way a (c.Mark m.Tilde) op e = ap (λ (z : Option UnaryOp). er.unary_or mode Room room a z) e
  unary_way a (c.Mark m.Exclamation) op e = ap (λ (z : Option UnaryOp). er.unary_or mode Room room a z) e
  unary_way a _ op e = absurd cc

  assign_off : (x : Expr) (h : Heights) (rest : List Token) (T : State) → tight (head_of rest) < 2
      → er.assign_or mode Room room (tall x h) (at rest T) ≡ Ok (tall x h, at rest T)
  unfolding er.assign_or head
  assign_off x h rest T ends = by_test (is_unary x) where
    by_test : (b : Bool) → cond {A = Parser (Tall Expr)} b (λ i. er.assign_by mode Room room (tall x h) (assign_of (head_of i.rest)) i)
        (λ i. Ok (tall x h, i)) (at rest T) ≡ Ok (tall x h, at rest T)
    by_test true = rw (no_assign (head_of rest) ends) refl
    by_test false = refl

module _ {mode : Mode} {n : ℕ} {room : Heights} where
  pub named_reads : {S : State} {a : At} {k : List ℕ} → is_type S k ≡ false
      → Reads mode n room g.primary S (raise class.expression none) (name a k) (e.Ident a k) S
  unfolding er.primary here head next
  named_reads is = record { gives = λ rest _. rw is refl }

  pub constant_reads : {S : State} {a : At} {v : Constant}
      → Reads mode n room g.primary S (raise class.expression none) (tok (c.Constant v) a ∷ []) (e.Constant a v.value v.kind) S
  unfolding er.primary here head next
  constant_reads = record { gives = λ rest _. refl }

  pub text_reads : {S : State} {a : At} {bytes : List ℕ}
      → Reads mode n room g.primary S (raise class.expression none) (tok (c.Text bytes) a ∷ []) (e.Text a bytes) S
  unfolding er.primary here head next
  text_reads = record { gives = λ rest _. refl }

  pub paren_reads : {S T : State} {h : Heights} (a b : At) {ts : List Token} {x : Expr}
      → PartReads mode n room en.comma S h ts x T
      → Reads mode n room g.primary S (raise class.expression h) (mark a m.OpenParen ++ ts ++ mark b m.CloseParen) (e.Paren a x) T
  unfolding er.primary er.parenthesized here head next expect sees same_mark
  paren_reads a b {ts = ts} p = placed (λ rest. mark a m.OpenParen ++ (ts ++ (mark b m.CloseParen ++ rest))) (λ rest. simp append_assoc)
      (λ rest _.
      rw (p.gives (mark b m.CloseParen ++ rest) (omega arith)) refl)

  pub simple_reads : {S T : State} {h : Heights} {ts : List Token} {x : Expr} → Reads mode n room g.primary S h ts x T
      → Reads mode n room g.postfix S h ts x T
  simple_reads r = record { gives = λ rest _. begun _ (r.gives rest tt) }

  pub subscript_reads : {S T U : State} {h f : Heights} (a b : At) {ts us : List Token} {x y : Expr} → Below h room
      → Reads mode n room g.postfix S h ts x T → PartReads mode n room en.comma T f us y U
      → Reads mode n room g.postfix S (raise class.expression (join h f)) (ts ++ mark a m.OpenBracket ++ us ++ mark b m.CloseBracket)
      (e.Subscript (expr_at x) x y) U
  unfolding er.suffixed er.subscript head next expect sees same_mark left
  subscript_reads {T = T} a b {ts = ts} {us = us} low d p = placed
      (λ rest. ts ++ (mark a m.OpenBracket ++ (us ++ (mark b m.CloseBracket ++ rest)))) (λ rest. simp append_assoc) (λ rest _.
      turned (d.gives (mark a m.OpenBracket ++ (us ++ (mark b m.CloseBracket ++ rest))) tt) (goes 14 _ a _ T (omega arith))
      (rw (fits_ok (at (us ++ (mark b m.CloseBracket ++ rest)) T) low, p.gives (mark b m.CloseBracket ++ rest) (omega arith)) refl)
      (simp length-append (omega arith)))

  pub call_reads : {S T U : State} {h f : Heights} (a b : At) {ts us : List Token} {x : Expr} {ys : List Expr} → Below h room
      → Reads mode n room g.postfix S h ts x T → Reads mode n room g.arguments T f us ys U
      → Reads mode n room g.postfix S (raise class.expression (join h f)) (ts ++ mark a m.OpenParen ++ us ++ mark b m.CloseParen)
      (e.Call (expr_at x) x ys) U
  unfolding er.suffixed er.call head next expect sees same_mark left
  call_reads {T = T} a b {ts = ts} {us = us} low d p = placed (λ rest. ts ++ (mark a m.OpenParen ++ (us ++ (mark b m.CloseParen ++ rest))))
      (λ rest. simp append_assoc) (λ rest _.
      turned (d.gives (mark a m.OpenParen ++ (us ++ (mark b m.CloseParen ++ rest))) tt) (goes 14 _ a _ T (omega arith))
      (rw (fits_ok (at (us ++ (mark b m.CloseParen ++ rest)) T) low, p.gives (mark b m.CloseParen ++ rest) refl) refl)
      (simp length-append (omega arith)))

  pub reached_reads : {S T : State} {h : Heights} (a b : At) (o : CTokKind) (k : List ℕ) {ts : List Token} {how : Access} {x : Expr}
      → Below h room
      → access_of (Some o) ≡ Some how → Reads mode n room g.postfix S h ts x T
      → Reads mode n room g.postfix S (raise class.expression h) (ts ++ (tok o a ∷ []) ++ name b k) (e.Member (expr_at x) how x k) T
  unfolding er.suffixed er.reached head next left
  reached_reads {T = T} {h = h} a b o k {ts = ts} {how = how} {x = x} low is d = placed
      (λ rest. ts ++ ((tok o a ∷ []) ++ (name b k ++ rest))) (λ rest. simp append_assoc) (λ rest _.
      turned (d.gives ((tok o a ∷ []) ++ (name b k ++ rest)) tt) (goes 14 o a _ T (access_tight o how is))
      (rw (access_way mode n room (tall x h) o how is, fits_ok (at (name b k ++ rest) T) low) refl) (omega arith))

  pub stepped_reads : {S T : State} {h : Heights} (a : At) (o : CTokKind) {ts : List Token} {how : Step} {x : Expr} → Below h room
      → step_of (Some o) ≡ Some how → Reads mode n room g.postfix S h ts x T
      → Reads mode n room g.postfix S (raise class.expression h) (ts ++ (tok o a ∷ [])) (e.Postfix (expr_at x) how x) T
  unfolding er.suffixed er.stepped head next left
  stepped_reads {T = T} {h = h} a o {ts = ts} {how = how} {x = x} low is d = placed (λ rest. ts ++ ((tok o a ∷ []) ++ rest))
      (λ rest. simp append_assoc) (λ rest _.
      turned (d.gives ((tok o a ∷ []) ++ rest) tt) (goes 14 o a _ T (step_tight o how is))
      (rw (step_way mode n room (tall x h) o how is, fits_ok (at rest T) low) refl) (omega arith))

  pub no_arguments_read : {S : State} → Reads mode n room g.arguments S none [] [] S
  unfolding er.arguments sees head
  no_arguments_read = record { gives = λ rest ends. rw ends refl }

  pub some_arguments_read : {S T : State} {h : Heights} {ts : List Token} {xs : List Expr} → First (starts S) ts
      → Reads mode n room (g.parted g.assignment) S h ts xs T → Reads mode n room g.arguments S h ts xs T
  unfolding er.arguments en.parted sees head same_mark
  some_arguments_read {S = S} {T = T} o r = record {
    gives = λ rest ends.
        let off = off_first m.CloseParen refl o rest in
        let low : tight (head_of rest) < 2 = ltb-true _ _ (at_mark (λ z. nat_lt (tight z) 2) m.CloseParen (head_of rest) ends) in
        let s = stopped (r.gives rest low refl) (at_mark (is_mark m.Comma) m.CloseParen (head_of rest) ends) in
        rw (off, s.gives, s.loops) refl;
  }

  pub bare_reads : {S T : State} {h : Heights} {ts : List Token} {x : Expr} → First (bare_starts S) ts
      → Reads mode n room g.postfix S h ts x T → Reads mode n room g.unary S h ts x T
  unfolding er.unary_rule er.postfix head here
  bare_reads {S = S} {T = T} {ts = ts} o r = record {
    gives = λ rest ends.
        let way : er.unary_by mode (Room mode n room) room (at_of (ts ++ rest)) (head_of (ts ++ rest)) ≡ er.postfix mode (Room mode n room)
        room
        = ap (λ (z : List Token). er.unary_by mode (Room mode n room) room (at_of (ts ++ rest)) (head_of (z ++ rest))) o.is ∙ bare_way
        mode n room S (at_of (ts ++ rest)) o.first o.ok in
        let s = stopped (r.gives rest tt) (goes_off 14 rest T ends) in
        rw (way, s.gives, s.loops) refl;
  }

  pub step_reads : {S T : State} {h : Heights} (a : At) (o : CTokKind) {ts : List Token} {how : Step} {x : Expr}
      → step_of (Some o) ≡ Some how
      → PartReads mode n room en.unary S h ts x T
      → Reads mode n room g.unary S (raise class.expression h) ((tok o a ∷ []) ++ ts) (e.Prefix a how x) T
  unfolding er.unary_rule er.prefix_step here head next
  step_reads a o {how = how} is p = record { gives = λ rest ends. rw (prefix_way mode n room a o how is, p.gives rest ends) refl }

  pub prefixed_reads : {S T : State} {h : Heights} (a : At) (o : CTokKind) {ts : List Token} {op : UnaryOp} {x : Expr}
      → unary_of (Some o) ≡ Some op
      → PartReads mode n room en.cast S h ts x T
      → Reads mode n room g.unary S (raise class.expression h) ((tok o a ∷ []) ++ ts) (e.Unary a op x) T
  unfolding er.unary_rule er.prefixed here head next
  prefixed_reads a o {op = op} is p = record { gives = λ rest ends. rw (unary_way mode n room a o op is, p.gives rest ends) refl }

  pub measured_reads : {S T : State} {h : Heights} (a : At) {ts : List Token} {x : Expr} → 0 < room.expression
      → ((rest : List Token) → opens_type (at (ts ++ rest) S) ≡ false) → PartReads mode n room en.unary S h ts x T
      → Reads mode n room g.unary S (raise class.expression h) (mark a m.Sizeof ++ ts) (e.SizeofExpr a x) T
  unfolding er.unary_rule er.measured er.value_or er.measured_value here head next
  measured_reads {S = S} a {ts = ts} some off p = record
      { gives = λ rest ends. rw (off rest, may_nest (sees m.OpenParen (at (ts ++ rest) S)) room some, p.gives rest ends) refl }

  pub measured_type_reads : {S T : State} {h : Heights} (a b b' : At) {ts : List Token} {x : TypeName} → First (λ o. is_word S false o) ts
      → Reads mode n room g.type_name S h ts x T
      → Reads mode n room g.unary S (raise class.expression h) (mark a m.Sizeof ++ mark b m.OpenParen ++ ts ++ mark b' m.CloseParen)
      (e.SizeofType a x) T
  unfolding er.unary_rule er.measured er.measured_type opens_type here head next sees same_mark expect
  measured_type_reads {S = S} a b b' {ts = ts} o r = placed
      (λ rest. mark a m.Sizeof ++ (mark b m.OpenParen ++ (ts ++ (mark b' m.CloseParen ++ rest)))) (λ rest. simp append_assoc) (λ rest _.
      rw (word_first S o (mark b' m.CloseParen ++ rest), r.gives (mark b' m.CloseParen ++ rest) refl) refl)

  pub uncast_reads : {S T : State} {h : Heights} {ts : List Token} {x : Expr}
      → ((rest : List Token) → opens_type (at (ts ++ rest) S) ≡ false) → Reads mode n room g.unary S h ts x T
      → Reads mode n room g.cast S h ts x T
  unfolding er.cast_rule
  uncast_reads off r = record { gives = λ rest ends. rw (off rest, r.gives rest ends) refl }

  pub converted_reads : {S T U : State} {h f : Heights} (a b : At) {ts us : List Token} {to : TypeName} {x : Expr}
      → First (λ o. is_word S false o) ts
      → Reads mode n room g.type_name S h ts to T → PartReads mode n room en.cast T f us x U
      → Reads mode n room g.cast S (raise class.expression (join h f)) (mark a m.OpenParen ++ ts ++ mark b m.CloseParen ++ us)
      (e.Cast a to x) U
  unfolding er.cast_rule er.converted opens_type here head next sees same_mark expect
  converted_reads {S = S} a b {ts = ts} {us = us} o r p = placed
      (λ rest. mark a m.OpenParen ++ (ts ++ (mark b m.CloseParen ++ (us ++ rest)))) (λ rest. simp append_assoc) (λ rest ends.
      rw (word_first S o (mark b m.CloseParen ++ (us ++ rest)), r.gives (mark b m.CloseParen ++ (us ++ rest)) refl, p.gives rest ends) refl)

  pub operand_reads : {k : ℕ} {S T : State} {h : Heights} {ts : List Token} {x : Expr} → Reads mode n room g.cast S h ts x T
      → Reads mode n room (g.binary k) S h ts x T
  operand_reads r = record { gives = λ rest ends low some le. begun _ (r.gives rest ends.0) }

  pub operated_reads : {k : ℕ} {S T U : State} {h f : Heights} (a : At) (o : CTokKind) {ts us : List Token} {op : Infix} {x y : Expr}
      → Below h room
      → infix_of (Some o) ≡ Some op → k ≤ tight (Some o)
      → Reads mode n room (g.binary (tight (Some o))) S h ts x T → PartReads mode n room (en.binary (tight (Some o))) T f us y U
      → Reads mode n room (g.binary k) S (raise class.expression (join h f)) (ts ++ (tok o a ∷ []) ++ us) (e.Binary (expr_at x) op x y) U
  unfolding er.operation er.operated head next left
  operated_reads {T = T} a o {ts = ts} {us = us} {op = op} low_ is on r p = placed (λ rest. ts ++ ((tok o a ∷ []) ++ (us ++ rest)))
      (λ rest. simp append_assoc) (λ rest ends low some le.
      let under : tight (Some o) < 14 = infix_tight o op is in
      turned (r.gives ((tok o a ∷ []) ++ (us ++ rest)) (under, omega arith) low some (omega arith))
      (goes low o a (us ++ rest) T (omega arith))
      (rw (is, fits_ok (at (us ++ rest) T) low_, p.gives rest (ends.0, let e : tight (head_of rest) ≤ _ = ends.1 in omega arith)) refl)
      (simp length-append (omega arith)))

  pub tested_reads : {S T : State} {h : Heights} {ts : List Token} {x : Expr} → Reads mode n room (g.binary 4) S h ts x T
      → Reads mode n room g.conditional S h ts x T
  unfolding er.conditional_rule er.binary_rule sees head after
  tested_reads {T = T} r = record {
    gives = λ rest ends.
        let s = stopped (r.gives rest (omega arith, omega arith) 4 (omega arith) (omega arith)) (goes_off 4 rest T (omega arith)) in
        rw (s.gives, s.loops, loose m.Question 3 (head_of rest) (omega arith) ends) refl;
  }

  pub chosen_reads : {S T U V : State} {h f v : Heights} (a b : At) {ts us vs : List Token} {x y z : Expr} → Below h room
      → Reads mode n room (g.binary 4) S h ts x T → PartReads mode n room en.comma T f us y U
      → PartReads mode n room en.conditional U v vs z V
      → Reads mode n room g.conditional S (raise class.expression (join h (join f v)))
      (ts ++ mark a m.Question ++ us ++ mark b m.Colon ++ vs) (e.Conditional (expr_at x) x y z) V
  unfolding er.conditional_rule er.binary_rule er.chosen sees head after next expect same_mark
  chosen_reads {T = T} a b {ts = ts} {us = us} {vs = vs} low r p q = placed
      (λ rest. ts ++ (mark a m.Question ++ (us ++ (mark b m.Colon ++ (vs ++ rest))))) (λ rest. simp append_assoc) (λ rest ends.
      let behind : List Token = mark a m.Question ++ (us ++ (mark b m.Colon ++ (vs ++ rest))) in
      let s = stopped (r.gives behind (omega arith, omega arith) 4 (omega arith) (omega arith)) (goes_off 4 behind T (omega arith)) in
      rw (
        s.gives,
        s.loops,
        fits_ok (at (us ++ (mark b m.Colon ++ (vs ++ rest))) T) low,
        p.gives (mark b m.Colon ++ (vs ++ rest))
            (omega arith),
        q.gives rest ends,
      ) refl)

  pub valued_reads : {S T : State} {h : Heights} {ts : List Token} {x : Expr} → Reads mode n room g.conditional S h ts x T
      → Reads mode n room g.assignment S h ts x T
  unfolding er.assignment_rule
  valued_reads {T = T} {h = h} {x = x} r = record
      { gives = λ rest ends. rw (r.gives rest (omega arith)) (assign_off mode n room x h rest T ends) }

  pub assigned_reads : {S T U : State} {h f : Heights} (a : At) (o : CTokKind) {ts us : List Token} {op : Option BinOp} {x y : Expr}
      → Below h room
      → assign_of (Some o) ≡ Some op → is_unary x ≡ true → Reads mode n room g.conditional S h ts x T
      → PartReads mode n room en.assignment T f us y U
      → Reads mode n room g.assignment S (raise class.expression (join h f)) (ts ++ (tok o a ∷ []) ++ us) (e.Assign (expr_at x) op x y) U
  unfolding er.assignment_rule er.assign_or er.assigned head next
  assigned_reads {T = T} a o {ts = ts} {us = us} {op = op} low is unary_ r p = placed (λ rest. ts ++ ((tok o a ∷ []) ++ (us ++ rest)))
      (λ rest. simp append_assoc) (λ rest ends.
      let t = assign_tight o op is in
      rw (r.gives ((tok o a ∷ []) ++ (us ++ rest)) (omega arith), unary_, is, fits_ok (at (us ++ rest) T) low, p.gives rest ends) refl)

  pub alone_reads : {S T : State} {h : Heights} {ts : List Token} {x : Expr} → Reads mode n room g.assignment S h ts x T
      → Reads mode n room g.comma S h ts x T
  alone_reads r = record { gives = λ rest ends. begun _ (r.gives rest ends) }

  pub joined_reads : {S T U : State} {h f : Heights} (a : At) {ts us : List Token} {x y : Expr} → Below h room
      → Reads mode n room g.comma S h ts x T → PartReads mode n room en.assignment T f us y U
      → Reads mode n room g.comma S (raise class.expression (join h f)) (ts ++ mark a m.Comma ++ us) (e.Comma (expr_at x) x y) U
  unfolding er.comma_next er.joined sees head same_mark next left
  joined_reads {T = T} a {ts = ts} {us = us} low r p = placed (λ rest. ts ++ (mark a m.Comma ++ (us ++ rest))) (λ rest. simp append_assoc)
      (λ rest ends.
      turned (r.gives (mark a m.Comma ++ (us ++ rest)) (omega arith)) refl (rw (fits_ok (at (us ++ rest) T) low, p.gives rest ends) refl)
      (simp length-append (omega arith)))

  pub value_reads : {S T : State} {h : Heights} {ts : List Token} {x : Expr} → First (starts S) ts
      → PartReads mode n room en.assignment S h ts x T → Reads mode n room g.init S (raise class.initializer h) ts (i.Value x) T
  unfolding er.init_rule er.init_value sees head after
  value_reads {S = S} o p = record {
    gives = λ rest ends. rw
        (off_first m.OpenBrace refl o rest, p.gives rest ends) refl;
  }
