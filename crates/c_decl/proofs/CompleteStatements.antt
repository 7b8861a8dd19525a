-- Statements and units are read.
use Rattle.std.proofs.Common.{◌≡◌, ℕ, Bool, true, false, not, cond, List, [], ◌∷◌, ◌++◌, length, Option, Some, None, Ok, refl, sym, ap, subst, ◌∙◌, arith, append_assoc}
use Rattle.std.specs.Prelude.{◌&&◌}
use Rattle.std.proofs.lemmas.Bool.{lt-ltb}
use Rattle.c_tok.specs.declared.mark.Mark.TheVariants as m
use Rattle.c_tok.specs.declared.token.CTokKind.{CTokKind}
use Rattle.c_tok.specs.declared.token.CTokKind.TheVariants as c
use Rattle.c_tree.specs.declared.at.At.{At}
use Rattle.c_tree.specs.declared.expr.Expr.{Expr}
use Rattle.c_tree.specs.declared.declaration.Declaration.{Declaration}
use Rattle.c_tree.specs.declared.stmt.Stmt.{Stmt}
use Rattle.c_tree.specs.declared.stmt.Stmt.TheVariants as st
use Rattle.c_tree.specs.declared.stmt.ForHead.{ForHead}
use Rattle.c_tree.specs.declared.stmt.Block.{Block}
use Rattle.c_tree.specs.declared.height.Heights.{Heights}
use Rattle.c_tree.specs.declared.height.Tall.{Tall}
use Rattle.c_tree.specs.Heights as class
use Rattle.c_tree.specs.Heights.{none, join, raise, tall}
use Rattle.c_tree.specs.Begins.{expr_or}
use Rattle.c_decl.specs.declared.kind.Control.{Control}
use Rattle.c_decl.specs.declared.kind.Control.TheVariants as control
use Rattle.c_decl.specs.declared.kind.Jump.{Jump}
use Rattle.c_decl.specs.declared.kind.Jump.TheVariants as jump
use Rattle.c_decl.specs.declared.kind.Mode.{Mode}
use Rattle.c_decl.specs.Tokens.{Token, tok, mark, name, is_empty, head_of, at_of, same_mark}
use Rattle.c_decl.specs.State.{State, is_type, leave}
use Rattle.c_decl.specs.Marks.{control_of, jump_of}
use Rattle.c_decl.specs.Grammar as g
use Rattle.c_decl.specs.Grammar.{Tree, Body, is_word, controlled, jumping}
use Rattle.c_decl.specs.Input.{Input, Parser, left, next, after, head, here, sees, expect, is_mark}
use Rattle.c_decl.specs.Entries as en
use Rattle.c_decl.specs.Entries.{Entry, phrase_of, spec_comes, word_comes, label_comes, type_name_at, body_comes}
use Rattle.c_decl.specs.Statements as sr
use Rattle.c_decl.specs.Reading.{reader}
use Rattle.c_decl.proofs.Runs.{at}
use Rattle.c_decl.proofs.Led.{begun, turned}
use Rattle.c_decl.proofs.Begins.{First, is_item, begins, starts_of, statement_starts, or_first, or_second, off_first, mark_is}
use Rattle.c_decl.proofs.Begins as by
use Rattle.c_decl.proofs.Seconds.{Never, Unlabelled, labels}
use Rattle.c_decl.proofs.Claims.{starts, Reads, PartReads, StatementGiven}
use Rattle.c_decl.proofs.Children.{placed, not_yes, word_first, by_first, all_turns, StatementReads}
use Rattle.c_decl.proofs.CompleteLists.{shorter, first_length, declaration_given}
use Rattle.c_decl.proofs.CompleteSpecs.{first_is}

abbrev plain_kind : State → CTokKind → Bool
plain_kind S (c.Ident x) = not (is_type S x)
plain_kind S _ = true

type_none : (S : State) (o : CTokKind) → plain_kind S o ≡ true → type_name_at S (Some o) ≡ None
type_none S (c.Ident x) e = rw (not_yes (is_type S x) e) refl
type_none S (c.Mark x) e = refl
type_none S (c.Constant x) e = refl
type_none S (c.Text x) e = refl

start_plain : (S : State) (o : CTokKind) → by.starts S o ≡ true → plain_kind S o ≡ true
start_plain S (c.Ident x) e = e
start_plain S _ e = refl

type_is : (b : Bool) (k n' : List ℕ) → cond {A = Option (List ℕ)} b (Some k) None ≡ Some n' → k ≡ n'
type_is true k n' e = cc
type_is false k n' e = absurd cc

start_label : (S : State) (o : CTokKind) (a : At) (more : List Token) → by.starts S o ≡ true → labels (tok o a ∷ more) ≡ false
    → label_comes (at (tok o a ∷ more) S) ≡ false
unfolding label_comes head next sees
start_label S (c.Ident x) a more e off = rw (not_yes (is_type S x) e, off) refl
start_label S (c.Mark x) a more e off = refl
start_label S (c.Constant x) a more e off = refl
start_label S (c.Text x) a more e off = refl

start_word : (S : State) (o : CTokKind) → statement_starts S o ≡ true → plain_kind S o ≡ true → is_word S false o ≡ false
start_word S (c.Ident x) e p = not_yes _ p
start_word S (c.Constant x) e p = refl
start_word S (c.Text x) e p = refl
start_word S (c.Mark m.Else) e p = absurd cc
start_word S (c.Mark m.CloseBrace) e p = absurd cc
start_word S (c.Mark x) e p = not_yes _ e

control_plain : (S : State) (o : CTokKind) (how : Control) → control_of (Some o) ≡ Some how → plain_kind S o ≡ true
control_plain S (c.Ident x) how e = absurd cc
control_plain S _ how e = refl

jump_plain : (S : State) (o : CTokKind) (how : Jump) → jump_of (Some o) ≡ Some how → plain_kind S o ≡ true
jump_plain S (c.Ident x) how e = absurd cc
jump_plain S _ how e = refl

body_on : (P : CTokKind → Bool) (S : State) (ts rest : List Token) → P (c.Mark m.CloseBrace) ≡ false
    → First P ts → body_comes (at (ts ++ rest) S) ≡ true
unfolding body_comes sees head left
body_on P S ts rest f o = rw (off_first m.CloseBrace f o rest, lt-ltb 0 (length (ts ++ rest)) (first_length o rest)) refl

abbrev control_some : Option Control → Control
control_some (Some how) = how
control_some None = control.Switch

abbrev jump_some : Option Jump → Jump
jump_some (Some how) = how
jump_some None = jump.Break

abbrev ident_of : CTokKind → Bool
ident_of (c.Ident n) = true
ident_of _ = false

abbrev start_or : State → Option CTokKind → Bool
start_or S (Some o) = by.starts S o
start_or S None = false

-- what names no type, and begins a statement, is no word
none_word : (T : State) (us rest : List Token) → First (statement_starts T) us → type_name_at T (head_of (us ++ rest)) ≡ None
    → en.word_at T false (head_of (us ++ rest)) ≡ false
none_word T us rest o is =
    let same_head : head_of (us ++ rest) ≡ Some o.first = ap (λ (z : List Token). head_of (z ++ rest)) o.is in
    ap (en.word_at T false) same_head ∙ by_kind o.first o.ok (sym (ap (type_name_at T) same_head) ∙ is) where
      by_kind : (o : CTokKind) → statement_starts T o ≡ true → type_name_at T (Some o) ≡ None → is_word T false o ≡ false
      by_kind (c.Ident k) ok e = by_test (is_type T k) e where
        by_test : (b : Bool) → cond {A = Option (List ℕ)} b (Some k) None ≡ None → b ≡ false
        by_test true e = absurd cc
        by_test false e = refl
      by_kind (c.Constant k) ok e = refl
      by_kind (c.Text k) ok e = refl
      by_kind (c.Mark k) ok e = start_word T (c.Mark k) ok refl

module _ (mode : Mode) (n : ℕ) (room : Heights) where
  abbrev Room : (c : Entry) → Parser (Tall (Tree (phrase_of c)))
  Room = reader mode n room

  expr_way : (S : State) (a : At) (o : CTokKind) → by.starts S o ≡ true
      → sr.statement_by mode Room room a (Some o) ≡ sr.expressed mode Room room
  expr_way S a (c.Ident x) e = refl
  expr_way S a (c.Constant x) e = refl
  expr_way S a (c.Text x) e = refl
  expr_way S a (c.Mark m.OpenParen) e = refl
  expr_way S a (c.Mark m.Sizeof) e = refl
  expr_way S a (c.Mark m.PlusPlus) e = refl
  expr_way S a (c.Mark m.MinusMinus) e = refl
  expr_way S a (c.Mark m.Ampersand) e = refl
  expr_way S a (c.Mark m.Star) e = refl
  expr_way S a (c.Mark m.Plus) e = refl
  expr_way S a (c.Mark m.Minus) e = refl
  expr_way S a (c.Mark m.Tilde) e = refl
  expr_way S a (c.Mark m.Exclamation) e = refl
  expr_way S a _ e = absurd cc

  control_way : (a : At) (o : CTokKind) (how : Control) (i : Input) → control_of (Some o) ≡ Some how
      → (sr.statement_by mode Room room a (Some o) i ≡ sr.control_rule mode Room room a how (next i)) × (en.starts_label (Some o) i ≡ false)
  control_way a (c.Mark m.Switch) how i e =
      (ap (λ (z : Option Control). sr.control_rule mode Room room a (control_some z) (next i)) e, refl)
  control_way a (c.Mark m.While) how i e = (ap (λ (z : Option Control). sr.control_rule mode Room room a (control_some z) (next i)) e, refl)
  control_way a _ how i e = absurd cc

  jump_way : (a : At) (o : CTokKind) (how : Jump) (i : Input) → jump_of (Some o) ≡ Some how
      → (sr.statement_by mode Room room a (Some o) i ≡ sr.jump_ mode Room room a how (next i)) × (en.starts_label (Some o) i ≡ false)
  jump_way a (c.Mark m.Continue) how i e = (ap (λ (z : Option Jump). sr.jump_ mode Room room a (jump_some z) (next i)) e, refl)
  jump_way a (c.Mark m.Break) how i e = (ap (λ (z : Option Jump). sr.jump_ mode Room room a (jump_some z) (next i)) e, refl)
  jump_way a _ how i e = absurd cc

  item_declares : (T : State) (all : List Token) (x : Tall Body) → word_comes (at all T) ≡ true → labels all ≡ false
      → sr.item mode Room room (false, x) (at all T) ≡ sr.declare_next mode Room room x (at all T)
  unfolding sr.item sr.typed_item sr.other_item word_comes spec_comes here head sees next
  item_declares T [] x word off = absurd cc
  item_declares T (t ∷ more) x word off = by_kind t.kind refl word off where
    by_kind : (o : CTokKind) → t.kind ≡ o → is_word T false o ≡ true → (ident_of o && is_mark m.Colon (head_of more)) ≡ false
        → sr.item_by mode Room room (false, x) t.at (type_name_at T (Some o)) (at (t ∷ more) T) ≡ sr.declare_next mode Room room x
        (at (t ∷ more) T)
    by_kind (c.Ident k) is w e = rw (w, e) refl
    by_kind (c.Mark k) is w e = rw (is, w) refl
    by_kind (c.Constant k) is w e = absurd cc
    by_kind (c.Text k) is w e = absurd cc

  item_does : (T U : State) (b : Bool) (us rest : List Token) (x : Body) (h f : Heights) (y : Stmt) → First (statement_starts T) us
      → StatementReads mode n room false T f us y U → is_mark m.Else (head_of rest) ≡ false
      → sr.item mode Room room (b, tall x h) (at (us ++ rest) T) ≡ Ok
      ((true, tall (record { declarations = x.declarations; statements = x.statements ++ y ∷ [] }) (join h f)), at rest U)
  unfolding sr.item sr.typed_item sr.other_item sr.label_next sr.do_next word_comes spec_comes here head
  item_does T U b us rest x h f y o r off = by_name (type_name_at T (head_of (us ++ rest))) refl where
    by_name : (k : Option (List ℕ)) → type_name_at T (head_of (us ++ rest)) ≡ k
        → sr.item_by mode Room room (b, tall x h) (at_of (us ++ rest)) k (at (us ++ rest) T) ≡ Ok
        ((true, tall (record { declarations = x.declarations; statements = x.statements ++ y ∷ [] }) (join h f)), at rest U)
    by_name (Some k) is = let l = r.label rest (λ _. off) k is in rw (or_second b _ l.0, l.1) refl
    by_name None is = rw (none_word T us rest o is, r.gives rest (λ _. off)) refl

module _ {mode : Mode} {n : ℕ} {room : Heights} where
  pub labelled_reads : {closed : Bool} {S T : State} {h : Heights} (a : At) (k : List ℕ) {ts : List Token} {x : Stmt}
      → Reads mode n room (g.behind_label closed a k) S h ts x T
      → Reads mode n room (g.statement closed) S h (name a k ++ ts) x T
  unfolding sr.statement_rule label_comes here head next
  labelled_reads {S = S} {T = T} {h = h} a k {ts = ts} {x = x} r = record {
    gives = λ rest ends.
        let given = r.gives rest ends in record {
          rule = rw (or_second (is_type S k) _ given.0, given.1) refl;
          label = λ n' is. (
            given.0,
            subst (λ (z : List ℕ). sr.colon_rule mode (Room mode n room) room a z (at (ts ++ rest) S) ≡ Ok
                (tall x h, at rest T)) (type_is (is_type S k) k n' is) given.1,
          );
        };
  }

  pub colon_reads : {closed : Bool} {a : At} {k : List ℕ} {S T : State} {h : Heights} (b : At) {ts : List Token} {x : Stmt}
      → StatementReads mode n room closed S h ts x T
      → Reads mode n room (g.behind_label closed a k) S (raise class.statement h) (mark b m.Colon ++ ts) (st.Label a k x) T
  unfolding sr.colon_rule sees head next expect same_mark
  colon_reads b r = record { gives = λ rest ends. (refl, rw (r.gives rest ends) refl) }

  pub case_reads : {closed : Bool} {S T U : State} {h f : Heights} (a b : At) {ts us : List Token} {x : Expr} {y : Stmt}
      → PartReads mode n room en.conditional S h ts x T → StatementReads mode n room closed T f us y U
      → Reads mode n room (g.statement closed) S (raise class.statement (join h f)) (mark a m.Case ++ ts ++ mark b m.Colon ++ us)
      (st.Case a x y) U
  unfolding sr.statement_rule sr.case_ label_comes sees here head next expect same_mark
  case_reads a b {ts = ts} {us = us} p r = placed (λ rest. mark a m.Case ++ (ts ++ (mark b m.Colon ++ (us ++ rest))))
      (λ rest. simp append_assoc) (λ rest ends.
      record { rule = rw (p.gives (mark b m.Colon ++ (us ++ rest)) (omega arith), r.gives rest ends) refl; label = λ n' is. absurd cc })

  pub default_reads : {closed : Bool} {S T : State} {h : Heights} (a b : At) {ts : List Token} {x : Stmt}
      → StatementReads mode n room closed S h ts x T
      → Reads mode n room (g.statement closed) S (raise class.statement h) (mark a m.Default ++ mark b m.Colon ++ ts) (st.Default a x) T
  unfolding sr.statement_rule sr.default_ label_comes sees here head next expect same_mark
  default_reads a b r = record { gives = λ rest ends. record { rule = rw (r.gives rest ends) refl; label = λ n' is. absurd cc } }

  pub compound_reads : {closed : Bool} {S T : State} {h : Heights} {ts : List Token} {x : Block}
      → First (λ o. is_mark m.OpenBrace (Some o)) ts → Reads mode n room g.block S h ts x T
      → Reads mode n room (g.statement closed) S h ts (st.Block x) T
  unfolding sr.statement_rule sr.compound label_comes here head
  compound_reads {S = S} {ts = ts} o r = record {
    gives = λ rest ends.
        let is = first_is m.OpenBrace o rest in
        record { rule = rw (is, r.gives rest tt) refl; label = λ n' e. absurd (let e' = sym (ap (type_name_at S) is) ∙ e in cc) };
  }

  expression_given : {S T : State} {h : Heights} (a : At) (ts : List Token) {x : Option Expr}
      → (is_empty ts ≡ false → First (by.starts S) ts) → (is_empty ts ≡ false → Unlabelled ts)
      → Reads mode n room (g.optional g.comma) S h ts x T
      → (rest : List Token) → StatementGiven mode n room (at (ts ++ (mark a m.Semicolon ++ rest)) S)
      (tall (st.Expression (expr_or a x) x) (raise class.statement h)) (at rest T)
  unfolding sr.statement_rule sr.expressed label_comes sees here head next expect same_mark
  expression_given a [] o l r rest = record
      { rule = rw (r.gives (mark a m.Semicolon ++ rest) tt m.Semicolon refl refl) refl; label = λ n' is. absurd cc }
  expression_given {S = S} a (t ∷ ts) o l r rest =
      let ok : by.starts S t.kind ≡ true = by_first {P = by.starts S} (λ z. start_or S z) true (λ k e. e) (o refl) [] in
      let off = start_label S t.kind t.at (ts ++ (mark a m.Semicolon ++ rest)) ok ((l refl).off (mark a m.Semicolon ++ rest) refl) in
      record {
        rule = rw (off, expr_way mode n room S t.at t.kind ok, r.gives (mark a m.Semicolon ++ rest) tt m.Semicolon refl refl) refl;
        label = λ n' is. absurd (let e = sym (type_none S t.kind (start_plain S t.kind ok)) ∙ is in cc);
      }

  pub expression_reads : {closed : Bool} {S T : State} {h : Heights} (a : At) {ts : List Token} {x : Option Expr}
      → (is_empty ts ≡ false → First (by.starts S) ts) → (is_empty ts ≡ false → Unlabelled ts)
      → Reads mode n room (g.optional g.comma) S h ts x T
      → Reads mode n room (g.statement closed) S (raise class.statement h) (ts ++ mark a m.Semicolon) (st.Expression (expr_or a x) x) T
  expression_reads a {ts = ts} o l r = placed (λ rest. ts ++ (mark a m.Semicolon ++ rest)) (λ rest. simp append_assoc)
      (λ rest ends. expression_given a ts o l r rest)

  pub if_reads : {S T U : State} {h f : Heights} (a b b' : At) {ts us : List Token} {x : Expr} {y : Stmt}
      → PartReads mode n room en.comma S h ts x T → StatementReads mode n room false T f us y U
      → Reads mode n room (g.statement false) S (raise class.statement (join h f))
      (mark a m.If ++ mark b m.OpenParen ++ ts ++ mark b' m.CloseParen ++ us) (st.If a x y None) U
  unfolding sr.statement_rule sr.if_ sr.test label_comes sees here head next after expect same_mark
  if_reads a b b' {ts = ts} {us = us} p r = placed
      (λ rest. mark a m.If ++ (mark b m.OpenParen ++ (ts ++ (mark b' m.CloseParen ++ (us ++ rest))))) (λ rest. simp append_assoc)
      (λ rest ends.
      record {
        rule = rw (p.gives (mark b' m.CloseParen ++ (us ++ rest)) (omega arith), r.gives rest ends, ends refl) refl;
        label = λ n'
            is. absurd cc;
      })

  pub if_else_reads : {closed : Bool} {S T U V : State} {h f v : Heights} (a b b' b'' : At) {ts us vs : List Token} {x : Expr} {y z : Stmt}
      → PartReads mode n room en.comma S h ts x T → StatementReads mode n room true T f us y U
      → StatementReads mode n room closed U v vs z V
      → Reads mode n room (g.statement closed) S (raise class.statement (join h (join f v)))
      (mark a m.If ++ mark b m.OpenParen ++ ts ++ mark b' m.CloseParen ++ us ++ mark b'' m.Else ++ vs) (st.If a x y (Some z)) V
  unfolding sr.statement_rule sr.if_ sr.otherwise sr.test label_comes sees here head next after expect same_mark
  if_else_reads a b b' b'' {ts = ts} {us = us} {vs = vs} p r q = placed
      (λ rest. mark a m.If ++ (mark b m.OpenParen ++ (ts ++ (mark b' m.CloseParen ++ (us ++ (mark b'' m.Else ++ (vs ++ rest)))))))
      (λ rest. simp append_assoc) (λ rest ends.
      record {
        rule = rw (
          p.gives (mark b' m.CloseParen ++ (us ++ (mark b'' m.Else ++ (vs ++ rest)))) (omega arith),
          r.gives
              (mark b'' m.Else ++ (vs ++ rest)) (λ e. absurd cc),
          q.gives rest ends,
        ) refl;
        label = λ n' is. absurd cc;
      })

  pub control_reads : {closed : Bool} {S T U : State} {h f : Heights} (a b b' : At) (o : CTokKind) {ts us : List Token} {how : Control}
      {x : Expr} {y : Stmt} → control_of (Some o) ≡ Some how
      → PartReads mode n room en.comma S h ts x T → StatementReads mode n room closed T f us y U
      → Reads mode n room (g.statement closed) S (raise class.statement (join h f))
      ((tok o a ∷ []) ++ mark b m.OpenParen ++ ts ++ mark b' m.CloseParen ++ us) (controlled how a x y) U
  unfolding sr.statement_rule sr.control_rule sr.test label_comes sees here head next expect same_mark
  control_reads {S = S} a b b' o {ts = ts} {us = us} {how = how} is p r = placed
      (λ rest. (tok o a ∷ []) ++ (mark b m.OpenParen ++ (ts ++ (mark b' m.CloseParen ++ (us ++ rest))))) (λ rest. simp append_assoc)
      (λ rest ends.
      let way = control_way mode n room a o how
      (at ((tok o a ∷ []) ++ (mark b m.OpenParen ++ (ts ++ (mark b' m.CloseParen ++ (us ++ rest))))) S) is in
      record {
        rule = rw (way.1, way.0, p.gives (mark b' m.CloseParen ++ (us ++ rest)) (omega arith), r.gives rest ends) refl;
        label = λ n' e. absurd (let e' = sym (type_none S o (control_plain S o how is)) ∙ e in cc);
      })

  pub do_reads : {closed : Bool} {S T U : State} {h f : Heights} (a a' b b' b'' : At) {ts us : List Token} {x : Stmt} {y : Expr}
      → StatementReads mode n room false S h ts x T → PartReads mode n room en.comma T f us y U
      → Reads mode n room (g.statement closed) S (raise class.statement (join h f))
      (mark a m.Do ++ ts ++ mark a' m.While ++ mark b m.OpenParen ++ us ++ mark b' m.CloseParen ++ mark b'' m.Semicolon) (st.Do a x y) U
  unfolding sr.statement_rule sr.do_ sr.test label_comes sees here head next expect same_mark
  do_reads a a' b b' b'' {ts = ts} {us = us} r p =
      placed (λ rest. mark a m.Do ++ (ts ++ (mark a'
      m.While ++ (mark b m.OpenParen ++ (us ++ (mark b' m.CloseParen ++ (mark b'' m.Semicolon ++ rest)))))))
      (λ rest. simp append_assoc) (λ rest ends.
      record {
        rule = rw (
          r.gives (mark a' m.While ++ (mark b m.OpenParen ++ (us ++ (mark b' m.CloseParen ++ (mark b'' m.Semicolon ++ rest)))))
              (λ _. refl),
          p.gives (mark b' m.CloseParen ++ (mark b'' m.Semicolon ++ rest)) (omega arith),
        ) refl;
        label = λ n' is. absurd cc;
      })

  pub for_reads : {closed : Bool} {S T U : State} {h f : Heights} (a b b' : At) {ts us : List Token} {x : ForHead} {y : Stmt}
      → Reads mode n room g.for_head S h ts x T → StatementReads mode n room closed T f us y U
      → Reads mode n room (g.statement closed) S (raise class.statement (join h f))
      (mark a m.For ++ mark b m.OpenParen ++ ts ++ mark b' m.CloseParen ++ us) (st.For a x y) U
  unfolding sr.statement_rule sr.for_ label_comes sees here head next expect same_mark
  for_reads a b b' {ts = ts} {us = us} p r = placed
      (λ rest. mark a m.For ++ (mark b m.OpenParen ++ (ts ++ (mark b' m.CloseParen ++ (us ++ rest))))) (λ rest. simp append_assoc)
      (λ rest ends.
      record { rule = rw (p.gives (mark b' m.CloseParen ++ (us ++ rest)) refl, r.gives rest ends) refl; label = λ n' is. absurd cc })

  pub heads_read : {S T U V : State} {h f v : Heights} (a b : At) {ts us vs : List Token} {x y z : Option Expr}
      → Reads mode n room (g.optional g.comma) S h ts x T → Reads mode n room (g.optional g.comma) T f us y U
      → Reads mode n room (g.optional g.comma) U v vs z V
      → Reads mode n room g.for_head S (join h (join f v)) (ts ++ mark a m.Semicolon ++ us ++ mark b m.Semicolon ++ vs)
      (record { start = x; test = y; step = z }) V
  unfolding sr.for_head sees head next expect same_mark
  heads_read a b {ts = ts} {us = us} {vs = vs} p q r = placed
      (λ rest. ts ++ (mark a m.Semicolon ++ (us ++ (mark b m.Semicolon ++ (vs ++ rest))))) (λ rest. simp append_assoc) (λ rest ends.
      rw (
        p.gives (mark a m.Semicolon ++ (us ++ (mark b m.Semicolon ++ (vs ++ rest)))) tt m.Semicolon refl refl,
        q.gives
            (mark b m.Semicolon ++ (vs ++ rest)) tt m.Semicolon refl refl,
        r.gives rest tt m.CloseParen refl (mark_is m.CloseParen (head_of rest) ends),
      ) refl)

  pub goto_reads : {closed : Bool} {S : State} (a b b' : At) (k : List ℕ)
      → Reads mode n room (g.statement closed) S (raise class.statement none) (mark a m.Goto ++ name b k ++ mark b' m.Semicolon)
      (st.Goto a k) S
  unfolding sr.statement_rule sr.goto_ label_comes sees here head next expect same_mark
  goto_reads a b b' k = record { gives = λ rest ends. record { rule = refl; label = λ n' is. absurd cc } }

  pub jump_reads : {closed : Bool} {S : State} (a b : At) (o : CTokKind) {how : Jump} → jump_of (Some o) ≡ Some how
      → Reads mode n room (g.statement closed) S (raise class.statement none) ((tok o a ∷ []) ++ mark b m.Semicolon) (jumping how a) S
  unfolding sr.statement_rule sr.jump_ label_comes sees here head next expect same_mark
  jump_reads {S = S} a b o {how = how} is = record {
    gives = λ rest ends.
        let way = jump_way mode n room a o how (at ((tok o a ∷ []) ++ (mark b m.Semicolon ++ rest)) S) is in
        record { rule = rw (way.1, way.0) refl; label = λ n' e. absurd (let e' = sym (type_none S o (jump_plain S o how is)) ∙ e in cc) };
  }

  pub return_reads : {closed : Bool} {S T : State} {h : Heights} (a b : At) {ts : List Token} {x : Option Expr}
      → Reads mode n room (g.optional g.comma) S h ts x T
      → Reads mode n room (g.statement closed) S (raise class.statement h) (mark a m.Return ++ ts ++ mark b m.Semicolon) (st.Return a x) T
  unfolding sr.statement_rule sr.return_ label_comes sees here head next expect same_mark
  return_reads a b {ts = ts} r = placed (λ rest. mark a m.Return ++ (ts ++ (mark b m.Semicolon ++ rest))) (λ rest. simp append_assoc)
      (λ rest ends.
      record { rule = rw (r.gives (mark b m.Semicolon ++ rest) tt m.Semicolon refl refl) refl; label = λ n' is. absurd cc })

  -- ---- blocks

  pub braced_reads : {b' : Bool} {S T : State} {h : Heights} (a b : At) {ts : List Token} {x : Body}
      → Reads mode n room (g.body b') S h ts x T
      → Reads mode n room g.block S (raise class.statement h) (mark a m.OpenBrace ++ ts ++ mark b m.CloseBrace)
      (record { at = a; declarations = x.declarations; statements = x.statements; closing = b.number }) (leave S T)
  unfolding sr.braced body_comes sees here head next expect same_mark
  braced_reads a b {ts = ts} r = placed (λ rest. mark a m.OpenBrace ++ (ts ++ (mark b m.CloseBrace ++ rest))) (λ rest. simp append_assoc)
      (λ rest _.
      rw (all_turns (r.gives (mark b m.CloseBrace ++ rest) refl) refl) refl)

  pub empty_reads : {S : State} → Reads mode n room (g.body false) S none [] (record { declarations = []; statements = [] }) S
  empty_reads = record { gives = λ rest off. begun _ starts }

  pub declared_more_reads : {S T U : State} {h f : Heights} {ts us : List Token} {x : Body} {y : Declaration}
      → First (λ o. is_word T false o) us → Never labels us
      → Reads mode n room (g.body false) S h ts x T → Reads mode n room g.declaration T f us y U
      → Reads mode n room (g.body false) S (join h f) (ts ++ us)
      (record { declarations = x.declarations ++ y ∷ []; statements = x.statements }) U
  unfolding sr.declare_next left
  declared_more_reads {T = T} {h = h} {ts = ts} {us = us} {x = x} o l r q = placed (λ rest. ts ++ (us ++ rest)) (λ rest. simp append_assoc)
      (λ rest off.
      turned (r.gives (us ++ rest) (off_first m.Else refl o rest)) (body_on _ T us rest refl o)
      (item_declares mode n room T (us ++ rest) (tall x h) (word_first T o rest) (l.off rest) ∙ rw
      (declaration_given mode n room (q.gives rest tt)) refl) (shorter us rest o))

  pub done_more_reads : {b : Bool} {S T U : State} {h f : Heights} {ts us : List Token} {x : Body} {y : Stmt}
      → First (statement_starts T) us
      → Reads mode n room (g.body b) S h ts x T → StatementReads mode n room false T f us y U
      → Reads mode n room (g.body true) S (join h f) (ts ++ us)
      (record { declarations = x.declarations; statements = x.statements ++ y ∷ [] }) U
  unfolding left
  done_more_reads {b = b} {T = T} {U = U} {h = h} {f = f} {ts = ts} {us = us} {x = x} {y = y} o r q = placed (λ rest. ts ++ (us ++ rest))
      (λ rest. simp append_assoc) (λ rest off.
      turned (r.gives (us ++ rest) (off_first m.Else refl o rest)) (body_on _ T us rest refl o)
      (item_does mode n room T U b us rest x h f y o q off) (shorter us rest o))
