-- What is derived whole, with nothing left out, has the tokens of its tree.
use Rattle.std.proofs.Common.{◌≡◌, ℕ, suc, true, false, not, List, [], ◌∷◌, ◌++◌, map, Option, Some, None, Ok, is_some, append_assoc, append-nil, refl, sym, ap, ◌∙◌}
use Rattle.c_tok.specs.declared.mark.Mark.TheVariants as m
use Rattle.c_tok.specs.declared.token.CTok.{CTok}
use Rattle.c_tree.specs.declared.at.At.{At}
use Rattle.c_tree.specs.declared.height.Heights.{Heights}
use Rattle.c_tree.specs.declared.expr.Declarator.{Declarator, Declarator-F}
use Rattle.c_tree.specs.declared.expr.Declarator.TheVariants as dr
use Rattle.c_tree.specs.declared.expr.Expr.{Expr, Expr-F}
use Rattle.c_tree.specs.declared.expr.Expr.TheVariants as e
use Rattle.c_tree.specs.declared.expr.Slot.{Slot, Slot-F}
use Rattle.c_tree.specs.declared.expr.Slot.TheVariants as sl
use Rattle.c_tree.specs.declared.expr.Spec.{Spec-F}
use Rattle.c_tree.specs.declared.expr.Spec.TheVariants as sp
use Rattle.c_tree.specs.declared.declaration.Init.{Init-F}
use Rattle.c_tree.specs.declared.declaration.Init.TheVariants as i
use Rattle.c_tree.specs.declared.stmt.External.{External}
use Rattle.c_tree.specs.declared.stmt.Stmt.{Stmt, Stmt-F}
use Rattle.c_tree.specs.declared.stmt.Stmt.TheVariants as st
use Rattle.c_tree.specs.declared.stmt.Unit.{Unit as UnitTree}
use Rattle.c_tree.specs.Begins.{expr_at, expr_or}
use Rattle.c_tree.specs.Specs.{one_spec, with_spec}
use Rattle.c_decl.specs.declared.kind.Control.{Control}
use Rattle.c_decl.specs.declared.kind.Control.TheVariants as control
use Rattle.c_decl.specs.declared.kind.Jump.{Jump}
use Rattle.c_decl.specs.declared.kind.Jump.TheVariants as jump
use Rattle.c_decl.specs.declared.kind.Mode.TheVariants.{Whole}
use Rattle.c_decl.specs.declared.marking.Marked.TheVariants.{OldStyle, ImplicitInt, BitField}
use Rattle.c_decl.specs.Tokens.{Token, numbered}
use Rattle.c_decl.specs.State.{State, declare, declares, enter, leave, leave_out, leave_out_all}
use Rattle.c_decl.specs.Grammar as g
use Rattle.c_decl.specs.Grammar.{Phrase, Tree, Derives, begins, controlled, jumping}
use Rattle.c_decl.specs.Spelled as s
use Rattle.c_decl.specs.Spelled.{Kinds, kinds, all, behind_commas, given, tokens_of_declarator, tokens_of_expr, tokens_of_slot, tokens_of_declaration, tokens_of_init_declarator, tokens_of_head, tokens_of_param, tokens_of_spec, tokens_of_stmt, tokens_of_unit}
use Rattle.c_decl.specs.Units.{Spells, Parses}
use Rattle.c_decl.proofs.SpelledLists.{tokens, told, Shows, parted_shows, shown, kinds_none, kinds_more, on_tokens, behind_more, none_given, no_mark, declares_clear, unless_clear}
use Rattle.c_decl.proofs.SpelledMarks.{mark_of_control, mark_of_jump, infix_is, assign_is, unary_is, step_is, access_is, word_is, record_is, pointer_is, control_is, jump_is}
use Rattle.c_decl.proofs.SpelledTrees.{declarator_shows, expr_shows, slot_shows, spec_shows, enumerator_shows, member_shows, param_shows, specs_shows, type_name_shows, init_shows, stmt_shows, block_shows, specs_are}

-- Where nothing is left out behind it, nothing is before it, and it shows its tokens.
record Spelled (p : Phrase) (S : State) (ts : List Token) (x : Tree p) : Type 0 where
  before : S.marked ≡ None
  shows : told p ≡ true → Shows p ts x

so : {p : Phrase} {S : State} {ts : List Token} {x : Tree p} → S.marked ≡ None → Shows p ts x → Spelled p S ts x
so b s = record { before = b; shows = λ _. s }

untold : {p : Phrase} {S : State} {ts : List Token} {x : Tree p} → S.marked ≡ None → told p ≡ false → Spelled p S ts x
untold b un = record { before = b; shows = λ is. absurd cc }

array_shows : {ks : Kinds} (a : At) (x : Declarator) (size : Option Slot)
    → ks ≡ tokens_of_declarator x ++ s.mark m.OpenBracket ++ given tokens_of_slot size ++ s.mark m.CloseBracket → ks ≡ tokens_of_declarator (dr.Array a x size)
array_shows a x None e = declarator_shows (Declarator-F.Array a x None) (dr.rolls-Array a x None) e
array_shows a x (Some size) e = declarator_shows (Declarator-F.Array a x (Some size)) (dr.rolls-Array a x (Some size)) e

control_shows : {ks : Kinds} (how : Control) (a : At) (x : Expr) (y : Stmt)
    → ks ≡ s.mark (mark_of_control how) ++ s.mark m.OpenParen ++ tokens_of_expr x ++ s.mark m.CloseParen ++ tokens_of_stmt y → ks ≡ tokens_of_stmt (controlled how a x y)
control_shows control.Switch a x y e = stmt_shows (Stmt-F.Switch a x y) (st.rolls-Switch a x y) e
control_shows control.While a x y e = stmt_shows (Stmt-F.While a x y) (st.rolls-While a x y) e

jump_shows : {ks : Kinds} (how : Jump) (a : At) → ks ≡ s.mark (mark_of_jump how) ++ s.mark m.Semicolon → ks ≡ tokens_of_stmt (jumping how a)
jump_shows jump.Continue a e = stmt_shows (Stmt-F.Continue a) (st.rolls-Continue a) e
jump_shows jump.Break a e = stmt_shows (Stmt-F.Break a) (st.rolls-Break a) e

nothing_is : tokens_of_declarator dr.Nothing ≡ []
nothing_is = sym (declarator_shows Declarator-F.Nothing dr.rolls-Nothing refl)

spelled : {p : Phrase} {S T : State} {h : Heights} {ts : List Token} {x : Tree p} → Derives Whole p S h ts x T → T.marked ≡ None → Spelled p S ts x
unfolding all behind_commas declare enter leave leave_out leave_out_all tokens_of_init_declarator tokens_of_declaration tokens_of_head
-- lists
spelled (g.one {p = p} {ts = ts} {x = x} d) un = let r = spelled d un in
    record { before = r.before; shows = λ is. simp (on_tokens, shown p ts x (r.shows is)) }
spelled (g.another {p = p} a {us = us} {xs = xs} {y = y} d k) un = let q = spelled k un in let r = spelled d q.before in
    record { before = r.before; shows = λ is. simp (on_tokens, behind_more, ← r.shows is, shown p us y (q.shows is)) }
spelled (g.first {p = p} {ts = ts} {x = x} d) un = let r = spelled d un in
    record { before = r.before; shows = λ is. simp (on_tokens, shown p ts x (r.shows is)) }
spelled (g.further {p = p} {us = us} {xs = xs} {y = y} d k) un = let q = spelled k un in let r = spelled d q.before in
    record { before = r.before; shows = λ is. simp (on_tokens, r.shows is, shown p us y (q.shows is)) }
spelled g.left_out un = so un kinds_none
spelled (g.given {p = p} {ts = ts} {x = x} d) un = let r = spelled d un in record { before = r.before; shows = λ is. shown p ts x (r.shows is) }
-- expressions
spelled (g.named {a = a} {n = n} is) un = so un (expr_shows (Expr-F.Ident a n) (e.rolls-Ident a n) (simp on_tokens))
spelled (g.constant {a = a} {v = v}) un = so un (expr_shows (Expr-F.Constant a v.value v.kind) (e.rolls-Constant a v.value v.kind) (simp on_tokens))
spelled (g.text {a = a} {bytes = bytes}) un = so un (expr_shows (Expr-F.Text a bytes) (e.rolls-Text a bytes) (simp on_tokens))
spelled (g.paren a b {x = x} d) un = let r = spelled d un in
    so r.before (expr_shows (Expr-F.Paren a x) (e.rolls-Paren a x) (simp (on_tokens, r.shows refl)))
spelled (g.simple d) un = let r = spelled d un in so r.before (r.shows refl)
spelled (g.subscript a b {x = x} {y = y} d k) un = let q = spelled k un in let r = spelled d q.before in
    so r.before (expr_shows (Expr-F.Subscript (expr_at x) x y) (e.rolls-Subscript (expr_at x) x y)
    (simp (on_tokens, r.shows refl, q.shows refl)))
spelled (g.call a b {us = us} {x = x} {ys = ys} d k) un = let q = spelled k un in let r = spelled d q.before in
    so r.before (expr_shows (Expr-F.Call (expr_at x) x ys) (e.rolls-Call (expr_at x) x ys)
    (simp (on_tokens, r.shows refl, q.shows refl)))
spelled (g.reached a b o n {how = how} {x = x} is d) un = let r = spelled d un in
    so r.before (expr_shows (Expr-F.Member (expr_at x) how x n) (e.rolls-Member (expr_at x) how x n)
    (simp (on_tokens, r.shows refl, access_is is)))
spelled (g.stepped a o {how = how} {x = x} is d) un = let r = spelled d un in
    so r.before (expr_shows (Expr-F.Postfix (expr_at x) how x) (e.rolls-Postfix (expr_at x) how x) (simp (on_tokens, r.shows refl, step_is is)))
spelled g.no_arguments un = so un kinds_none
spelled (g.some_arguments {xs = xs} d) un = let r = spelled d un in so r.before (parted_shows (map tokens_of_expr xs) (r.shows refl))
spelled (g.bare d) un = let r = spelled d un in so r.before (r.shows refl)
spelled (g.step a o {how = how} {x = x} is d) un = let r = spelled d un in
    so r.before (expr_shows (Expr-F.Prefix a how x) (e.rolls-Prefix a how x) (simp (on_tokens, r.shows refl, step_is is)))
spelled (g.prefixed a o {op = op} {x = x} is d) un = let r = spelled d un in
    so r.before (expr_shows (Expr-F.Unary a op x) (e.rolls-Unary a op x) (simp (on_tokens, r.shows refl, unary_is is)))
spelled (g.measured a {x = x} d) un = let r = spelled d un in
    so r.before (expr_shows (Expr-F.SizeofExpr a x) (e.rolls-SizeofExpr a x) (simp (on_tokens, r.shows refl)))
spelled (g.measured_type a b b' {x = x} d) un = let r = spelled d un in
    so r.before (expr_shows (Expr-F.SizeofType a x) (e.rolls-SizeofType a x) (simp (on_tokens, r.shows refl)))
spelled (g.uncast d) un = let r = spelled d un in so r.before (r.shows refl)
spelled (g.converted a b {to = to} {x = x} d k) un = let q = spelled k un in let r = spelled d q.before in
    so r.before (expr_shows (Expr-F.Cast a to x) (e.rolls-Cast a to x) (simp (on_tokens, r.shows refl, q.shows refl)))
spelled (g.operand d) un = let r = spelled d un in so r.before (r.shows refl)
spelled (g.operated a o {op = op} {x = x} {y = y} is few d k) un = let q = spelled k un in let r = spelled d q.before in
    so r.before (expr_shows (Expr-F.Binary (expr_at x) op x y) (e.rolls-Binary (expr_at x) op x y)
    (simp (on_tokens, r.shows refl, q.shows refl, infix_is is)))
spelled (g.tested d) un = let r = spelled d un in so r.before (r.shows refl)
spelled (g.chosen a b {x = x} {y = y} {z = z} d k l) un = let t = spelled l un in let q = spelled k t.before in let r = spelled d q.before in
    so r.before (expr_shows (Expr-F.Conditional (expr_at x) x y z) (e.rolls-Conditional (expr_at x) x y z)
    (simp (on_tokens, r.shows refl, q.shows refl, t.shows refl)))
spelled (g.valued d) un = let r = spelled d un in so r.before (r.shows refl)
spelled (g.assigned a o {op = op} {x = x} {y = y} is d k) un = let q = spelled k un in let r = spelled d q.before in
    so r.before (expr_shows (Expr-F.Assign (expr_at x) op x y) (e.rolls-Assign (expr_at x) op x y)
    (simp (on_tokens, r.shows refl, q.shows refl, assign_is is)))
spelled (g.alone d) un = let r = spelled d un in so r.before (r.shows refl)
spelled (g.joined a {x = x} {y = y} d k) un = let q = spelled k un in let r = spelled d q.before in
    so r.before (expr_shows (Expr-F.Comma (expr_at x) x y) (e.rolls-Comma (expr_at x) x y)
    (simp (on_tokens, r.shows refl, q.shows refl)))
spelled (g.value {x = x} d) un = let r = spelled d un in so r.before (init_shows (Init-F.Value x) (i.rolls-Value x) (r.shows refl))
spelled (g.braces a b b' comma_ends {ts = ts} {xs = xs} d) un = let r = spelled d un in
    so r.before (init_shows (Init-F.Braces a xs comma_ends) (i.rolls-Braces a xs comma_ends)
    (simp (on_tokens, shown (g.parted g.init) ts xs (r.shows refl))))
-- spans are in no tree
spelled g.begun un = untold un refl
spelled (g.over a o is d) un = untold (spelled d un).before refl
spelled (g.within a b o close is plain d k) un = untold (spelled d (spelled k un).before).before refl
spelled (g.typed a b d k) un = untold (spelled d (spelled k un).before).before refl
spelled (g.spanned d) un = untold (spelled d un).before refl
spelled (g.whole {x = x} is d) un = let r = spelled d un in so r.before (slot_shows (Slot-F.Read x) (sl.rolls-Read x) (r.shows refl))
spelled (g.passed_over t is d) un = absurd cc
-- specifiers
spelled (g.word a o {w = w} is allowed) un = so un (spec_shows (Spec-F.Word a w) (sp.rolls-Word a w) (simp (on_tokens, word_is is)))
spelled (g.record_with a b o n {kind = kind} {xs = xs} is d) un = let r = spelled d un in
    so r.before (spec_shows (Spec-F.Record a kind n xs) (sp.rolls-Record a kind n xs)
    (simp on_tokens (simp (on_tokens, r.shows refl, record_is is))))
spelled (g.record_tag a b o n {kind = kind} is) un = so un (spec_shows (Spec-F.RecordTag a kind n) (sp.rolls-RecordTag a kind n) (simp (on_tokens, record_is is)))
spelled (g.enum_with a a' b b' b'' n comma_ends {ts = ts} {xs = xs} d) un = let r = spelled d un in
    so r.before (spec_shows (Spec-F.Enum a n xs comma_ends) (sp.rolls-Enum a n xs comma_ends)
    (simp (on_tokens, shown (g.parted g.enumerator) ts xs (r.shows refl))))
spelled (g.enum_tag a b n) un = so un (spec_shows (Spec-F.EnumTag a n) (sp.rolls-EnumTag a n) (simp on_tokens))
spelled (g.alias {a = a} {n = n} is) un = so un (spec_shows (Spec-F.Alias a n) (sp.rolls-Alias a n) (simp on_tokens))
spelled (g.a_spec {x = x} d) un = let r = spelled d un in so r.before (specs_shows (one_spec x) (simp (on_tokens, r.shows refl)))
spelled (g.more_specs {xs = xs} {y = y} d k) un = let q = spelled k un in let r = spelled d q.before in
    so r.before (specs_shows (with_spec xs y) (simp (on_tokens, r.shows refl, q.shows refl, specs_are)))
spelled (g.specified {T = T} {x = x} d) un = let r = spelled d (unless_clear (not x.is_typed) ImplicitInt x.at T un).1 in so r.before (r.shows refl)
spelled (g.enclosed a b d) un = let r = spelled d un in so r.before (simp (on_tokens, r.shows refl))
spelled (g.member_of {U = U} a has_width {us = us} {x = x} {ys = ys} d k) un =
    let c = unless_clear has_width BitField x.at U un in let q = spelled k c.1 in let r = spelled d q.before in
    so r.before (member_shows _ (simp (
      on_tokens,
      r.shows refl,
      shown (g.parted (g.field has_width x.is_typed)) us ys (q.shows (ap not c.0)),
    )))
spelled (g.plain_field d) un = let r = spelled d un in so r.before (r.shows refl)
spelled (g.width a d) un = untold (spelled d un).before refl
spelled (g.field_width a d k) un = untold (spelled d (spelled k un).before).before refl
spelled g.counted un = so un (enumerator_shows _ (simp on_tokens))
spelled (g.counted_from a b n d) un = let r = spelled d un in so r.before (enumerator_shows _ (simp (on_tokens, r.shows refl)))
-- declarators
spelled (g.straight d) un = let r = spelled d un in so r.before (r.shows refl)
spelled (g.starred a {ws = ws} {x = x} d k) un = let q = spelled k un in let r = spelled d q.before in
    so r.before (declarator_shows (Declarator-F.Pointer a ws x.tree) (dr.rolls-Pointer a ws x.tree) (simp (on_tokens, r.shows refl, q.shows refl)))
spelled (g.pointed a {ws = ws} is d) un = let r = spelled d un in
    so r.before (declarator_shows (Declarator-F.Pointer a ws dr.Nothing) (dr.rolls-Pointer a ws dr.Nothing)
    (simp (on_tokens, r.shows refl, nothing_is, append-nil (s.pointer_words ws))))
spelled g.no_words un = so un kinds_none
spelled (g.more_words a o is d) un = let r = spelled d un in so r.before (simp (on_tokens, r.shows refl, pointer_is is))
spelled (g.solid is d) un = let r = spelled d un in so r.before (r.shows refl)
spelled (g.absent is) un = so un (simp (on_tokens, nothing_is))
spelled (g.naming {a = a} {n = n} is plain) un = so un (declarator_shows (Declarator-F.Name a n) (dr.rolls-Name a n) (simp on_tokens))
spelled (g.grouped a b {x = x} is d) un = let r = spelled d un in
    so r.before (declarator_shows (Declarator-F.Grouped a x.tree) (dr.rolls-Grouped a x.tree) (simp (on_tokens, r.shows refl)))
spelled (g.array a b {x = x} {size = size} d k) un = let q = spelled k un in let r = spelled d q.before in
    so r.before (array_shows (begins a x) x.tree size (simp (on_tokens, r.shows refl, q.shows refl)))
spelled (g.function a b {x = x} {ps = ps} d k) un = let q = spelled k un in let r = spelled d q.before in
    so r.before (declarator_shows (Declarator-F.Function (begins a x) x.tree ps.items ps.is_variadic) (dr.rolls-Function (begins a x) x.tree ps.items ps.is_variadic)
    (simp (on_tokens, r.shows refl, q.shows refl)))
spelled (g.old_style a b is d k) un = no_mark un
spelled (g.an_identifier is) un = untold un refl
spelled (g.more_identifiers a b n is d) un = untold (spelled d un).before refl
spelled g.no_parameters un = so un kinds_none
spelled (g.some_parameters {ts = ts} {xs = xs} d) un = let r = spelled d un in so r.before (simp (on_tokens, shown (g.parted g.param) ts xs (r.shows refl)))
spelled (g.variadic a b {ts = ts} {xs = xs} d) un = let r = spelled d un in
    so r.before (simp (on_tokens, shown (g.parted g.param) ts xs (r.shows refl)))
spelled (g.unnamed d) un = let r = spelled d un in so r.before (param_shows _ (simp (on_tokens, r.shows refl, nothing_is)))
spelled (g.declared {U = U} {x = x} {y = y} d k) un = let q = spelled k (declares_clear y.name x.is_typedef U un) in let r = spelled d q.before in
    so r.before (param_shows _ (simp (on_tokens, r.shows refl, q.shows refl)))
spelled (g.type_alone d) un = let r = spelled d un in so r.before (type_name_shows _ (simp (on_tokens, r.shows refl, nothing_is)))
spelled (g.type_of d k) un = let q = spelled k un in let r = spelled d q.before in
    so r.before (type_name_shows _ (simp (on_tokens, r.shows refl, q.shows refl)))
-- declarations
spelled (g.plainly {is_typedef = is_typedef} {T = T} {x = x} d) un = let r = spelled d (declares_clear x.name is_typedef T un) in
    so r.before (simp (on_tokens, r.shows refl))
spelled (g.initialized {is_typedef = is_typedef} {T = T} a {x = x} d k) un =
    let q = spelled k un in let r = spelled d (declares_clear x.name is_typedef T q.before) in
    so r.before (simp (on_tokens, r.shows refl, q.shows refl))
spelled (g.declares_none a d) un = let r = spelled d un in so r.before (simp (on_tokens, r.shows refl))
spelled (g.declares_some a {us = us} {x = x} {ys = ys} d k) un = let q = spelled k un in let r = spelled d q.before in
    so r.before (simp (on_tokens, r.shows refl, shown (g.parted (g.init_declarator x.is_typed x.is_typedef)) us ys (q.shows refl)))
-- statements
spelled (g.labelled a n d) un = let r = spelled d un in so r.before (simp (kinds_more, r.shows refl))
spelled (g.colon {a = a} {n = n} b {x = x} d) un = let r = spelled d un in
    so r.before (stmt_shows (Stmt-F.Label a n x) (st.rolls-Label a n x) (simp (on_tokens, r.shows refl)))
spelled (g.case_ a b {x = x} {y = y} d k) un = let q = spelled k un in let r = spelled d q.before in
    so r.before (stmt_shows (Stmt-F.Case a x y) (st.rolls-Case a x y) (simp (on_tokens, r.shows refl, q.shows refl)))
spelled (g.default_ a b {x = x} d) un = let r = spelled d un in
    so r.before (stmt_shows (Stmt-F.Default a x) (st.rolls-Default a x) (simp (on_tokens, r.shows refl)))
spelled (g.compound {x = x} d) un = let r = spelled d un in so r.before (stmt_shows (Stmt-F.Block x) (st.rolls-Block x) (r.shows refl))
spelled (g.expression a {x = x} d) un = let r = spelled d un in
    so r.before (stmt_shows (Stmt-F.Expression (expr_or a x) x) (st.rolls-Expression (expr_or a x) x) (simp (on_tokens, r.shows refl)))
spelled (g.if_ a b b' {x = x} {y = y} d k) un = let q = spelled k un in let r = spelled d q.before in
    so r.before (stmt_shows (Stmt-F.If a x y None) (st.rolls-If a x y None)
    (simp append_assoc (simp (on_tokens, r.shows refl, q.shows refl))))
spelled (g.if_else a b b' b'' {x = x} {y = y} {z = z} d k l) un = let t = spelled l un in let q = spelled k t.before in let r = spelled d q.before in
    so r.before (stmt_shows (Stmt-F.If a x y (Some z)) (st.rolls-If a x y (Some z))
    (simp (on_tokens, r.shows refl, q.shows refl, t.shows refl)))
spelled (g.control_ a b b' o {how = how} {x = x} {y = y} is d k) un = let q = spelled k un in let r = spelled d q.before in
    so r.before (control_shows how a x y (simp on_tokens (simp (r.shows refl, q.shows refl, control_is is))))
spelled (g.do_ a a' b b' b'' {x = x} {y = y} d k) un = let q = spelled k un in let r = spelled d q.before in
    so r.before (stmt_shows (Stmt-F.Do a x y) (st.rolls-Do a x y) (simp (on_tokens, r.shows refl, q.shows refl)))
spelled (g.for_ a b b' {x = x} {y = y} d k) un = let q = spelled k un in let r = spelled d q.before in
    so r.before (stmt_shows (Stmt-F.For a x y) (st.rolls-For a x y) (simp (on_tokens, r.shows refl, q.shows refl)))
spelled (g.heads a b d k l) un = let t = spelled l un in let q = spelled k t.before in let r = spelled d q.before in
    so r.before (simp (on_tokens, r.shows refl, q.shows refl, t.shows refl))
spelled (g.goto_ a b b' n) un = so un (stmt_shows (Stmt-F.Goto a n) (st.rolls-Goto a n) (simp on_tokens))
spelled (g.jump_ a b o {how = how} is) un = so un (jump_shows how a (simp (on_tokens, jump_is is)))
spelled (g.return_ a b {x = x} d) un = let r = spelled d un in
    so r.before (stmt_shows (Stmt-F.Return a x) (st.rolls-Return a x) (simp (on_tokens, r.shows refl)))
spelled (g.braced {has_begun = has_begun} a b {ts = ts} {x = x} d) un = let r = spelled d un in
    so r.before (block_shows _ (simp (on_tokens, (r.shows refl).0)))
spelled g.empty un = so un (kinds_none, λ begun. refl)
spelled (g.declared_more {x = x} {y = y} d k) un = let q = spelled k un in let r = spelled d q.before in let s = r.shows refl in
    so r.before (simp (on_tokens, s.0, s.1 refl, q.shows refl), λ begun. s.1 refl)
spelled (g.done_more {x = x} {y = y} d k) un = let q = spelled k un in let r = spelled d q.before in let s = r.shows refl in
    so r.before (simp (on_tokens, s.0, q.shows refl), λ begun. absurd cc)
-- units
spelled (g.declaration_ d) un = let r = spelled d un in so r.before (r.shows refl)
spelled (g.definition {U = U} {W = W} {x = x} {y = y} {z = z} d k l w) un =
    let c = unless_clear (is_some z) OldStyle x.at (leave (declares y.name x.is_typedef U) W) un in
    let v = spelled w c.1 in let t = spelled l v.before in let q = spelled k (declares_clear y.name x.is_typedef U t.before) in let r = spelled d q.before in
    so r.before (simp (on_tokens, r.shows refl, q.shows refl, t.shows refl ∙ none_given (tokens (g.some g.declaration)) z c.0, v.shows refl))
spelled (g.implied_function d w) un = no_mark un
spelled (g.implied_declaration a d) un = no_mark un

pub tokens_are : {p : Phrase} {S T : State} {h : Heights} {ts : List Token} {x : Tree p} → Derives Whole p S h ts x T → T.marked ≡ None → told p ≡ true → kinds ts ≡ tokens p x
tokens_are {p = p} {ts = ts} {x = x} d un is = shown p ts x ((spelled d un).shows is)

pub spells_tokens : {ts : List Token} {x : List External} → Spells ts x None → kinds ts ≡ tokens_of_unit x
spells_tokens u = tokens_are u.derives refl refl

numbered_kinds : (k : ℕ) (ts : List CTok) → kinds (numbered k ts) ≡ map (λ t. t.kind) ts
unfolding kinds numbered
numbered_kinds k [] = refl
numbered_kinds k (t ∷ ts) = ap (λ z. t.kind ∷ z) (numbered_kinds (suc k) ts)

-- a unit's tree has the unit's tokens
pub unit_tokens : (ts : List CTok) (x : UnitTree) → Parses ts (Ok x) → map (λ t. t.kind) ts ≡ tokens_of_unit x.externals
unit_tokens ts x p = sym (numbered_kinds 0 ts) ∙ spells_tokens p.0
