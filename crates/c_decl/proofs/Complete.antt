-- What is derived is read, whatever follows, as long as it can't go on with it.
use Rattle.std.proofs.Common.{◌≡◌, ℕ, ◌≤◌, true, false, List, Some, refl, ap, ◌∙◌}
use Rattle.c_tree.specs.declared.expr.Expr.{Expr, Expr-F, out-Expr}
use Rattle.c_tree.specs.declared.expr.Expr.TheVariants as e
use Rattle.c_tree.specs.declared.expr.Slot.{Slot}
use Rattle.c_tree.specs.declared.expr.Spec.{Spec}
use Rattle.c_tree.specs.declared.expr.Specs.{Specs}
use Rattle.c_tree.specs.declared.expr.Member.{Member}
use Rattle.c_tree.specs.declared.expr.Enumerator.{Enumerator}
use Rattle.c_tree.specs.declared.expr.Declarator.{Declarator}
use Rattle.c_tree.specs.declared.expr.Param.{Param}
use Rattle.c_tree.specs.declared.expr.TypeName.{TypeName}
use Rattle.c_tree.specs.declared.height.Heights.{Heights}
use Rattle.c_tree.specs.Heights as class
use Rattle.c_tree.specs.Heights.{join, sum, Below}
use Rattle.c_tree.specs.Begins.{expr_at}
use Rattle.c_decl.specs.declared.kind.DeclKind.TheVariants as k
use Rattle.c_decl.specs.declared.kind.Mode.{Mode}
use Rattle.c_decl.specs.Tokens.{Token}
use Rattle.c_decl.specs.State.{State}
use Rattle.c_decl.specs.Marks.{tight}
use Rattle.c_decl.specs.Grammar as g
use Rattle.c_decl.specs.Grammar.{Phrase, Tree, Derives}
use Rattle.c_decl.specs.Entries as en
use Rattle.c_decl.specs.Entries.{is_unary}
use Rattle.c_decl.proofs.Room.{inner_below, higher_below}
use Rattle.c_decl.proofs.Begins.{begins, item_begins}
use Rattle.c_decl.proofs.Seconds.{no_cast, label_of, empty_stem}
use Rattle.c_decl.proofs.Claims.{raised_for, Reads}
use Rattle.c_decl.proofs.Children.{expression_room, lefts, rights, child, statement_child, counted}
use Rattle.c_decl.proofs.CompleteLists.{item_reads, one_reads, another_reads, first_reads, further_reads, left_out_reads, given_reads, braces_reads}
use Rattle.c_decl.proofs.CompleteExpressions.{named_reads, constant_reads, text_reads, paren_reads, simple_reads, subscript_reads, call_reads, reached_reads, stepped_reads, no_arguments_read, some_arguments_read, bare_reads, step_reads, prefixed_reads, measured_reads, measured_type_reads, uncast_reads, converted_reads, operand_reads, operated_reads, tested_reads, chosen_reads, valued_reads, assigned_reads, alone_reads, joined_reads, value_reads}
use Rattle.c_decl.proofs.CompleteSpecs.{whole_reads, passed_over_reads, begun_reads, over_reads, within_reads, typed_reads, spanned_reads, word_reads, record_with_reads, record_tag_reads, enum_with_reads, enum_tag_reads, alias_reads, a_spec_reads, more_specs_read, specified_reads, enclosed_reads, member_of_reads, plain_field_reads, width_reads, field_width_reads, counted_reads, counted_from_reads}
use Rattle.c_decl.proofs.CompleteDeclarators.{straight_reads, starred_reads, pointed_reads, no_words_read, more_words_read, solid_reads, absent_reads, naming_reads, grouped_reads, array_reads, function_reads, old_style_reads, an_identifier_reads, more_identifiers_read, no_parameters_read, some_parameters_read, variadic_reads, unnamed_reads, declared_reads, type_alone_reads, type_of_reads, plainly_reads, initialized_reads}
use Rattle.c_decl.proofs.CompleteStatements.{labelled_reads, colon_reads, case_reads, default_reads, compound_reads, expression_reads, if_reads, if_else_reads, control_reads, do_reads, for_reads, heads_read, goto_reads, jump_reads, return_reads, braced_reads, empty_reads, declared_more_reads, done_more_reads}
use Rattle.c_decl.proofs.CompleteUnits.{declares_none_reads, declares_some_reads, declaration_reads, definition_reads, implied_function_reads, implied_declaration_reads}

-- ---- what is unary by derivation is so by its top node

abbrev UnaryTop : (p : Phrase) → Tree p → Type 0
UnaryTop g.primary x = is_unary x ≡ true
UnaryTop g.postfix x = is_unary x ≡ true
UnaryTop g.unary x = is_unary x ≡ true
UnaryTop _ x = Unit {0}

at_top : (x : Expr) (y : Expr-F Declarator Expr Slot Spec Enumerator Member Param Specs TypeName) → out-Expr x ≡ y
    → en.is_unary_at y ≡ true → is_unary x ≡ true
unfolding is_unary
at_top x y e ok = ap en.is_unary_at e ∙ ok

unary_top : {mode : Mode} {p : Phrase} {S T : State} {h : Heights} {ts : List Token} {x : Tree p} → Derives mode p S h ts x T → UnaryTop p x
unary_top (g.named {a = a} {n = n} is) = at_top _ _ (e.outs-Ident a n) refl
unary_top (g.constant {a = a} {v = v}) = at_top _ _ (e.outs-Constant a v.value v.kind) refl
unary_top (g.text {a = a} {bytes = bytes}) = at_top _ _ (e.outs-Text a bytes) refl
unary_top (g.paren a b {x = x} d) = at_top _ _ (e.outs-Paren a x) refl
unary_top (g.simple d) = unary_top d
unary_top (g.subscript a b {x = x} {y = y} d f) = at_top _ _ (e.outs-Subscript (expr_at x) x y) refl
unary_top (g.call a b {x = x} {ys = ys} d f) = at_top _ _ (e.outs-Call (expr_at x) x ys) refl
unary_top (g.reached a b o n {how = how} {x = x} is d) = at_top _ _ (e.outs-Member (expr_at x) how x n) refl
unary_top (g.stepped a o {how = how} {x = x} is d) = at_top _ _ (e.outs-Postfix (expr_at x) how x) refl
unary_top (g.bare d) = unary_top d
unary_top (g.step a o {how = how} {x = x} is d) = at_top _ _ (e.outs-Prefix a how x) refl
unary_top (g.prefixed a o {op = op} {x = x} is d) = at_top _ _ (e.outs-Unary a op x) refl
unary_top (g.measured a {x = x} d) = at_top _ _ (e.outs-SizeofExpr a x) refl
unary_top (g.measured_type a b b' {x = x} d) = at_top _ _ (e.outs-SizeofType a x) refl
unary_top _ = tt

-- ---- all together

pub complete : {mode : Mode} {p : Phrase} {S T : State} {h : Heights} {ts : List Token} {x : Tree p} → Derives mode p S h ts x T
    → (n : ℕ) (room : Heights) → sum room ≤ n → Below h (raised_for p room) → Reads mode n room p S h ts x T
complete (g.one {p = p} d) n room few low = one_reads (item_reads p few low d (λ j l e b. complete d j l e b))
complete (g.another {p = p} {T = T} {h = h} {g = f} a {us = us} d k) n room few low =
    another_reads a (λ i. item_begins _ p T us i (begins k)) (complete d n room few (lefts h f low))
    (item_reads p few (rights h f low) k (λ j l e b. complete k j l e b))
complete (g.first {p = p} d) n room few low = first_reads (item_reads p few low d (λ j l e b. complete d j l e b))
complete (g.further {p = p} {T = T} {h = h} {g = f} {us = us} d k) n room few low =
    further_reads (λ i. item_begins _ p T us i (begins k)) (complete d n room few (lefts h f low))
    (item_reads p few (rights h f low) k (λ j l e b. complete k j l e b))
complete (g.left_out {p = p}) n room few low = left_out_reads p
complete (g.given {p = p} d) n room few low = given_reads p few low d (λ j l e b. complete d j l e b)
complete (g.named is) n room few low = named_reads is
complete g.constant n room few low = constant_reads
complete g.text n room few low = text_reads
complete (g.paren {h = h} a b d) n room few low =
    paren_reads a b (child en.comma few (inner_below class.expression h room low) (counted d) (λ j l e b. complete d j l e b))
complete (g.simple d) n room few low = simple_reads (complete d n room few low)
complete (g.subscript {h = h} {g = f} a b d k) n room few low =
    let inner : Below (join h f) room = inner_below class.expression (join h f) room low in
    subscript_reads a b (lefts h f inner) (complete d n room few (higher_below class.expression h room (lefts h f inner)))
    (child en.comma few (rights h f inner) (counted k) (λ j l e b. complete k j l e b))
complete (g.call {h = h} {g = f} a b d k) n room few low =
    let inner : Below (join h f) room = inner_below class.expression (join h f) room low in
    call_reads a b (lefts h f inner) (complete d n room few (higher_below class.expression h room (lefts h f inner)))
    (complete k n room few (rights h f inner))
complete (g.reached {h = h} a b o k is d) n room few low =
    let inner : Below h room = inner_below class.expression h room low in
    reached_reads a b o k inner is (complete d n room few (higher_below class.expression h room inner))
complete (g.stepped {h = h} a o is d) n room few low =
    let inner : Below h room = inner_below class.expression h room low in
    stepped_reads a o inner is (complete d n room few (higher_below class.expression h room inner))
complete g.no_arguments n room few low = no_arguments_read
complete (g.some_arguments d) n room few low = some_arguments_read (begins d refl) (complete d n room few low)
complete (g.bare d) n room few low = bare_reads (begins d) (complete d n room few low)
complete (g.step {h = h} a o is d) n room few low =
    step_reads a o is (child en.unary few (inner_below class.expression h room low) (counted d) (λ j l e b. complete d j l e b))
complete (g.prefixed {h = h} a o is d) n room few low =
    prefixed_reads a o is (child en.cast few (inner_below class.expression h room low) (counted d) (λ j l e b. complete d j l e b))
complete (g.measured {h = h} a d) n room few low =
    let inner : Below h room = inner_below class.expression h room low in
    measured_reads a (expression_room inner (counted d)) (no_cast d) (child en.unary few inner (counted d) (λ j l e b. complete d j l e b))
complete (g.measured_type {h = h} a b b' d) n room few low =
    measured_type_reads a b b' (begins d) (complete d n room few (inner_below class.expression h room low))
complete (g.uncast d) n room few low = uncast_reads (no_cast d) (complete d n room few low)
complete (g.converted {h = h} {g = f} a b d k) n room few low =
    let inner : Below (join h f) room = inner_below class.expression (join h f) room low in
    converted_reads a b (begins d) (complete d n room few (lefts h f inner))
    (child en.cast few (rights h f inner) (counted k) (λ j l e b. complete k j l e b))
complete (g.operand d) n room few low = operand_reads (complete d n room few low)
complete (g.operated {h = h} {g = f} a o is le d k) n room few low =
    let inner : Below (join h f) room = inner_below class.expression (join h f) room low in
    operated_reads a o (lefts h f inner) is le (complete d n room few (higher_below class.expression h room (lefts h f inner)))
    (child (en.binary (tight (Some o))) few (rights h f inner) (counted k) (λ j l e b. complete k j l e b))
complete (g.tested d) n room few low = tested_reads (complete d n room few low)
complete (g.chosen {h = h} {g = f} {f = v} a b d k c) n room few low =
    let inner : Below (join h (join f v)) room = inner_below class.expression (join h (join f v)) room low in
    let more : Below (join f v) room = rights h (join f v) inner in
    chosen_reads a b (lefts h (join f v) inner) (complete d n room few (higher_below class.expression h room (lefts h (join f v) inner)))
    (child en.comma few (lefts f v more) (counted k) (λ j l e b. complete k j l e b))
    (child en.conditional few (rights f v more) (counted c) (λ j l e b. complete c j l e b))
complete (g.valued d) n room few low = valued_reads (complete d n room few low)
complete (g.assigned {h = h} {g = f} a o is d k) n room few low =
    let inner : Below (join h f) room = inner_below class.expression (join h f) room low in
    assigned_reads a o (lefts h f inner) is (unary_top d)
    (tested_reads (operand_reads (uncast_reads (no_cast d)
    (complete d n room few (higher_below class.expression h room (lefts h f inner))))))
    (child en.assignment few (rights h f inner) (counted k) (λ j l e b. complete k j l e b))
complete (g.alone d) n room few low = alone_reads (complete d n room few low)
complete (g.joined {h = h} {g = f} a d k) n room few low =
    let inner : Below (join h f) room = inner_below class.expression (join h f) room low in
    joined_reads a (lefts h f inner) (complete d n room few (higher_below class.expression h room (lefts h f inner)))
    (child en.assignment few (rights h f inner) (counted k) (λ j l e b. complete k j l e b))
complete (g.value {h = h} d) n room few low =
    value_reads (begins d) (child en.assignment few (inner_below class.initializer h room low) (counted d) (λ j l e b. complete d j l e b))
complete (g.braces {h = h} a b b' comma_ends d) n room few low =
    braces_reads a b b' comma_ends (complete d n room few (inner_below class.initializer h room low))
complete g.begun n room few low = begun_reads
complete (g.over a o on d) n room few low = over_reads a o on (complete d n room few low)
complete (g.within {h = h} {g = f} a b o close is off d k) n room few low =
    within_reads a b o close is off (complete d n room few (lefts h f low))
    (child (en.span true) few (rights h f low) (counted k) (λ j l e b. complete k j l e b))
complete (g.typed {h = h} {g = f} a b d k) n room few low =
    typed_reads a b (begins k) (complete d n room few (lefts h f low)) (complete k n room few (rights h f low))
complete (g.spanned {h = h} d) n room few low = spanned_reads (complete d n room few (inner_below class.expression h room low))
complete (g.whole is d) n room few low = whole_reads is (child en.conditional few low (counted d) (λ j l e b. complete d j l e b))
complete (g.passed_over t is d) n room few low =
    passed_over_reads t is (begins d refl) (child (en.span false) few low (counted d) (λ j l e b. complete d j l e b))
complete (g.word a o is ok) n room few low = word_reads a o is ok
complete (g.record_with a b o k is d) n room few low =
    record_with_reads a b o k is (begins d) (child en.members few low (counted d) (λ j l e b. complete d j l e b))
complete (g.record_tag a b o k is) n room few low = record_tag_reads a b o k is
complete (g.enum_with a a' b b' b'' k comma_ends d) n room few low = enum_with_reads a a' b b' b'' k comma_ends (complete d n room few low)
complete (g.enum_tag a b k) n room few low = enum_tag_reads a b k
complete (g.alias is) n room few low = alias_reads is
complete (g.a_spec d) n room few low = a_spec_reads (complete d n room few low)
complete (g.more_specs {h = h} {g = f} d k) n room few low =
    more_specs_read (begins k) (complete d n room few (lefts h f low)) (complete k n room few (rights h f low))
complete (g.specified d) n room few low = specified_reads (complete d n room few low)
complete (g.enclosed {h = h} a b d) n room few low = enclosed_reads a b (complete d n room few (inner_below class.members h room low))
complete (g.member_of {h = h} {g = f} a w d k) n room few low =
    member_of_reads a w (begins k refl) (complete d n room few (lefts h f low)) (complete k n room few (rights h f low))
complete (g.plain_field {is_typed = typed} d) n room few low =
    plain_field_reads (begins d) (child (en.declarator k.Named typed) few low (counted d) (λ j l e b. complete d j l e b))
complete (g.width a d) n room few low = width_reads a (complete d n room few low)
complete (g.field_width {is_typed = typed} {h = h} {g = f} a d s) n room few low =
    field_width_reads a (begins d) (child (en.declarator k.Named typed) few (lefts h f low) (counted d) (λ j l e b. complete d j l e b))
    (complete s n room few (rights h f low))
complete g.counted n room few low = counted_reads
complete (g.counted_from a b k d) n room few low = counted_from_reads a b k (complete d n room few low)
complete (g.straight d) n room few low = straight_reads (begins d) (complete d n room few low)
complete (g.starred {kind = kind} {is_typed = typed} {h = h} {g = f} a d s) n room few low =
    let inner : Below (join h f) room = inner_below class.declarator (join h f) room low in
    starred_reads a (begins s) (complete d n room few (lefts h f inner))
    (child (en.direct kind typed) few (rights h f inner) (counted s) (λ j l e b. complete s j l e b))
complete (g.pointed {h = h} a is d) n room few low = pointed_reads a is (complete d n room few (inner_below class.declarator h room low))
complete g.no_words n room few low = no_words_read
complete (g.more_words a o is d) n room few low = more_words_read a o is (complete d n room few low)
complete (g.solid some d) n room few low = solid_reads some (complete d n room few low)
complete (g.absent is) n room few low = absent_reads
complete (g.naming is ok) n room few low = naming_reads is ok
complete (g.grouped {kind = kind} {is_typed = typed} {h = h} a b ok d) n room few low =
    grouped_reads a b ok (begins d) (child (en.declarator kind typed) few (inner_below class.declarator h room low) (counted d)
    (λ j l e b. complete d j l e b))
complete (g.array {h = h} {g = f} a b d k) n room few low =
    let inner : Below (join h f) room = inner_below class.declarator (join h f) room low in
    array_reads a b (lefts h f inner) (empty_stem d) (complete d n room few (higher_below class.declarator h room (lefts h f inner)))
    (complete k n room few (rights h f inner))
complete (g.function {h = h} {g = f} a b d k) n room few low =
    let inner : Below (join h f) room = inner_below class.declarator (join h f) room low in
    function_reads a b (lefts h f inner) (empty_stem d) (complete d n room few (higher_below class.declarator h room (lefts h f inner)))
    (complete k n room few (rights h f inner))
complete (g.old_style {h = h} {g = f} a b is d k) n room few low =
    let inner : Below (join h f) room = inner_below class.declarator (join h f) room low in
    old_style_reads a b (lefts h f inner) (empty_stem d) is (begins k)
    (complete d n room few (higher_below class.declarator h room (lefts h f inner))) (complete k n room few (rights h f inner))
complete (g.an_identifier is) n room few low = an_identifier_reads is
complete (g.more_identifiers a b k is d) n room few low = more_identifiers_read a b k is (complete d n room few low)
complete g.no_parameters n room few low = no_parameters_read
complete (g.some_parameters d) n room few low = some_parameters_read (begins d refl) (complete d n room few low)
complete (g.variadic a b d) n room few low = variadic_reads a b (begins d refl) (complete d n room few low)
complete (g.unnamed d) n room few low = unnamed_reads (complete d n room few low)
complete (g.declared {h = h} {g = f} {x = x} d s) n room few low =
    declared_reads (begins s) (complete d n room few (lefts h f low))
    (child (en.declarator k.Param x.is_typed) few (rights h f low) (counted s) (λ j l e b. complete s j l e b))
complete (g.type_alone d) n room few low = type_alone_reads (complete d n room few low)
complete (g.type_of {h = h} {g = f} {x = x} d s) n room few low =
    type_of_reads (begins s) (complete d n room few (lefts h f low))
    (child (en.declarator k.Abstract x.is_typed) few (rights h f low) (counted s) (λ j l e b. complete s j l e b))
complete (g.plainly {is_typed = typed} d) n room few low =
    plainly_reads (child (en.declarator k.Named typed) few low (counted d) (λ j l e b. complete d j l e b))
complete (g.initialized {is_typed = typed} {h = h} {g = f} a d s) n room few low =
    initialized_reads a (child (en.declarator k.Named typed) few (lefts h f low) (counted d) (λ j l e b. complete d j l e b))
    (child en.init few (rights h f low) (counted s) (λ j l e b. complete s j l e b))
complete (g.declares_none a d) n room few low = declares_none_reads a (complete d n room few low)
complete (g.declares_some {h = h} {g = f} a d s) n room few low =
    declares_some_reads a (begins s refl) (complete d n room few (lefts h f low)) (complete s n room few (rights h f low))
complete (g.labelled a k d) n room few low = labelled_reads a k (complete d n room few low)
complete (g.colon {h = h} b d) n room few low =
    colon_reads b (statement_child few (inner_below class.statement h room low) (counted d) (λ j l e b. complete d j l e b))
complete (g.case_ {h = h} {g = f} a b d s) n room few low =
    let inner : Below (join h f) room = inner_below class.statement (join h f) room low in
    case_reads a b (child en.conditional few (lefts h f inner) (counted d) (λ j l e b. complete d j l e b))
    (statement_child few (rights h f inner) (counted s) (λ j l e b. complete s j l e b))
complete (g.default_ {h = h} a b d) n room few low =
    default_reads a b (statement_child few (inner_below class.statement h room low) (counted d) (λ j l e b. complete d j l e b))
complete (g.compound d) n room few low = compound_reads (begins d) (complete d n room few low)
complete (g.expression {h = h} a d) n room few low =
    expression_reads a (begins d) (label_of d) (complete d n room few (inner_below class.statement h room low))
complete (g.if_ {h = h} {g = f} a b b' d s) n room few low =
    let inner : Below (join h f) room = inner_below class.statement (join h f) room low in
    if_reads a b b' (child en.comma few (lefts h f inner) (counted d) (λ j l e b. complete d j l e b))
    (statement_child few (rights h f inner) (counted s) (λ j l e b. complete s j l e b))
complete (g.if_else {h = h} {g = f} {f = v} a b b' b'' d s t) n room few low =
    let inner : Below (join h (join f v)) room = inner_below class.statement (join h (join f v)) room low in
    let more : Below (join f v) room = rights h (join f v) inner in
    if_else_reads a b b' b'' (child en.comma few (lefts h (join f v) inner) (counted d) (λ j l e b. complete d j l e b))
    (statement_child few (lefts f v more) (counted s) (λ j l e b. complete s j l e b))
    (statement_child few (rights f v more) (counted t) (λ j l e b. complete t j l e b))
complete (g.control_ {h = h} {g = f} a b b' o is d s) n room few low =
    let inner : Below (join h f) room = inner_below class.statement (join h f) room low in
    control_reads a b b' o is (child en.comma few (lefts h f inner) (counted d) (λ j l e b. complete d j l e b))
    (statement_child few (rights h f inner) (counted s) (λ j l e b. complete s j l e b))
complete (g.do_ {h = h} {g = f} a a' b b' b'' d s) n room few low =
    let inner : Below (join h f) room = inner_below class.statement (join h f) room low in
    do_reads a a' b b' b'' (statement_child few (lefts h f inner) (counted d) (λ j l e b. complete d j l e b))
    (child en.comma few (rights h f inner) (counted s) (λ j l e b. complete s j l e b))
complete (g.for_ {h = h} {g = f} a b b' d s) n room few low =
    let inner : Below (join h f) room = inner_below class.statement (join h f) room low in
    for_reads a b b' (complete d n room few (lefts h f inner))
    (statement_child few (rights h f inner) (counted s) (λ j l e b. complete s j l e b))
complete (g.heads {h = h} {g = f} {f = v} a b d s t) n room few low =
    let more : Below (join f v) room = rights h (join f v) low in
    heads_read a b (complete d n room few (lefts h (join f v) low)) (complete s n room few (lefts f v more))
    (complete t n room few (rights f v more))
complete (g.goto_ a b b' k) n room few low = goto_reads a b b' k
complete (g.jump_ a b o is) n room few low = jump_reads a b o is
complete (g.return_ {h = h} a b d) n room few low = return_reads a b (complete d n room few (inner_below class.statement h room low))
complete (g.braced {h = h} a b d) n room few low = braced_reads a b (complete d n room few (inner_below class.statement h room low))
complete g.empty n room few low = empty_reads
complete (g.declared_more {h = h} {g = f} d k) n room few low =
    declared_more_reads (begins k) (label_of k) (complete d n room few (lefts h f low)) (complete k n room few (rights h f low))
complete (g.done_more {h = h} {g = f} d s) n room few low =
    done_more_reads (begins s) (complete d n room few (lefts h f low))
    (statement_child few (rights h f low) (counted s) (λ j l e b. complete s j l e b))
complete (g.declaration_ d) n room few low = declaration_reads (begins d) (complete d n room few low)
complete (g.definition {h = h} {g = f} {f = v} {f' = u} {x = x} d s t w) n room few low =
    let more : Below (join f (join v u)) room = rights h (join f (join v u)) low in
    let last : Below (join v u) room = rights f (join v u) more in
    definition_reads (begins d) (begins s) (begins t) (begins w) (complete d n room few (lefts h (join f (join v u)) low))
    (child (en.declarator k.Named x.is_typed) few (lefts f (join v u) more) (counted s) (λ j l e b. complete s j l e b))
    (complete t n room few (lefts v u last)) (child en.block few (rights v u last) (counted w) (λ j l e b. complete w j l e b))
complete (g.implied_function {h = h} {g = f} d w) n room few low =
    implied_function_reads (begins d) (begins w)
    (child (en.declarator k.Named false) few (lefts h f low) (counted d) (λ j l e b. complete d j l e b))
    (child en.block few (rights h f low) (counted w) (λ j l e b. complete w j l e b))
complete (g.implied_declaration a d) n room few low = implied_declaration_reads a (begins d) (complete d n room few low)
