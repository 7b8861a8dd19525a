-- The tokens of a node are those of its parts, with what stands between them.
use Rattle.std.proofs.Common.{◌≡◌, map, refl, sym, ap, ◌∙◌}
use Rattle.c_tree.specs.declared.expr.Declarator.{Declarator, Declarator-F, map-Declarator, fold-roll-Declarator, roll-Declarator}
use Rattle.c_tree.specs.declared.expr.Expr.{Expr, Expr-F, map-Expr, fold-roll-Expr, roll-Expr}
use Rattle.c_tree.specs.declared.expr.Slot.{Slot, Slot-F, map-Slot, fold-roll-Slot, roll-Slot}
use Rattle.c_tree.specs.declared.expr.Spec.{Spec, Spec-F, map-Spec, fold-roll-Spec, roll-Spec}
use Rattle.c_tree.specs.declared.expr.Enumerator.{Enumerator, map-Enumerator, fold_out-Enumerator, out-Enumerator}
use Rattle.c_tree.specs.declared.expr.Member.{Member, map-Member, fold_out-Member, out-Member}
use Rattle.c_tree.specs.declared.expr.Param.{Param, map-Param, fold_out-Param, out-Param}
use Rattle.c_tree.specs.declared.expr.Specs.{Specs, map-Specs, fold_out-Specs, out-Specs}
use Rattle.c_tree.specs.declared.expr.TypeName.{TypeName, map-TypeName, fold_out-TypeName, out-TypeName}
use Rattle.c_tree.specs.declared.declaration.Init.{Init, Init-F, map-Init, fold-roll-Init, roll-Init}
use Rattle.c_tree.specs.declared.stmt.Block.{Block, map-Block, fold_out-Block, out-Block}
use Rattle.c_tree.specs.declared.stmt.Stmt.{Stmt, Stmt-F, map-Stmt, fold-roll-Stmt, roll-Stmt}
use Rattle.c_decl.specs.Spelled.{Kinds, all, in_declarator, in_expr, in_slot, in_spec, in_enumerator, in_member, in_param, in_specs, in_type_name, in_init, in_stmt, in_block}
use Rattle.c_decl.specs.Spelled.{tokens_of_declarator, tokens_of_expr, tokens_of_slot, tokens_of_spec, tokens_of_enumerator, tokens_of_member, tokens_of_param, tokens_of_specs, tokens_of_type_name, tokens_of_init, tokens_of_stmt, tokens_of_block}

pub declarator_shows : {ks : Kinds} {x : Declarator} (y : Declarator-F Declarator Expr Slot Spec Enumerator Member Param Specs TypeName) → roll-Declarator y ≡ x
    → ks ≡ in_declarator (map-Declarator Declarator Expr Slot Spec Enumerator Member Param Specs TypeName Kinds Kinds Kinds Kinds Kinds Kinds Kinds Kinds Kinds
    tokens_of_declarator tokens_of_expr tokens_of_slot tokens_of_spec tokens_of_enumerator tokens_of_member tokens_of_param tokens_of_specs tokens_of_type_name y)
    → ks ≡ tokens_of_declarator x
unfolding tokens_of_declarator tokens_of_expr tokens_of_slot tokens_of_spec tokens_of_enumerator tokens_of_member tokens_of_param tokens_of_specs tokens_of_type_name
declarator_shows y is e = e ∙ sym (fold-roll-Declarator Kinds Kinds Kinds Kinds Kinds Kinds Kinds Kinds Kinds
    in_declarator in_expr in_slot in_spec in_enumerator in_member in_param in_specs in_type_name y) ∙ ap tokens_of_declarator is

pub expr_shows : {ks : Kinds} {x : Expr} (y : Expr-F Declarator Expr Slot Spec Enumerator Member Param Specs TypeName) → roll-Expr y ≡ x
    → ks ≡ in_expr (map-Expr Declarator Expr Slot Spec Enumerator Member Param Specs TypeName Kinds Kinds Kinds Kinds Kinds Kinds Kinds Kinds Kinds
    tokens_of_declarator tokens_of_expr tokens_of_slot tokens_of_spec tokens_of_enumerator tokens_of_member tokens_of_param tokens_of_specs tokens_of_type_name y)
    → ks ≡ tokens_of_expr x
unfolding tokens_of_declarator tokens_of_expr tokens_of_slot tokens_of_spec tokens_of_enumerator tokens_of_member tokens_of_param tokens_of_specs tokens_of_type_name
expr_shows y is e = e ∙ sym (fold-roll-Expr Kinds Kinds Kinds Kinds Kinds Kinds Kinds Kinds Kinds
    in_declarator in_expr in_slot in_spec in_enumerator in_member in_param in_specs in_type_name y) ∙ ap tokens_of_expr is

pub slot_shows : {ks : Kinds} {x : Slot} (y : Slot-F Declarator Expr Slot Spec Enumerator Member Param Specs TypeName) → roll-Slot y ≡ x
    → ks ≡ in_slot (map-Slot Declarator Expr Slot Spec Enumerator Member Param Specs TypeName Kinds Kinds Kinds Kinds Kinds Kinds Kinds Kinds Kinds
    tokens_of_declarator tokens_of_expr tokens_of_slot tokens_of_spec tokens_of_enumerator tokens_of_member tokens_of_param tokens_of_specs tokens_of_type_name y)
    → ks ≡ tokens_of_slot x
unfolding tokens_of_declarator tokens_of_expr tokens_of_slot tokens_of_spec tokens_of_enumerator tokens_of_member tokens_of_param tokens_of_specs tokens_of_type_name
slot_shows y is e = e ∙ sym (fold-roll-Slot Kinds Kinds Kinds Kinds Kinds Kinds Kinds Kinds Kinds
    in_declarator in_expr in_slot in_spec in_enumerator in_member in_param in_specs in_type_name y) ∙ ap tokens_of_slot is

pub spec_shows : {ks : Kinds} {x : Spec} (y : Spec-F Declarator Expr Slot Spec Enumerator Member Param Specs TypeName) → roll-Spec y ≡ x
    → ks ≡ in_spec (map-Spec Declarator Expr Slot Spec Enumerator Member Param Specs TypeName Kinds Kinds Kinds Kinds Kinds Kinds Kinds Kinds Kinds
    tokens_of_declarator tokens_of_expr tokens_of_slot tokens_of_spec tokens_of_enumerator tokens_of_member tokens_of_param tokens_of_specs tokens_of_type_name y)
    → ks ≡ tokens_of_spec x
unfolding tokens_of_declarator tokens_of_expr tokens_of_slot tokens_of_spec tokens_of_enumerator tokens_of_member tokens_of_param tokens_of_specs tokens_of_type_name
spec_shows y is e = e ∙ sym (fold-roll-Spec Kinds Kinds Kinds Kinds Kinds Kinds Kinds Kinds Kinds
    in_declarator in_expr in_slot in_spec in_enumerator in_member in_param in_specs in_type_name y) ∙ ap tokens_of_spec is

pub enumerator_shows : {ks : Kinds} (x : Enumerator)
    → ks ≡ in_enumerator (map-Enumerator Declarator Expr Slot Spec Enumerator Member Param Specs TypeName Kinds Kinds Kinds Kinds Kinds Kinds Kinds Kinds Kinds
    tokens_of_declarator tokens_of_expr tokens_of_slot tokens_of_spec tokens_of_enumerator tokens_of_member tokens_of_param tokens_of_specs tokens_of_type_name (out-Enumerator x))
    → ks ≡ tokens_of_enumerator x
unfolding tokens_of_declarator tokens_of_expr tokens_of_slot tokens_of_spec tokens_of_enumerator tokens_of_member tokens_of_param tokens_of_specs tokens_of_type_name
enumerator_shows x e = e ∙ sym (fold_out-Enumerator Kinds Kinds Kinds Kinds Kinds Kinds Kinds Kinds Kinds
    in_declarator in_expr in_slot in_spec in_enumerator in_member in_param in_specs in_type_name x)

pub member_shows : {ks : Kinds} (x : Member)
    → ks ≡ in_member (map-Member Declarator Expr Slot Spec Enumerator Member Param Specs TypeName Kinds Kinds Kinds Kinds Kinds Kinds Kinds Kinds Kinds
    tokens_of_declarator tokens_of_expr tokens_of_slot tokens_of_spec tokens_of_enumerator tokens_of_member tokens_of_param tokens_of_specs tokens_of_type_name (out-Member x))
    → ks ≡ tokens_of_member x
unfolding tokens_of_declarator tokens_of_expr tokens_of_slot tokens_of_spec tokens_of_enumerator tokens_of_member tokens_of_param tokens_of_specs tokens_of_type_name
member_shows x e = e ∙ sym (fold_out-Member Kinds Kinds Kinds Kinds Kinds Kinds Kinds Kinds Kinds
    in_declarator in_expr in_slot in_spec in_enumerator in_member in_param in_specs in_type_name x)

pub param_shows : {ks : Kinds} (x : Param)
    → ks ≡ in_param (map-Param Declarator Expr Slot Spec Enumerator Member Param Specs TypeName Kinds Kinds Kinds Kinds Kinds Kinds Kinds Kinds Kinds
    tokens_of_declarator tokens_of_expr tokens_of_slot tokens_of_spec tokens_of_enumerator tokens_of_member tokens_of_param tokens_of_specs tokens_of_type_name (out-Param x))
    → ks ≡ tokens_of_param x
unfolding tokens_of_declarator tokens_of_expr tokens_of_slot tokens_of_spec tokens_of_enumerator tokens_of_member tokens_of_param tokens_of_specs tokens_of_type_name
param_shows x e = e ∙ sym (fold_out-Param Kinds Kinds Kinds Kinds Kinds Kinds Kinds Kinds Kinds
    in_declarator in_expr in_slot in_spec in_enumerator in_member in_param in_specs in_type_name x)

pub specs_shows : {ks : Kinds} (x : Specs)
    → ks ≡ in_specs (map-Specs Declarator Expr Slot Spec Enumerator Member Param Specs TypeName Kinds Kinds Kinds Kinds Kinds Kinds Kinds Kinds Kinds
    tokens_of_declarator tokens_of_expr tokens_of_slot tokens_of_spec tokens_of_enumerator tokens_of_member tokens_of_param tokens_of_specs tokens_of_type_name (out-Specs x))
    → ks ≡ tokens_of_specs x
unfolding tokens_of_declarator tokens_of_expr tokens_of_slot tokens_of_spec tokens_of_enumerator tokens_of_member tokens_of_param tokens_of_specs tokens_of_type_name
specs_shows x e = e ∙ sym (fold_out-Specs Kinds Kinds Kinds Kinds Kinds Kinds Kinds Kinds Kinds
    in_declarator in_expr in_slot in_spec in_enumerator in_member in_param in_specs in_type_name x)

pub type_name_shows : {ks : Kinds} (x : TypeName)
    → ks ≡ in_type_name (map-TypeName Declarator Expr Slot Spec Enumerator Member Param Specs TypeName Kinds Kinds Kinds Kinds Kinds Kinds Kinds Kinds Kinds
    tokens_of_declarator tokens_of_expr tokens_of_slot tokens_of_spec tokens_of_enumerator tokens_of_member tokens_of_param tokens_of_specs tokens_of_type_name (out-TypeName x))
    → ks ≡ tokens_of_type_name x
unfolding tokens_of_declarator tokens_of_expr tokens_of_slot tokens_of_spec tokens_of_enumerator tokens_of_member tokens_of_param tokens_of_specs tokens_of_type_name
type_name_shows x e = e ∙ sym (fold_out-TypeName Kinds Kinds Kinds Kinds Kinds Kinds Kinds Kinds Kinds
    in_declarator in_expr in_slot in_spec in_enumerator in_member in_param in_specs in_type_name x)

pub init_shows : {ks : Kinds} {x : Init} (y : Init-F Init) → roll-Init y ≡ x → ks ≡ in_init (map-Init Init Kinds tokens_of_init y) → ks ≡ tokens_of_init x
unfolding tokens_of_init
init_shows y is e = e ∙ sym (fold-roll-Init Kinds in_init y) ∙ ap tokens_of_init is

pub stmt_shows : {ks : Kinds} {x : Stmt} (y : Stmt-F Stmt Block) → roll-Stmt y ≡ x
    → ks ≡ in_stmt (map-Stmt Stmt Block Kinds Kinds tokens_of_stmt tokens_of_block y) → ks ≡ tokens_of_stmt x
unfolding tokens_of_stmt tokens_of_block
stmt_shows y is e = e ∙ sym (fold-roll-Stmt Kinds Kinds in_stmt in_block y) ∙ ap tokens_of_stmt is

pub block_shows : {ks : Kinds} (x : Block) → ks ≡ in_block (map-Block Stmt Block Kinds Kinds tokens_of_stmt tokens_of_block (out-Block x)) → ks ≡ tokens_of_block x
unfolding tokens_of_stmt tokens_of_block
block_shows x e = e ∙ sym (fold_out-Block Kinds Kinds in_stmt in_block x)

pub specs_are : (x : Specs) → tokens_of_specs x ≡ all (map tokens_of_spec x.items)
specs_are x = sym (specs_shows x refl)
