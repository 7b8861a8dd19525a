-- Where nodes begin: at their first token.
use Rattle.std.specs.Prelude.{Option, Some, None}
use Rattle.c_tree.specs.declared.at.At.{At}
use Rattle.c_tree.specs.declared.expr.Declarator.{Declarator, Declarator-F, out-Declarator}
use Rattle.c_tree.specs.declared.expr.Enumerator.{Enumerator}
use Rattle.c_tree.specs.declared.expr.Expr.{Expr, Expr-F, out-Expr}
use Rattle.c_tree.specs.declared.expr.Member.{Member}
use Rattle.c_tree.specs.declared.expr.Param.{Param}
use Rattle.c_tree.specs.declared.expr.Slot.{Slot}
use Rattle.c_tree.specs.declared.expr.Spec.{Spec, Spec-F, out-Spec}
use Rattle.c_tree.specs.declared.expr.Specs.{Specs}
use Rattle.c_tree.specs.declared.expr.TypeName.{TypeName}

abbrev pub expr_begins : Expr-F Declarator Expr Slot Spec Enumerator Member Param Specs TypeName → At
expr_begins (Expr-F.Ident at _) = at
expr_begins (Expr-F.Constant at _ _) = at
expr_begins (Expr-F.Text at _) = at
expr_begins (Expr-F.Paren at _) = at
expr_begins (Expr-F.Subscript at _ _) = at
expr_begins (Expr-F.Call at _ _) = at
expr_begins (Expr-F.Member at _ _ _) = at
expr_begins (Expr-F.Postfix at _ _) = at
expr_begins (Expr-F.Prefix at _ _) = at
expr_begins (Expr-F.Unary at _ _) = at
expr_begins (Expr-F.SizeofExpr at _) = at
expr_begins (Expr-F.SizeofType at _) = at
expr_begins (Expr-F.Cast at _ _) = at
expr_begins (Expr-F.Binary at _ _ _) = at
expr_begins (Expr-F.Conditional at _ _ _) = at
expr_begins (Expr-F.Assign at _ _ _) = at
expr_begins (Expr-F.Comma at _ _) = at

unfoldable pub expr_at : Expr → At
expr_at x = expr_begins (out-Expr x)

abbrev pub spec_begins : Spec-F Declarator Expr Slot Spec Enumerator Member Param Specs TypeName → At
spec_begins (Spec-F.Word at _) = at
spec_begins (Spec-F.Record at _ _ _) = at
spec_begins (Spec-F.RecordTag at _ _) = at
spec_begins (Spec-F.Enum at _ _ _) = at
spec_begins (Spec-F.EnumTag at _) = at
spec_begins (Spec-F.Alias at _) = at

unfoldable pub spec_at : Spec → At
spec_at x = spec_begins (out-Spec x)

abbrev pub declarator_begins : Declarator-F Declarator Expr Slot Spec Enumerator Member Param Specs TypeName → Option At
declarator_begins Declarator-F.Nothing = None
declarator_begins (Declarator-F.Name at _) = Some at
declarator_begins (Declarator-F.Grouped at _) = Some at
declarator_begins (Declarator-F.Pointer at _ _) = Some at
declarator_begins (Declarator-F.Array at _ _) = Some at
declarator_begins (Declarator-F.Function at _ _ _) = Some at

unfoldable pub declarator_at : Declarator → Option At
declarator_at x = declarator_begins (out-Declarator x)

-- an expression begins there, or else what stands behind it
abbrev pub expr_or : At → Option Expr → At
expr_or at None = at
expr_or at (Some x) = expr_at x

abbrev pub or_at : At → Option At → At
or_at at None = at
or_at at (Some first) = first
