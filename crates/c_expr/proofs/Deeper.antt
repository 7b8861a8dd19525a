-- One layer of the readers of expressions.
use Rattle.std.proofs.Common.{◌≡◌, ◌<◌, Err}
use Rattle.c_tree.specs.declared.height.Heights.{Heights}
use Rattle.c_tree.specs.Heights as class
use Rattle.c_tree.specs.Heights.{lower, count}
use Rattle.c_decl.specs.declared.kind.Mode.{Mode}
use Rattle.c_decl.specs.Entries as e
use Rattle.c_decl.specs.Input.{Input, refusal}
use Rattle.c_decl.proofs.Deeper.{reader_is, reader_none}
use Rattle.c_expr.specs.declared.part.ExprPart.{ExprPart}
use Rattle.c_expr.specs.declared.part.ExprPart.TheVariants as part
use Rattle.c_expr.specs.Nests.{expr_of, layer_of}

pub expr_is : (m : Mode) (room : Heights) (p : ExprPart) (i : Input) → 0 < room.expression
    → expr_of m room p i ≡ layer_of m (lower class.expression room) p i
unfolding count
expr_is m room part.Comma i some = reader_is m room e.comma i some
expr_is m room part.Assignment i some = reader_is m room e.assignment i some
expr_is m room part.Conditional i some = reader_is m room e.conditional i some
expr_is m room part.Cast i some = reader_is m room e.cast i some
expr_is m room part.Unary i some = reader_is m room e.unary i some
expr_is m room (part.Binary k) i some = reader_is m room (e.binary k) i some

pub expr_none : (m : Mode) (room : Heights) (p : ExprPart) (i : Input) → room.expression ≡ 0 → expr_of m room p i ≡ Err (refusal i)
unfolding count
expr_none m room part.Comma i none = reader_none m room e.comma i none
expr_none m room part.Assignment i none = reader_none m room e.assignment i none
expr_none m room part.Conditional i none = reader_none m room e.conditional i none
expr_none m room part.Cast i none = reader_none m room e.cast i none
expr_none m room part.Unary i none = reader_none m room e.unary i none
expr_none m room (part.Binary k) i none = reader_none m room (e.binary k) i none
