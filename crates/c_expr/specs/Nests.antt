-- What function values that read expressions, initializers and type names have to give.
use Rattle.c_tree.specs.declared.declaration.Init.{Init}
use Rattle.c_tree.specs.declared.expr.Expr.{Expr}
use Rattle.c_tree.specs.declared.expr.TypeName.{TypeName}
use Rattle.c_tree.specs.declared.height.Heights.{Heights}
use Rattle.c_tree.specs.declared.height.Tall.{Tall}
use Rattle.c_decl.specs.declared.kind.Mode.{Mode}
use Rattle.c_decl.specs.Input.{Parser}
use Rattle.c_decl.specs.Entries as e
use Rattle.c_decl.specs.Nests.{parts_of}
use Rattle.c_decl.specs.Declarators as d
use Rattle.c_decl.specs.Reading as r
use Rattle.c_expr.specs.declared.part.ExprPart.{ExprPart}
use Rattle.c_expr.specs.declared.part.ExprPart.TheVariants as part

abbrev pub expr_of : Mode → Heights → ExprPart → Parser (Tall Expr)
expr_of m room part.Comma = parts_of m room e.comma
expr_of m room part.Assignment = parts_of m room e.assignment
expr_of m room part.Conditional = parts_of m room e.conditional
expr_of m room part.Cast = parts_of m room e.cast
expr_of m room part.Unary = parts_of m room e.unary
expr_of m room (part.Binary above) = parts_of m room (e.binary above)

abbrev pub type_name_of : Mode → Heights → Unit {0} → Parser (Tall TypeName)
type_name_of m room _ = d.type_name m (parts_of m room) room

abbrev pub init_of : Mode → Heights → Unit {0} → Parser (Tall Init)
init_of m room _ = parts_of m room e.init

-- one layer of the rules
abbrev pub layer_of : Mode → Heights → ExprPart → Parser (Tall Expr)
layer_of m room part.Comma = r.layer m (parts_of m room) room e.comma
layer_of m room part.Assignment = r.layer m (parts_of m room) room e.assignment
layer_of m room part.Conditional = r.layer m (parts_of m room) room e.conditional
layer_of m room part.Cast = r.layer m (parts_of m room) room e.cast
layer_of m room part.Unary = r.layer m (parts_of m room) room e.unary
layer_of m room (part.Binary above) = r.layer m (parts_of m room) room (e.binary above)
