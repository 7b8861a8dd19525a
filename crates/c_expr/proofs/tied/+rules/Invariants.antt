use Rattle.std.proofs.Common.{◌+◌, ◌*◌}
use Rattle.c_tree.specs.Heights.{sum}
use Rattle.c_expr.proofs.tied.+rules.Given as goal

abbrev pub decreases-expr : goal.decreases-expr
decreases-expr l = 4 * sum l.room

abbrev pub decreases-slot : goal.decreases-slot
decreases-slot l = 4 * sum l.room + 1

abbrev pub decreases-type_name : goal.decreases-type_name
decreases-type_name l = 4 * sum l.room + 2

abbrev pub decreases-declarator : goal.decreases-declarator
decreases-declarator l = 4 * sum l.room

abbrev pub decreases-members : goal.decreases-members
decreases-members l = 4 * sum l.room
