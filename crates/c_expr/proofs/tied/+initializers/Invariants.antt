use Rattle.c_tree.specs.Heights.{sum}
use Rattle.c_expr.proofs.tied.+initializers.Given as goal

abbrev pub decreases-init : goal.decreases-init
decreases-init l = sum l.room
