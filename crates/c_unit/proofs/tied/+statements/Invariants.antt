use Rattle.c_tree.specs.Heights.{sum}
use Rattle.c_unit.proofs.tied.+statements.Given as goal

abbrev pub decreases-statement : goal.decreases-statement
decreases-statement l = sum l.room
