use Rattle.std.proofs.Common.{◌+◌}
use Rattle.c_tree.specs.Heights.{sum}
use Rattle.c_decl.proofs.tied.+spans.Given as goal

abbrev pub decreases-slot : goal.decreases-slot
decreases-slot l = sum l.room + sum l.room + 1

abbrev pub decreases-span : goal.decreases-span
decreases-span l = sum l.room + sum l.room

abbrev pub decreases-decl : goal.decreases-decl
decreases-decl l = sum l.room + sum l.room

abbrev pub decreases-members : goal.decreases-members
decreases-members l = sum l.room + sum l.room
