use Rattle.c_decl.specs.Input as spec
use Rattle.c_decl.proofs.Numbered.{none_second}
use Rattle.c_decl.proofs.cursor.Cursor.peek_second.Goals as goal

pub returns-in_default : goal.returns-in_default
unfolding spec.head spec.next
returns-in_default c = rw (← c.self.view_is) (none_second c.self.inside.at c.self.inside.rest.now c.in_default.len_below)
