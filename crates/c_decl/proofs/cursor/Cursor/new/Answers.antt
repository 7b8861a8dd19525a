use Rattle.std.proofs.Common.{arith, rules}
use Rattle.std.proofs.lemmas.Grind.{common_steps}
use Rattle.c_decl.specs.Cursor.{started}
use Rattle.c_decl.proofs.cursor.Cursor.new.Goals as goal

pub returns : goal.returns
unfolding started
returns c = first_of (search rules, grind (arith, common_steps))
