use Rattle.std.proofs.Common.{◌<◌, sym, arith}
use Rattle.c_tree.specs.Heights as class
use Rattle.c_decl.proofs.Deeper.{low_back}
use Rattle.c_unit.proofs.Deeper.{stmt_is, stmt_none}
use Rattle.c_unit.proofs.tied.+statements.Goals as goal

pub returns-then-room-eq0-clause-reads : goal.returns-then-room-eq0-clause-reads
returns-then-room-eq0-clause-reads t c _ = rw c.refuse.ensures (stmt_none c.args.room c.args.part c.args.cursor.now (omega arith))

pub returns-clause-reads : goal.returns-clause-reads
returns-clause-reads t c = rw (stmt_is c.args.room c.args.part c.args.cursor.now (omega arith), sym c.lower_statement.ensures.value) c.layer.ensures.reads

pub returns-clause-low : goal.returns-clause-low
unfolding class.count
returns-clause-low t c = low_back class.statement c.args.room _ _ c.lower_statement.ensures.value (let s : 0 < c.args.room.statement = omega arith in s) c.layer.ensures.low
