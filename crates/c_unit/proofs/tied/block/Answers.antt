use Rattle.std.proofs.Common.{◌<◌, sym, arith}
use Rattle.c_tree.specs.Heights as class
use Rattle.c_decl.specs.declared.kind.Mode.TheVariants.{Whole}
use Rattle.c_decl.specs.Entries as e
use Rattle.c_decl.proofs.Deeper.{reader_is, reader_none, low_back}
use Rattle.c_unit.proofs.tied.block.Goals as goal

pub returns-then-room-eq0-clause-reads : goal.returns-then-room-eq0-clause-reads
unfolding class.count
returns-then-room-eq0-clause-reads c _ = rw c.refuse.ensures (reader_none Whole c.args.room e.block c.args.cursor.now (omega arith))

pub returns-clause-reads : goal.returns-clause-reads
unfolding class.count
returns-clause-reads c = rw (reader_is Whole c.args.room e.block c.args.cursor.now (omega arith), sym c.lower_statement.ensures.value) c.braced.ensures.reads

pub returns-clause-low : goal.returns-clause-low
unfolding class.count
returns-clause-low c = low_back class.statement c.args.room _ _ c.lower_statement.ensures.value (let s : 0 < c.args.room.statement = omega arith in s) c.braced.ensures.low
