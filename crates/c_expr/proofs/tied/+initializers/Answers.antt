use Rattle.std.proofs.Common.{◌<◌, sym, arith}
use Rattle.c_tree.specs.Heights as class
use Rattle.c_decl.specs.Entries as e
use Rattle.c_decl.proofs.Deeper.{reader_is, reader_none, low_back}
use Rattle.c_expr.proofs.tied.+initializers.Goals as goal

pub returns-then-room-eq0-clause-reads : goal.returns-then-room-eq0-clause-reads
unfolding class.count
returns-then-room-eq0-clause-reads t c _ = rw c.refuse.ensures (reader_none c.args.mode c.args.room e.init c.args.cursor.now (omega arith))

pub returns-clause-reads : goal.returns-clause-reads
unfolding class.count
returns-clause-reads t c =
    rw (reader_is c.args.mode c.args.room e.init c.args.cursor.now (omega arith), sym c.lower_initializer.ensures.value) c.init_rule.ensures.reads

pub returns-clause-low : goal.returns-clause-low
unfolding class.count
returns-clause-low t c =
    low_back class.initializer c.args.room _ _ c.lower_initializer.ensures.value (let s : 0 < c.args.room.initializer = omega arith in s) c.init_rule.ensures.low
