use Rattle.std.proofs.Common.{◌<◌, sym, arith}
use Rattle.c_tree.specs.Heights as class
use Rattle.c_decl.specs.Entries as e
use Rattle.c_decl.proofs.Deeper.{decl_is, decl_none, reader_is, reader_none, low_back}
use Rattle.c_expr.proofs.Deeper.{expr_is, expr_none}
use Rattle.c_expr.proofs.tied.+rules.Goals as goal

pub expr-returns-then-room-eq0-clause-reads : goal.expr-returns-then-room-eq0-clause-reads
unfolding class.count
expr-returns-then-room-eq0-clause-reads t c _ = rw c.refuse.ensures (expr_none c.args.mode c.args.room c.args.part c.args.cursor.now (omega arith))

pub expr-returns-clause-reads : goal.expr-returns-clause-reads
unfolding class.count
expr-returns-clause-reads t c =
    rw (expr_is c.args.mode c.args.room c.args.part c.args.cursor.now (omega arith), sym c.lower_expression.ensures.value) c.layer.ensures.reads

pub expr-returns-clause-low : goal.expr-returns-clause-low
unfolding class.count
expr-returns-clause-low t c =
    low_back class.expression c.args.room _ _ c.lower_expression.ensures.value (let s : 0 < c.args.room.expression = omega arith in s) c.layer.ensures.low

pub declarator-returns-then-room-eq0-clause-reads : goal.declarator-returns-then-room-eq0-clause-reads
unfolding class.count
declarator-returns-then-room-eq0-clause-reads t c _ =
    rw c.refuse.ensures (decl_none c.args.mode c.args.room c.args.part c.args.cursor.now (omega arith))

pub members-returns-then-room-eq0-clause-reads : goal.members-returns-then-room-eq0-clause-reads
unfolding class.count
members-returns-then-room-eq0-clause-reads t c _ =
    rw c.refuse.ensures (reader_none c.args.mode c.args.room e.members c.args.cursor.now (omega arith))

pub members-returns-clause-reads : goal.members-returns-clause-reads
unfolding class.count
members-returns-clause-reads t c =
    rw (reader_is c.args.mode c.args.room e.members c.args.cursor.now (omega arith), sym c.lower_members.ensures.value) c.enclosed.ensures.reads

pub members-returns-clause-low : goal.members-returns-clause-low
unfolding class.count
members-returns-clause-low t c =
    low_back class.members c.args.room _ _ c.lower_members.ensures.value (let s : 0 < c.args.room.members = omega arith in s) c.enclosed.ensures.low

pub declarator-returns-clause-reads : goal.declarator-returns-clause-reads
unfolding class.count
declarator-returns-clause-reads t c =
    rw (decl_is c.args.mode c.args.room c.args.part c.args.cursor.now (omega arith), sym c.lower_declarator.ensures.value) c.decl_rule.ensures.reads

pub declarator-returns-clause-low : goal.declarator-returns-clause-low
unfolding class.count
declarator-returns-clause-low t c =
    low_back class.declarator c.args.room _ _ c.lower_declarator.ensures.value (let s : 0 < c.args.room.declarator = omega arith in s)
    c.decl_rule.ensures.low
