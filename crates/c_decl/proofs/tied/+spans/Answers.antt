use Rattle.std.proofs.Common.{◌<◌, sym, arith}
use Rattle.c_tree.specs.Heights as class
use Rattle.c_decl.specs.Entries as e
use Rattle.c_decl.proofs.Deeper.{decl_is, decl_none, reader_is, reader_none, low_back}
use Rattle.c_decl.proofs.tied.+spans.Goals as goal

pub span-returns-then-room-eq0-clause-reads : goal.span-returns-then-room-eq0-clause-reads
unfolding class.count
span-returns-then-room-eq0-clause-reads t c _ = rw c.refuse.ensures (reader_none c.args.mode c.args.room (e.span c.args.inside) c.args.cursor.now (omega arith))

pub span-returns-clause-reads : goal.span-returns-clause-reads
unfolding class.count
span-returns-clause-reads t c = rw (reader_is c.args.mode c.args.room (e.span c.args.inside) c.args.cursor.now (omega arith), sym c.lower_expression.ensures.value) c.spanned.ensures.reads

pub span-returns-clause-low : goal.span-returns-clause-low
unfolding class.count
span-returns-clause-low t c = low_back class.expression c.args.room _ _ c.lower_expression.ensures.value (let s : 0 < c.args.room.expression = omega arith in s) c.spanned.ensures.low

pub decl-returns-then-room-eq0-clause-reads : goal.decl-returns-then-room-eq0-clause-reads
decl-returns-then-room-eq0-clause-reads t c _ = rw c.refuse.ensures (decl_none c.args.mode c.args.room c.args.part c.args.cursor.now (omega arith))

pub decl-returns-clause-reads : goal.decl-returns-clause-reads
decl-returns-clause-reads t c = rw (decl_is c.args.mode c.args.room c.args.part c.args.cursor.now (omega arith), sym c.lower_declarator.ensures.value) c.decl_rule.ensures.reads

pub decl-returns-clause-low : goal.decl-returns-clause-low
unfolding class.count
decl-returns-clause-low t c = low_back class.declarator c.args.room _ _ c.lower_declarator.ensures.value (let s : 0 < c.args.room.declarator = omega arith in s) c.decl_rule.ensures.low

pub members-returns-then-room-eq0-clause-reads : goal.members-returns-then-room-eq0-clause-reads
unfolding class.count
members-returns-then-room-eq0-clause-reads t c _ = rw c.refuse.ensures (reader_none c.args.mode c.args.room e.members c.args.cursor.now (omega arith))

pub members-returns-clause-reads : goal.members-returns-clause-reads
unfolding class.count
members-returns-clause-reads t c = rw (reader_is c.args.mode c.args.room e.members c.args.cursor.now (omega arith), sym c.lower_members.ensures.value) c.enclosed.ensures.reads

pub members-returns-clause-low : goal.members-returns-clause-low
unfolding class.count
members-returns-clause-low t c = low_back class.members c.args.room _ _ c.lower_members.ensures.value (let s : 0 < c.args.room.members = omega arith in s) c.enclosed.ensures.low
