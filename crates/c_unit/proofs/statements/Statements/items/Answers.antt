use Rattle.std.proofs.Common.{arith, rules}
use Rattle.std.proofs.lemmas.Grind.{common_steps}
use Rattle.c_expr.proofs.Loops.{loop_starts, loop_stops, loop_ends, loop_goes, loop_fails}
use Rattle.c_unit.proofs.statements.Statements.items.Goals as goal

pub loop-turn-init : goal.loop-turn-init
loop-turn-init g c = record { turns = loop_starts _ _ _ _ _ (let e = c.left-turn-end.ensures in omega (arith, e)); low = c.requires.before }

pub returns-then-not-body_comes-clause-reads : goal.returns-then-not-body_comes-clause-reads
returns-then-not-body_comes-clause-reads g c = loop_stops c.loop-turn.invariant.turns (cc)

pub returns-in_err-before-clause-reads : goal.returns-in_err-before-clause-reads
returns-in_err-before-clause-reads g c =
    let e = loop_fails c.loop-turn.invariant.turns (omega arith) (cc) c.in_err-before.ensures.reads in first_of (search rules, grind (arith, common_steps))

pub loop-turn-preserved : goal.loop-turn-preserved
loop-turn-preserved g c = record { turns = loop_goes _ _ _ c.loop-turn.invariant.turns (omega arith) (cc) c.in_ok-before.ensures.reads; low = search rules }

pub returns-clause-reads : goal.returns-clause-reads
returns-clause-reads g c = loop_ends c.loop-turn.invariant.turns (omega arith)
