use Rattle.std.proofs.Common.{rules, arith}
use Rattle.std.proofs.lemmas.Grind.{common_steps}
use Rattle.c_decl.specs.Input.{turns, looped}
use Rattle.c_decl.specs.Declarators as r
use Rattle.c_decl.specs.Entries as entries
use Rattle.c_tok.specs.declared.mark.Mark.TheVariants as m
use Rattle.c_decl.specs.Nests.{parts_of}
use Rattle.c_decl.proofs.Turns.{one_more, no_more}
use Rattle.c_decl.proofs.rules.Rules.more_enumerators.Goals as goal

pub loop-turn-init : goal.loop-turn-init
unfolding looped
loop-turn-init g c = first_of (search rules, grind (arith, common_steps))

pub returns-then-not-comma_before-clause-reads : goal.returns-then-not-comma_before-clause-reads
unfolding turns
returns-then-not-comma_before-clause-reads g c =
    let e = one_more (λ n. turns (λ _. entries.comma_before m.CloseBrace) (entries.comma_then (r.enumerator c.args.self.now.mode (parts_of c.args.self.now.mode c.args.self.now.room) c.args.self.now.room)) n c.loop-turn.left c.loop-turn.cursor) _ c.loop-turn._turn c.loop-turn-test.true c.loop-turn.invariant.same in
    first_of (search rules, grind (arith, common_steps))

pub returns-in_err-left-clause-reads : goal.returns-in_err-left-clause-reads
unfolding turns
returns-in_err-left-clause-reads g c =
    let e = one_more (λ n. turns (λ _. entries.comma_before m.CloseBrace) (entries.comma_then (r.enumerator c.args.self.now.mode (parts_of c.args.self.now.mode c.args.self.now.room) c.args.self.now.room)) n c.loop-turn.left c.loop-turn.cursor) _ c.loop-turn._turn c.loop-turn-test.true c.loop-turn.invariant.same in
    first_of (search rules, grind (arith, common_steps))

pub loop-turn-preserved : goal.loop-turn-preserved
unfolding turns
loop-turn-preserved g c =
    let e = one_more (λ n. turns (λ _. entries.comma_before m.CloseBrace) (entries.comma_then (r.enumerator c.args.self.now.mode (parts_of c.args.self.now.mode c.args.self.now.room) c.args.self.now.room)) n c.loop-turn.left c.loop-turn.cursor) _ c.loop-turn._turn c.loop-turn-test.true c.loop-turn.invariant.same in
    first_of (search rules, grind (arith, common_steps))

pub returns-clause-reads : goal.returns-clause-reads
unfolding turns
returns-clause-reads g c =
    let e = no_more (λ n. turns (λ _. entries.comma_before m.CloseBrace) (entries.comma_then (r.enumerator c.args.self.now.mode (parts_of c.args.self.now.mode c.args.self.now.room) c.args.self.now.room)) n c.loop-turn.left c.loop-turn.cursor) _ c.loop-turn._turn c.loop-turn-test.false c.loop-turn.invariant.same in
    first_of (search rules, grind (arith, common_steps))
