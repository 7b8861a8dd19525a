use Rattle.std.proofs.Common.{sym, ap, subst, ◌∙◌, ◌-◌, arith}
use Rattle.std.specs.Prelude.{Option}
use Rattle.pp_dir.specs.declared.worth.Worth.{Worth}
use Rattle.pp_dir.specs.declared.part.Part.TheVariants.{Operand, Whole}
use Rattle.pp_dir.specs.Reading.{part, operand_at, ranked}
use Rattle.pp_dir.specs.Worth.{Reads, worth_read}
use Rattle.pp_dir.proofs.Worths.{Chained, chain_goes, chain_stops, chain_fails, chain_is_long}
use Rattle.pp_dir.proofs.condition.Reader.+ranked.Goals as goal

pub returns-then-turns-eq0 : goal.returns-then-turns-eq0
returns-then-turns-eq0 g t c =
    chain_is_long _ _ c.args.rank c.loop-op.left c.loop-op.cursor c.loop-op.turns c.in-Some.op c.if-turns-eq0.true c.loop-op.invariant (sym c.ranked_op.ensures ∙ c.in-Some.is)

pub returns-in_err-right : goal.returns-in_err-right
returns-in_err-right g t c =
    let operand = operand_at (part c.args.self.now.depth Operand) (part c.args.self.now.depth Whole) in
    let higher = ranked operand c.args.self.now.depth (c.args.rank - 1) in
    let total = ranked operand c.args.self.now.depth c.args.rank c.args.cursor.now in
    let fails = ap higher (sym c.skip.ensures) ∙ subst (λ (r : Option Worth). Reads (higher c.skip.new.self) r c.ranked-in-Some.new.cursor) c.in_err-right.was c.ranked-in-Some.ensures in
    subst (λ (r : Option Worth). Reads total r c.ranked-in-Some.new.cursor) (sym c.from_residual-in_err-right.ensures)
    (chain_fails total higher c.args.rank c.loop-op.left c.loop-op.cursor c.loop-op.turns c.in-Some.op (omega (arith, c.if-turns-eq0.false)) c.loop-op.invariant (sym c.ranked_op.ensures ∙ c.in-Some.is) fails)

pub loop-op-preserved : goal.loop-op-preserved
loop-op-preserved g t c =
    let operand = operand_at (part c.args.self.now.depth Operand) (part c.args.self.now.depth Whole) in
    let higher = ranked operand c.args.self.now.depth (c.args.rank - 1) in
    let total = ranked operand c.args.self.now.depth c.args.rank c.args.cursor.now in
    let read = ap (λ ts. worth_read (higher ts)) (sym c.skip.ensures) ∙ subst (λ (r : Option Worth). Reads (higher c.skip.new.self) r c.ranked-in-Some.new.cursor) c.in_ok-right.was c.ranked-in-Some.ensures in
    subst (λ (w : Worth). Chained total higher c.args.rank (c.loop-op.turns - 1) w c.ranked-in-Some.new.cursor) (sym c.binary-left.ensures)
    (chain_goes total higher c.args.rank c.loop-op.left c.loop-op.cursor c.loop-op.turns c.in-Some.op c.in_ok-right.right c.ranked-in-Some.new.cursor (omega (arith, c.if-turns-eq0.false)) c.loop-op.invariant (sym c.ranked_op.ensures ∙ c.in-Some.is) read)

pub returns : goal.returns
returns g t c =
    chain_stops _ _ c.args.rank c.loop-op.left c.loop-op.cursor c.loop-op.turns c.loop-op.invariant (sym c.ranked_op.ensures ∙ c.in_default.is)
