use Rattle.std.proofs.Common.{◌≡◌, true, false, refl, sym, ◌∙◌, arith}
use Rattle.vm_core.proofs.Loop.{ran_none, ran_at}
use Rattle.vm_core.proofs.Pieces.{piece_goes, piece_stops}
use Rattle.vm_core.proofs.module.Module.run_in_pieces.Goals as goal

pub loop-budget-init : goal.loop-budget-init
loop-budget-init g c = record {
  ran = ran_none _ _ _;
  code = refl;
  ready = c.requires.ready;
  kept = refl;
  table = refl;
  host_later = omega arith;
  out_later = omega arith;
}

pub returns-then-not-is_ready-clause-ran : goal.returns-then-not-is_ready-clause-ran
returns-then-not-is_ready-clause-ran g c =
    piece_stops c.args.budgets.now c.loop-budget.budget-index c.run-stop.result c.loop-budget-test.true
    (λ e. let f : true ≡ false = sym (c.run-stop.ensures.ready.1 e) ∙ sym c.is_ready.ensures ∙ c.if-not-is_ready.true in cc) c.loop-budget.invariant.ran
    (ran_at c.loop-budget.invariant.code c.loop-budget.invariant.table c.run-stop.ensures.ran)

pub loop-budget-preserved : goal.loop-budget-preserved
loop-budget-preserved g c = record {
  ran = piece_goes c.args.budgets.now c.loop-budget.budget-index c.run-stop.result c.loop-budget-test.true (c.run-stop.ensures.ready.0 (sym c.is_ready.ensures ∙ c.if-not-is_ready.false)) c.loop-budget.invariant.ran
      (ran_at c.loop-budget.invariant.code c.loop-budget.invariant.table c.run-stop.ensures.ran);
  code = c.run-stop.ensures.code ∙ c.loop-budget.invariant.code;
  ready = sym c.is_ready.ensures ∙ c.if-not-is_ready.false;
  kept = c.run-stop.ensures.kept ∙ c.loop-budget.invariant.kept;
  table = c.run-stop.ensures.table ∙ c.loop-budget.invariant.table;
  host_later = omega (arith, c.run-stop.ensures.host_later, c.loop-budget.invariant.host_later);
  out_later = omega (arith, c.run-stop.ensures.out_later, c.loop-budget.invariant.out_later);
}
