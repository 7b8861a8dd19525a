use Rattle.std.proofs.Common.{◌-◌, ◌∙◌, refl, arith}
use Rattle.vm_core.specs.Machine.{step}
use Rattle.vm_core.specs.Module.{state_at}
use Rattle.vm_core.proofs.Loop.{ran_none, ran_for}
use Rattle.vm_core.proofs.Pausing.{plain_ends, plain_goes, plain_halts}
use Rattle.vm_core.proofs.running.plain_steps.Goals as goal

pub loop-left-init : goal.loop-left-init
loop-left-init c = record {
  within = omega arith;
  ran = λ table told. ran_for _ 0 (c.args.left.now - c.args.left.now) _ _ told told _ (omega arith) (ran_none (step c.args.code.now table) (state_at c.args.block.now c.args.words.now c.args.r.now) told);
  size = refl;
}

pub returns-in-Some-clause-paused : goal.returns-in-Some-clause-paused
returns-in-Some-clause-paused c = λ table told.
    plain_halts c.args.code.now table c.args.left.now c.loop-left.left (state_at c.args.block.now c.args.words.now c.args.r.now) (state_at c.loop-left.block c.loop-left.words c.loop-left.r) (state_at c.advance.new.block c.advance.new.words c.advance.new.r) told c.advance.result c.in-Some.halt
    c.loop-left.invariant.within c.loop-left-test.true (c.loop-left.invariant.ran table told) (c.advance.ensures.leads table) c.in-Some.is

pub loop-left-preserved : goal.loop-left-preserved
loop-left-preserved c = record {
  within = omega (arith, c.loop-left.invariant.within);
  ran = λ table told.
      plain_goes c.args.code.now table (c.args.left.now - c.loop-left.left) (c.args.left.now - (c.loop-left.left - 1)) (state_at c.args.block.now c.args.words.now c.args.r.now) (state_at c.loop-left.block c.loop-left.words c.loop-left.r) (state_at c.advance.new.block c.advance.new.words c.advance.new.r) told c.advance.result
      (c.loop-left.invariant.ran table told) (c.advance.ensures.leads table) c.in_default.is (omega (arith, c.loop-left-test.true, c.loop-left.invariant.within));
  size = c.advance.ensures.size ∙ c.loop-left.invariant.size;
}

pub returns-clause-paused : goal.returns-clause-paused
returns-clause-paused c = λ table told.
    plain_ends c.args.code.now table c.args.left.now c.loop-left.left (state_at c.args.block.now c.args.words.now c.args.r.now) (state_at c.loop-left.block c.loop-left.words c.loop-left.r) told c.loop-left.invariant.within (omega (arith, c.loop-left-test.false)) (c.loop-left.invariant.ran table told)
