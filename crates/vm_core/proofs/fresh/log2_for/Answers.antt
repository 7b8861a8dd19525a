use Rattle.std.proofs.Common.{refl, sym, ◌∙◌, arith}
use Rattle.vm_core.proofs.Sizes.{block_size_is, doubled_here, doubled_on, power_on, size_at_end, power_two}
use Rattle.vm_core.proofs.fresh.log2_for.Goals as goal

pub loop-init : goal.loop-init
loop-init c = record { power = refl; exponent = refl; two = refl; rest = sym (block_size_is c.args.need) }

pub loop-preserved : goal.loop-preserved
loop-preserved c = record {
  power = power_on c.loop.counter c.loop.size c.loop-test.true c.loop.invariant.power;
  exponent = omega (arith, c.loop.invariant.exponent);
  two = power_two c.loop.size c.loop.log2 c.loop.invariant.two;
  rest = sym (doubled_on c.loop.counter c.loop.size c.args.need c.loop-test.true c.if-size-need.false) ∙ c.loop.invariant.rest;
}

pub returns-then-size-need-clause-size : goal.returns-then-size-need-clause-size
returns-then-size-need-clause-size c = sym c.loop.invariant.two ∙ sym (doubled_here _ c.loop.size c.args.need c.if-size-need.true) ∙ c.loop.invariant.rest

pub returns-after-loop-clause-size : goal.returns-after-loop-clause-size
returns-after-loop-clause-size c =
    sym c.loop.invariant.two ∙ sym (doubled_here _ c.loop.size c.args.need (size_at_end c.loop.counter c.loop.size c.args.need c.loop-test.false c.loop.invariant.power c.requires)) ∙ c.loop.invariant.rest
