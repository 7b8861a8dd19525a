use Rattle.std.proofs.Common.{◌≤◌, ◌<◌, ◌-◌, ◌∙◌, refl, arith}
use Rattle.vm_core.specs.Machine.{step}
use Rattle.vm_core.specs.Module.{state_at}
use Rattle.vm_core.specs.Ran.{outside}
use Rattle.vm_core.proofs.Loop.{ran_none, ran_for}
use Rattle.vm_core.proofs.Pausing.{led, paused_ends, paused_goes, paused_stops, some_left}
use Rattle.vm_core.proofs.running.run_steps.Goals as goal

pub loop-left-init : goal.loop-left-init
loop-left-init g c =
    let told = (outside (g.H.Host.asked c.args.host.now) (g.H.Host.replied c.args.host.now) (g.O.Sink.written c.args.out.now)) in
    record {
      within = omega arith;
      ran = ran_for _ 0 (c.args.n - c.args.n) _ _ told told _ (omega arith) (ran_none (step c.args.code.now (g.H.Host.table c.args.host.now)) (state_at c.args.block.now c.args.words.now c.args.r.now) told);
      size = refl;
      room = omega arith;
      kept = refl;
      table = refl;
      host_later = omega arith;
      out_later = omega arith;
    }

pub returns-in_default-clause-ran : goal.returns-in_default-clause-ran
returns-in_default-clause-ran g c = paused_ends c.args.code.now (g.H.Host.table c.args.host.now) (g.H.Host.table c.loop-left.host) c.args.n c.loop-left.left c.run_plain.new.left (state_at c.args.block.now c.args.words.now c.args.r.now) (state_at c.loop-left.block c.loop-left.words c.loop-left.r) (state_at c.run_plain.new.block c.run_plain.new.words c.run_plain.new.r) (outside (g.H.Host.asked c.args.host.now) (g.H.Host.replied c.args.host.now) (g.O.Sink.written c.args.out.now)) (outside (g.H.Host.asked c.loop-left.host) (g.H.Host.replied c.loop-left.host) (g.O.Sink.written c.loop-left.out)) c.loop-left.invariant.table c.loop-left.invariant.within c.loop-left.invariant.ran c.run_plain.result (c.run_plain.ensures.paused (g.H.Host.table c.loop-left.host) (outside (g.H.Host.asked c.loop-left.host) (g.H.Host.replied c.loop-left.host) (g.O.Sink.written c.loop-left.out))) c.in_default.is

pub settle-requires-clause-led : goal.settle-requires-clause-led
settle-requires-clause-led g c = led c.args.code.now (g.H.Host.table c.args.host.now) (g.H.Host.table c.loop-left.host) c.args.n c.loop-left.left c.run_plain.new.left (state_at c.args.block.now c.args.words.now c.args.r.now) (state_at c.loop-left.block c.loop-left.words c.loop-left.r) (state_at c.run_plain.new.block c.run_plain.new.words c.run_plain.new.r) (outside (g.H.Host.asked c.args.host.now) (g.H.Host.replied c.args.host.now) (g.O.Sink.written c.args.out.now)) (outside (g.H.Host.asked c.loop-left.host) (g.H.Host.replied c.loop-left.host) (g.O.Sink.written c.loop-left.out)) c.loop-left.invariant.table c.loop-left.invariant.within c.loop-left.invariant.ran c.run_plain.result c.in-Some.halt (c.run_plain.ensures.paused (g.H.Host.table c.loop-left.host) (outside (g.H.Host.asked c.loop-left.host) (g.H.Host.replied c.loop-left.host) (g.O.Sink.written c.loop-left.out))) c.in-Some.is

pub returns-in-Some-settle-clause-ran : goal.returns-in-Some-settle-clause-ran
returns-in-Some-settle-clause-ran g c = paused_stops c.args.code.now (g.H.Host.table c.args.host.now) (g.H.Host.table c.loop-left.host) c.args.n c.loop-left.left c.run_plain.new.left (state_at c.args.block.now c.args.words.now c.args.r.now) (state_at c.loop-left.block c.loop-left.words c.loop-left.r) (state_at c.run_plain.new.block c.run_plain.new.words c.run_plain.new.r) (outside (g.H.Host.asked c.args.host.now) (g.H.Host.replied c.args.host.now) (g.O.Sink.written c.args.out.now)) (outside (g.H.Host.asked c.loop-left.host) (g.H.Host.replied c.loop-left.host) (g.O.Sink.written c.loop-left.out)) c.loop-left.invariant.table c.loop-left.invariant.within c.loop-left.invariant.ran c.run_plain.result c.in-Some.halt (c.run_plain.ensures.paused (g.H.Host.table c.loop-left.host) (outside (g.H.Host.asked c.loop-left.host) (g.H.Host.replied c.loop-left.host) (g.O.Sink.written c.loop-left.out))) c.in-Some.is (state_at c.settle.new.block c.settle.new.words c.settle.new.r) (outside (g.H.Host.asked c.settle.new.host) (g.H.Host.replied c.settle.new.host) (g.O.Sink.written c.settle.new.out)) c.settle.result c.settle.ensures.did c.in-Some-settle.stop c.in-Some-settle.is

pub overflow_sub-left : goal.overflow_sub-left
overflow_sub-left g c = let some : 0 < c.run_plain.new.left = some_left c.args.code.now (g.H.Host.table c.args.host.now) (g.H.Host.table c.loop-left.host) c.args.n c.loop-left.left c.run_plain.new.left (state_at c.args.block.now c.args.words.now c.args.r.now) (state_at c.loop-left.block c.loop-left.words c.loop-left.r) (state_at c.run_plain.new.block c.run_plain.new.words c.run_plain.new.r) (outside (g.H.Host.asked c.args.host.now) (g.H.Host.replied c.args.host.now) (g.O.Sink.written c.args.out.now)) (outside (g.H.Host.asked c.loop-left.host) (g.H.Host.replied c.loop-left.host) (g.O.Sink.written c.loop-left.out)) c.loop-left.invariant.table c.loop-left.invariant.within c.loop-left.invariant.ran c.run_plain.result c.in-Some.halt (c.run_plain.ensures.paused (g.H.Host.table c.loop-left.host) (outside (g.H.Host.asked c.loop-left.host) (g.H.Host.replied c.loop-left.host) (g.O.Sink.written c.loop-left.out))) c.in-Some.is in omega (arith, some)

pub loop-left-preserved : goal.loop-left-preserved
loop-left-preserved g c =
    let within : c.run_plain.new.left ≤ c.loop-left.left = (c.run_plain.ensures.paused (g.H.Host.table c.loop-left.host) (outside (g.H.Host.asked c.loop-left.host) (g.H.Host.replied c.loop-left.host) (g.O.Sink.written c.loop-left.out))).within in
    let host : g.H.Host.faults c.args.host.now ≤ g.H.Host.faults c.loop-left.host = c.loop-left.invariant.host_later in
    let host_now : g.H.Host.faults c.loop-left.host ≤ g.H.Host.faults c.settle.new.host = c.settle.ensures.host_later in
    let out : g.O.Sink.faults c.args.out.now ≤ g.O.Sink.faults c.loop-left.out = c.loop-left.invariant.out_later in
    let out_now : g.O.Sink.faults c.loop-left.out ≤ g.O.Sink.faults c.settle.new.out = c.settle.ensures.out_later in
    record {
      within = omega (arith, within, c.loop-left.invariant.within);
      ran = paused_goes c.args.code.now (g.H.Host.table c.args.host.now) (g.H.Host.table c.loop-left.host) c.args.n c.loop-left.left c.run_plain.new.left (state_at c.args.block.now c.args.words.now c.args.r.now) (state_at c.loop-left.block c.loop-left.words c.loop-left.r) (state_at c.run_plain.new.block c.run_plain.new.words c.run_plain.new.r) (outside (g.H.Host.asked c.args.host.now) (g.H.Host.replied c.args.host.now) (g.O.Sink.written c.args.out.now)) (outside (g.H.Host.asked c.loop-left.host) (g.H.Host.replied c.loop-left.host) (g.O.Sink.written c.loop-left.out)) c.loop-left.invariant.table c.loop-left.invariant.within c.loop-left.invariant.ran c.run_plain.result c.in-Some.halt (c.run_plain.ensures.paused (g.H.Host.table c.loop-left.host) (outside (g.H.Host.asked c.loop-left.host) (g.H.Host.replied c.loop-left.host) (g.O.Sink.written c.loop-left.out))) c.in-Some.is (state_at c.settle.new.block c.settle.new.words c.settle.new.r) (outside (g.H.Host.asked c.settle.new.host) (g.H.Host.replied c.settle.new.host) (g.O.Sink.written c.settle.new.out)) c.settle.result c.settle.ensures.did c.in_default-settle.is;
      size = c.settle.ensures.size ∙ c.run_plain.ensures.size ∙ c.loop-left.invariant.size;
      room = omega (arith, c.settle.ensures.room, c.loop-left.invariant.room);
      kept = c.settle.ensures.kept ∙ c.loop-left.invariant.kept;
      table = c.settle.ensures.table ∙ c.loop-left.invariant.table;
      host_later = omega (arith, host, host_now);
      out_later = omega (arith, out, out_now);
    }

pub loop-left-smaller : goal.loop-left-smaller
loop-left-smaller g c =
    let within : c.run_plain.new.left ≤ c.loop-left.left = (c.run_plain.ensures.paused (g.H.Host.table c.loop-left.host) (outside (g.H.Host.asked c.loop-left.host) (g.H.Host.replied c.loop-left.host) (g.O.Sink.written c.loop-left.out))).within in
    let some : 0 < c.run_plain.new.left = some_left c.args.code.now (g.H.Host.table c.args.host.now) (g.H.Host.table c.loop-left.host) c.args.n c.loop-left.left c.run_plain.new.left (state_at c.args.block.now c.args.words.now c.args.r.now) (state_at c.loop-left.block c.loop-left.words c.loop-left.r) (state_at c.run_plain.new.block c.run_plain.new.words c.run_plain.new.r) (outside (g.H.Host.asked c.args.host.now) (g.H.Host.replied c.args.host.now) (g.O.Sink.written c.args.out.now)) (outside (g.H.Host.asked c.loop-left.host) (g.H.Host.replied c.loop-left.host) (g.O.Sink.written c.loop-left.out)) c.loop-left.invariant.table c.loop-left.invariant.within c.loop-left.invariant.ran c.run_plain.result c.in-Some.halt (c.run_plain.ensures.paused (g.H.Host.table c.loop-left.host) (outside (g.H.Host.asked c.loop-left.host) (g.H.Host.replied c.loop-left.host) (g.O.Sink.written c.loop-left.out))) c.in-Some.is in
    omega (arith, within, some)
