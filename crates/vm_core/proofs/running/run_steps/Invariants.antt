use Rattle.std.proofs.Common.{◌≡◌, ◌≤◌, ◌-◌, length, vec_capacity}
use Rattle.vm_core.specs.Machine.{step, Going}
use Rattle.vm_core.specs.Module.{state_at}
use Rattle.vm_core.specs.Ran.{Ran, outside, AsDefined}
use Rattle.vm_core.proofs.running.run_steps.Given as goal

abbrev pub invariant-loop-left : goal.invariant-loop-left
invariant-loop-left g l = record {
  within : l.left ≤ l.n;
  ran : Ran (step l.fn.code (g.H.Host.table l.fn.host)) (l.n - l.left) (state_at l.fn.block l.fn.words l.fn.r) (state_at l.block l.words l.r)
      (outside (g.H.Host.asked l.fn.host) (g.H.Host.replied l.fn.host) (g.O.Sink.written l.fn.out))
      (outside (g.H.Host.asked l.host) (g.H.Host.replied l.host) (g.O.Sink.written l.out)) (AsDefined Going);
  size : length l.block ≡ length l.fn.block;
  room : vec_capacity l.fn.room ≤ vec_capacity l.room;
  kept : g.H.Host.kept l.host ≡ g.H.Host.kept l.fn.host;
  table : g.H.Host.table l.host ≡ g.H.Host.table l.fn.host;
  host_later : g.H.Host.faults l.fn.host ≤ g.H.Host.faults l.host;
  out_later : g.O.Sink.faults l.fn.out ≤ g.O.Sink.faults l.out;
}

abbrev pub decreases-loop-left : goal.decreases-loop-left
decreases-loop-left g l = l.left
