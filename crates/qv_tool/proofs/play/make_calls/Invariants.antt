use Rattle.std.proofs.Common.{◌≡◌, ◌≤◌, take}
use Rattle.vm_core.proofs.CallsRanLaws.{Returning}
use Rattle.vm_core.specs.Machine.{step}
use Rattle.vm_core.specs.Module.{code_of, state_of}
use Rattle.vm_core.specs.Ran.{outside}
use Rattle.qv_tool.proofs.play.make_calls.Given as goal

abbrev pub invariant-loop-args : goal.invariant-loop-args
invariant-loop-args g l = record {
  so_far : Returning (step (code_of l.fn.machine) (g.H.Host.table l.fn.host)) l.steps (take l.args-index l.calls) (state_of l.fn.machine).memory (state_of l.machine).memory
      (outside (g.H.Host.asked l.fn.host) (g.H.Host.replied l.fn.host) (g.O.Sink.written l.fn.out)) (outside (g.H.Host.asked l.host) (g.H.Host.replied l.host) (g.O.Sink.written l.out)) l.last;
  code : code_of l.machine ≡ code_of l.fn.machine;
  table : g.H.Host.table l.host ≡ g.H.Host.table l.fn.host;
  kept : g.H.Host.kept l.host ≡ g.H.Host.kept l.fn.host;
  host_later : g.H.Host.faults l.fn.host ≤ g.H.Host.faults l.host;
  out_later : g.O.Sink.faults l.fn.out ≤ g.O.Sink.faults l.out;
}
