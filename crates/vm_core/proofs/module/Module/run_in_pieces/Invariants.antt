use Rattle.std.proofs.Common.{◌≡◌, ◌≤◌, true, sum, take}
use Rattle.vm_core.specs.Machine.{step, Going}
use Rattle.vm_core.specs.Module.{code_of, state_of, ready_of}
use Rattle.vm_core.specs.Ran.{Ran, outside, AsDefined}
use Rattle.vm_core.proofs.module.Module.run_in_pieces.Given as goal

abbrev pub invariant-loop-budget : goal.invariant-loop-budget
invariant-loop-budget g l = record {
  ran : Ran (step (code_of l.fn.self) (g.H.Host.table l.fn.host)) (sum (take l.budget-index l.budgets)) (state_of l.fn.self) (state_of l.self)
      (outside (g.H.Host.asked l.fn.host) (g.H.Host.replied l.fn.host) (g.O.Sink.written l.fn.out))
      (outside (g.H.Host.asked l.host) (g.H.Host.replied l.host) (g.O.Sink.written l.out)) (AsDefined Going);
  code : code_of l.self ≡ code_of l.fn.self;
  ready : ready_of l.self ≡ true;
  kept : g.H.Host.kept l.host ≡ g.H.Host.kept l.fn.host;
  table : g.H.Host.table l.host ≡ g.H.Host.table l.fn.host;
  host_later : g.H.Host.faults l.fn.host ≤ g.H.Host.faults l.host;
  out_later : g.O.Sink.faults l.fn.out ≤ g.O.Sink.faults l.out;
}
