use Rattle.std.proofs.Common.{◌≡◌, ◌≤◌, ◌-◌, length}
use Rattle.qv_outside.specs.Hosts.{Table}
use Rattle.vm_core.specs.Machine.{step, Going}
use Rattle.vm_core.specs.Module.{state_at}
use Rattle.vm_core.specs.Ran.{Ran, Outside, AsDefined}
use Rattle.vm_core.proofs.running.plain_steps.Given as goal

abbrev pub invariant-loop-left : goal.invariant-loop-left
invariant-loop-left l = record {
  within : l.left ≤ l.fn.left;
  ran : (table : Table) (told : Outside) → Ran (step l.fn.code table) (l.fn.left - l.left) (state_at l.fn.block l.fn.words l.fn.r) (state_at l.block l.words l.r) told told (AsDefined Going);
  size : length l.block ≡ length l.fn.block;
}

abbrev pub decreases-loop-left : goal.decreases-loop-left
decreases-loop-left l = l.left
