-- Where a run of plain instructions has come to.
use Rattle.std.specs.Prelude.{◌≡◌, ℕ, ◌<◌, ◌≤◌, ◌-◌, List, Option, Some, None}
use Rattle.qv_ops.specs.declared.instr.Instr.{Instr}
use Rattle.qv_outside.specs.Hosts.{Table}
use Rattle.vm_core.specs.Machine.{State, Step, Going, step}
use Rattle.vm_core.specs.Module.{Leads}
use Rattle.vm_core.specs.Ran.{Outside, Ran, AsDefined}
use Rattle.vm_core.specs.declared.halt.Halt.{Halt}

-- the steps that were left are made, or the instruction t, which is the next, has led to this state, and a step was left
abbrev pub HaltsAt : Table → Step → State → State → ℕ → Option Halt → Type 0
HaltsAt table t at now left None = (at ≡ now) × (left ≡ 0)
HaltsAt table t at now left (Some halt) = Leads table t now (Some halt) × (0 < left)

-- of n steps, all but those that are left are made, and nothing outside has seen them
pub record Paused (code : List Instr) (table : Table) (n left : ℕ) (before now : State) (told : Outside) (result : Option Halt) : Type 0 where
  pub at : State
  pub within : left ≤ n
  pub ran : Ran (step code table) (n - left) before at told told (AsDefined Going)
  pub halts : HaltsAt table (step code table at) at now left result
