-- Calls of an image that have come to their end.
use Rattle.std.specs.Prelude.{◌≡◌, ℕ, List, ◌⊎◌, Result, Ok, Err}
use Rattle.qv_base.specs.declared.NoMemory.{NoMemory}
use Rattle.qv_image.specs.Image.{Qvm}
use Rattle.qv_outside.specs.Causes.{Rose}
use Rattle.vm_core.specs.CallsRan.{CallsRanTo}
use Rattle.vm_core.specs.Machine.{step, fresh_memory}
use Rattle.vm_core.specs.declared.stop.Stop.{Stop}
use Rattle.vm_core.specs.declared.stop.Stop.TheVariants.{HostFault, OutFault}
use Rattle.qv_tool.specs.declared.report.Report.{Report}
use Rattle.qv_tool.specs.Ending.{Tells}
use Rattle.qv_tool.specs.World.{Surroundings}

-- the image was called in this order, each time for at most so many steps, over the replies that the host gave; the
-- last call that was made came to this stop. A fault of the host or of the output has its cause
pub record Played (z : Qvm) (steps : ℕ) (calls : List (List ℕ)) (before after : Surroundings) (stop : Stop) : Type 0 where
  pub ran : CallsRanTo (step z.code before.table) steps calls (fresh_memory z) before.seen after.seen stop
  pub host_cause : stop ≡ HostFault → Rose before.host_faults after.host_faults
  pub out_cause : stop ≡ OutFault → Rose before.out_faults after.out_faults

-- the report tells how the calls ended; where memory is refused, nothing was printed or asked, or only the report
-- could not be made
abbrev pub Plays : Qvm → ℕ → List (List ℕ) → Surroundings → Surroundings → Result Report NoMemory → Type 0
Plays z steps calls before after (Ok report) = (stop : Stop) × Played z steps calls before after stop × Tells stop report.status report.line.items
Plays z steps calls before after (Err _) = (after ≡ before) ⊎ ((stop : Stop) × Played z steps calls before after stop)
