-- What the service of a trap has done.
use Rattle.std.specs.Prelude.{ℕ, List, Option, Some, None, Result, Ok, Err}
use Rattle.vm_core.specs.State.{State, Step, with_memory}
use Rattle.vm_core.specs.Traps.{replied}
use Rattle.vm_core.specs.Ran.{Outside, Halts, DidPut, DidRaise, DidCall, Did}
use Rattle.qv_outside.specs.Event.{Event, Reply}
use Rattle.vm_core.specs.declared.stop.Stop.{Stop}

-- a state of this memory and program stack
abbrev pub trap_state : List ℕ → ℕ → List ℕ → ℕ → State
trap_state memory program_stack operands next = record { memory = memory; program_stack = program_stack; operands = operands; next = next }

-- the word is pushed, or the run has stopped, over this memory
abbrev pub served : State → List ℕ → Result ℕ Stop → State
served s memory (Ok word) = replied s memory word
served s memory (Err stop) = with_memory s memory

abbrev pub stop_of : Result ℕ Stop → Option Stop
stop_of (Ok word) = None
stop_of (Err stop) = Some stop

-- in every state of this memory and program stack the trap f has done this
abbrev pub Serves : (State → Step) → List ℕ → ℕ → List ℕ → Outside → Outside → Result ℕ Stop → Type 0
Serves f memory program_stack memory_now old new result = (operands : List ℕ) (next : ℕ) → let s = trap_state memory program_stack operands next in Did (f s) (served s memory_now result) old new (stop_of result)

-- the same of one that nothing outside sees, of one that puts, of one that raises an error, and of one that asks
abbrev pub ServesPlain : (State → Step) → List ℕ → ℕ → List ℕ → Result ℕ Stop → Type 0
ServesPlain f memory program_stack memory_now result = (operands : List ℕ) (next : ℕ) → let s = trap_state memory program_stack operands next in Halts (f s) (served s memory_now result) (stop_of result)

abbrev pub ServesPut : (State → Step) → List ℕ → ℕ → Option (List ℕ) → Option (List ℕ) → Result ℕ Stop → Type 0
ServesPut f memory program_stack old new result = (operands : List ℕ) (next : ℕ) → let s = trap_state memory program_stack operands next in DidPut (f s) (served s memory result) old new (stop_of result)

abbrev pub ServesRaise : (State → Step) → List ℕ → ℕ → Option (List ℕ) → Option (List ℕ) → Result ℕ Stop → Type 0
ServesRaise f memory program_stack old new result = (operands : List ℕ) (next : ℕ) → let s = trap_state memory program_stack operands next in DidRaise (f s) (served s memory result) old new (stop_of result)

abbrev pub ServesCall : (State → Step) → List ℕ → ℕ → List ℕ → Option (List Event) → Option (List Event) → Option (List Reply) → Option (List Reply) → Result ℕ Stop → Type 0
ServesCall f memory program_stack memory_now asked asked_now replied replied_now result = (operands : List ℕ) (next : ℕ) → let s = trap_state memory program_stack operands next in DidCall (f s) (served s memory_now result) asked asked_now replied replied_now (stop_of result)
