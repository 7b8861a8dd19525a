-- The machine's state, and what one step may do.
use Rattle.std.specs.Prelude.{ℕ, ◌+◌, List}
use Rattle.qv_outside.specs.Event.{Event, Reply}
use Rattle.vm_core.specs.declared.stop.Stop.{Stop}

-- the block, the program stack's place, the operand stack with its top first, and the number of the
-- next instruction
pub record State : Type 0 where
  pub memory : List ℕ
  pub program_stack : ℕ
  pub operands : List ℕ
  pub next : ℕ

-- what one instruction does, up to where something outside is put or asked
pub data Step : Type 0 where
  -- goes on in this state
  Goes : State → Step
  -- stops in this state
  Stops : Stop → State → Step
  -- puts what the event says, then goes on
  Puts : Event → State → Step
  -- puts what the event says, then stops with ModuleError
  Raises : Event → State → Step
  -- asks the host; the state while it asks, and how a reply goes on
  Calls : Event → State → (Reply → State) → Step

-- on to the next instruction, with other operands
abbrev pub with_operands : State → List ℕ → State
with_operands s words = record { memory = s.memory; program_stack = s.program_stack; operands = words; next = s.next + 1 }

-- on to the instruction at a place, with other operands
abbrev pub gone_to : State → List ℕ → ℕ → Step
gone_to s words place = Goes (record { memory = s.memory; program_stack = s.program_stack; operands = words; next = place })

-- another memory
abbrev pub with_memory : State → List ℕ → State
with_memory s memory = record { memory = memory; program_stack = s.program_stack; operands = s.operands; next = s.next }
