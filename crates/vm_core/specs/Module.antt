-- What a module shows.
use Rattle.std.specs.Prelude.{◌≡◌, ℕ, ◌^◌, ◌<◌, Bool, List, drop, length, Option, Some, None}
use denote.Ref.{MutBor}
use Rattle.masked_mem.specs.Memory.{IsSize}
use Rattle.qv_ops.specs.declared.instr.Instr.{Instr}
use Rattle.qv_outside.specs.Hosts.{Table}
use Rattle.vm_core.specs.State.{State, Step, Goes}
use Rattle.vm_core.specs.Traps.{trapped}
use Rattle.vm_core.specs.Ran.{Halts}
use Rattle.vm_core.specs.declared.module.Module.{Module}
use Rattle.vm_core.specs.declared.module.Registers.{Registers}
use Rattle.vm_core.specs.declared.halt.Halt.{Halt}
use Rattle.vm_core.specs.declared.halt.Halt.TheVariants.{Stop as StopsBy, Trap as CallsTrap}

abbrev pub code_of : Module → List Instr
code_of m = m.code.items

-- the operands, the top first
abbrev pub operands_at : List ℕ → Registers → List ℕ
operands_at words r = drop r.top words

-- the state of a memory, the words of an operand stack, and registers
abbrev pub state_at : List ℕ → List ℕ → Registers → State
state_at memory words r = record { memory = memory; program_stack = r.program_stack; operands = operands_at words r; next = r.next }

abbrev pub state_of : Module → State
state_of m = state_at m.block m.words m.registers

-- whether it may run
abbrev pub ready_of : Module → Bool
ready_of m = m.ready

-- what is computed of a word is f of it
abbrev pub ComputesOne : (ℕ → ℕ → Type 0) → (ℕ → ℕ) → Type 0
ComputesOne post f = (t v : ℕ) → t < 2 ^ 32 → post t v → v ≡ f t

-- and of two words
abbrev pub Computes : {A : Type 0} → (ℕ → ℕ → A → Type 0) → (ℕ → ℕ → A) → Type 0
Computes post f = (s t : ℕ) (v : _) → s < 2 ^ 32 → t < 2 ^ 32 → post s t v → v ≡ f s t

-- what is left of a memory once a word is stored at an address is f of the three
abbrev pub Stores : (MutBor (List ℕ) → ℕ → ℕ → Unit {0} → MutBor (List ℕ) → Type 0) → (List ℕ → ℕ → ℕ → List ℕ) → Type 0
Stores post f = (old new : MutBor (List ℕ)) (at w : ℕ) → at < 2 ^ 32 → w < 2 ^ 32 → post old at w tt new → new.now ≡ f old.now at w

-- what is left of a memory has its size
abbrev pub KeepsSize : (MutBor (List ℕ) → ℕ → ℕ → Unit {0} → MutBor (List ℕ) → Type 0) → Type 0
KeepsSize post = (old new : MutBor (List ℕ)) (at w : ℕ) → IsSize (length old.now) → post old at w tt new → length new.now ≡ length old.now

-- a step that nothing outside sees and that calls no trap has gone on or stopped
abbrev pub Comes : Step → State → Option Halt → Type 0
Comes t now None = t ≡ Goes now
Comes t now (Some (StopsBy stop)) = Halts t now (Some stop)
Comes t now (Some (CallsTrap k)) = ⊥

-- and what it leaves
abbrev pub IsStep : Step → List ℕ → List ℕ → Registers → Option Halt → Type 0
IsStep t memory words r result = Comes t (state_at memory words r) result

-- an instruction has gone on or stopped, or it calls a trap, which is to act in this state. There is room for its reply
abbrev pub Leads : Table → Step → State → Option Halt → Type 0
Leads table t now None = t ≡ Goes now
Leads table t now (Some (StopsBy stop)) = Halts t now (Some stop)
Leads table t now (Some (CallsTrap k)) = (t ≡ trapped table k now) × (length now.operands < 256)

-- a step that leaves the memory alone, whatever it is
abbrev pub IsRow : (State → Step) → List ℕ → Registers → List ℕ → Registers → Option Halt → Type 0
IsRow f words r words_now now result = (memory : List ℕ) → IsStep (f (state_at memory words r)) memory words_now now result
