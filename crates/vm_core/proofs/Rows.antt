-- A row of the table, found by its opcode.
use Rattle.std.proofs.Common.{◌≡◌, ◌<◌, ℕ, length, Option, Some, None, ◌⊎◌, inl, inr, sym, subst}
use Rattle.qv_ops.specs.declared.op.Op.{Op}
use Rattle.qv_outside.specs.Hosts.{Table}
use Rattle.vm_core.specs.declared.halt.Halt.{Halt}
use Rattle.vm_core.specs.declared.halt.Halt.TheVariants.{Stop as StopsBy, Trap as CallsTrap}
use Rattle.vm_core.specs.Machine.{State, Step, Goes, act}
use Rattle.vm_core.specs.Module.{Comes, Leads}
use Rattle.vm_core.specs.Ran.{Halts}
use Rattle.vm_core.specs.Traps.{trapped}
use Rattle.vm_core.specs.declared.stop.Stop.{Stop}

-- a step that nothing outside sees calls no trap
pub leads : (table : Table) (t : Step) (now : State) (result : Option Halt) → Comes t now result → Leads table t now result
leads table t now None is = is
leads table t now (Some (StopsBy stop)) is = is
leads table t now (Some (CallsTrap k)) is = absurd is

pub leads_along : (table : Table) (t u : Step) (now : State) (result : Option Halt) → t ≡ u → Leads table u now result → Leads table t now result
leads_along table t u now result e h = let P : Step → Type 0 = λ v. Leads table v now result in subst P (sym e) h

-- what the row of this opcode leads to is what the instruction leads to
pub along_call : (table : Table) (count v : ℕ) {op row : Op} (s now : State) (result : Option Halt) → op ≡ row → Leads table (act table count row v s) now result → Leads table (act table count op v s) now result
along_call table count v s now result is here =
    let P : Op → Type 0 = λ x. Leads table (act table count x v s) now result in subst P (sym is) here

pub along_op : (table : Table) (count v : ℕ) {op row : Op} (s now : State) (result : Option Halt) → op ≡ row → Comes (act table count row v s) now result → Leads table (act table count op v s) now result
along_op table count v {row = row} s now result is here = along_call table count v s now result is (leads table (act table count row v s) now result here)

-- and where two opcodes have the same row
pub along_either : (table : Table) (count v : ℕ) {op row other : Op} (s now : State) (result : Option Halt) → (op ≡ row) ⊎ (op ≡ other) → Comes (act table count row v s) now result → Comes (act table count other v s) now result →
    Leads table (act table count op v s) now result
along_either table count v s now result (inl is) here there = along_op table count v s now result is here
along_either table count v s now result (inr is) here there = along_op table count v s now result is there

-- an instruction that has led to this
pub led_on : (table : Table) (t : Step) (now : State) (result : Option Halt) → Leads table t now result → result ≡ None → t ≡ Goes now
led_on table t now result leads is = let P : Option Halt → Type 0 = λ r. Leads table t now r in subst P is leads

pub led_to_stop : (table : Table) (t : Step) (now : State) (result : Option Halt) (stop : Stop) → Leads table t now result → result ≡ Some (StopsBy stop) → Halts t now (Some stop)
led_to_stop table t now result stop leads is = let P : Option Halt → Type 0 = λ r. Leads table t now r in subst P is leads

pub led_to_trap : (table : Table) (t : Step) (now : State) (result : Option Halt) (k : ℕ) → Leads table t now result → result ≡ Some (CallsTrap k) → (t ≡ trapped table k now) × (length now.operands < 256)
led_to_trap table t now result k leads is = let P : Option Halt → Type 0 = λ r. Leads table t now r in subst P is leads
