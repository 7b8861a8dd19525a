-- What an instruction that does not go on comes to: a stop, or the service of a trap.
use Rattle.std.proofs.Common.{◌≡◌, ◌<◌, ℕ, List, ◌∷◌, length, drop, Option, Some, None, Result, Ok, Err, inl, refl, sym, subst, arith, length-drop}
use Rattle.qv_outside.specs.Hosts.{Table}
use Rattle.vm_core.specs.State.{State, Step}
use Rattle.vm_core.specs.Traps.{trapped}
use Rattle.vm_core.specs.Module.{Leads}
use Rattle.vm_core.specs.Ran.{Outside, Halts, Did}
use Rattle.vm_core.specs.Served.{Serves, served, stop_of}
use Rattle.vm_core.specs.declared.halt.Halt.{Halt}
use Rattle.vm_core.specs.declared.halt.Halt.TheVariants.{Stop as StopsBy, Trap as CallsTrap}
use Rattle.vm_core.specs.declared.stop.Stop.{Stop}
use Rattle.vm_core.specs.declared.stop.Stop.TheVariants.{HostFault, OutFault}
use Rattle.vm_core.proofs.RanLaws.{did_along}
use Rattle.vm_core.proofs.Rows.{led_to_stop, led_to_trap}

module _ (table : Table) (t : Step) (s : State) (result : Option Halt) (leads : Leads table t s result) where
  -- the instruction stopped
  module _ (stop : Stop) (is : result ≡ Some (StopsBy stop)) where
    pub stop_did : (told : Outside) → Did t s told told (Some stop)
    stop_did told = inl (led_to_stop table t s result stop leads is, refl)

    pub stop_no_host_fault : Some stop ≡ Some HostFault → ⊥
    stop_no_host_fault fault = let P : Option Stop → Type 0 = λ r. Halts t s r in subst P fault (led_to_stop table t s result stop leads is)

    pub stop_no_out_fault : Some stop ≡ Some OutFault → ⊥
    stop_no_out_fault fault = let P : Option Stop → Type 0 = λ r. Halts t s r in subst P fault (led_to_stop table t s result stop leads is)

  -- it called a trap
  module _ (k : ℕ) (is : result ≡ Some (CallsTrap k)) where
    pub room_for_reply : length s.operands < 256
    room_for_reply = (led_to_trap table t s result k leads is).1

    module _ (memory : List ℕ) (old new : Outside) where
      trap_did : (reply : Result ℕ Stop) → Serves (trapped table k) s.memory s.program_stack memory old new reply → Did t (served s memory reply) old new (stop_of reply)
      trap_did reply serves = did_along t (trapped table k s) (served s memory reply) (stop_of reply) old new (led_to_trap table t s result k leads is).0 (serves s.operands s.next)

      pub replied_did : (word : ℕ) (operands : List ℕ) → Serves (trapped table k) s.memory s.program_stack memory old new (Ok word) → operands ≡ word ∷ s.operands →
          Did t (record { memory = memory; program_stack = s.program_stack; operands = operands; next = s.next }) old new None
      replied_did word operands serves pushed =
          let P : List ℕ → Type 0 = λ ops. Did t (record { memory = memory; program_stack = s.program_stack; operands = ops; next = s.next }) old new None in
          subst P (sym pushed) (trap_did (Ok word) serves)

      pub stopped_did : (stop : Stop) → Serves (trapped table k) s.memory s.program_stack memory old new (Err stop) → Did t (record { memory = memory; program_stack = s.program_stack; operands = s.operands; next = s.next }) old new (Some stop)
      stopped_did stop serves = trap_did (Err stop) serves

-- fewer words than there are places leave one free
pub top_above : (words : List ℕ) (top : ℕ) → length words ≡ 256 → length (drop top words) < 256 → 0 < top
top_above words top full fewer = omega (arith, full, fewer, length-drop top words)
