-- A run of plain instructions that pauses, and what comes then.
use Rattle.std.proofs.Common.{◌≡◌, ◌<◌, ◌+◌, ◌-◌, ◌≤◌, ℕ, List, Option, Some, None, inl, refl, subst, arith}
use Rattle.qv_ops.specs.declared.instr.Instr.{Instr}
use Rattle.qv_outside.specs.Hosts.{Table}
use Rattle.vm_core.specs.Machine.{State, Step, Going, step}
use Rattle.vm_core.specs.Module.{Leads}
use Rattle.vm_core.specs.Paused.{HaltsAt, Paused}
use Rattle.vm_core.specs.Ran.{Outside, Ran, AsDefined, outcome_of, Did}
use Rattle.vm_core.specs.declared.halt.Halt.{Halt}
use Rattle.vm_core.specs.declared.stop.Stop.{Stop}
use Rattle.vm_core.proofs.Loop.{did_at, ran_at, ran_for, run_goes, run_stops}
use Rattle.vm_core.proofs.RanLaws.{ran_joined}
use Rattle.vm_core.proofs.Rows.{led_on}

-- one more instruction that goes on
pub plain_goes : (code : List Instr) (table : Table) (k m : ℕ) (before at now : State) (told : Outside) (result : Option Halt) → Ran (step code table) k before at told told (AsDefined Going) → Leads table (step code table at) now result → result ≡ None → k + 1 ≡ m →
    Ran (step code table) m before now told told (AsDefined Going)
plain_goes code table k m before at now told result ran leads is sum =
    ran_for (step code table) (k + 1) m before now told told (AsDefined Going) sum
    (run_goes (step code table) k before at now told told told None ran (inl (led_on table (step code table at) now result leads is, refl)) refl)

-- the next instruction doesn't go on
pub plain_halts : (code : List Instr) (table : Table) (n left : ℕ) (before at now : State) (told : Outside) (result : Option Halt) (halt : Halt) → left ≤ n → 0 < left → Ran (step code table) (n - left) before at told told (AsDefined Going) → Leads table (step code table at) now result → result ≡ Some halt →
    Paused code table n left before now told (Some halt)
plain_halts code table n left before at now told result halt within some ran leads is =
    let L : Option Halt → Type 0 = λ r. Leads table (step code table at) now r in
    record { at = at; within = within; ran = ran; halts = (subst L is leads, some) }

-- no step is left
pub plain_ends : (code : List Instr) (table : Table) (n left : ℕ) (before now : State) (told : Outside) → left ≤ n → left ≡ 0 → Ran (step code table) (n - left) before now told told (AsDefined Going) → Paused code table n left before now told None
plain_ends code table n left before now told within none ran = record { at = now; within = within; ran = ran; halts = (refl, none) }

-- a run has come to the state from which the plain instructions were made, with so many steps left
module _ (code : List Instr) (table table_now : Table) (n first left : ℕ) (start loop mid : State) (a b : Outside) (same : table_now ≡ table) (few : first ≤ n) (so_far : Ran (step code table) (n - first) start loop a b (AsDefined Going)) where
  come : (result : Option Halt) (p : Paused code table_now first left loop mid b result) → Ran (step code table) (n - left) start p.at a b (AsDefined Going)
  come result p =
      let le : left ≤ first = p.within in
      let sum : n - first + (first - left) ≡ n - left = omega (arith, le, few) in
      ran_for (step code table) (n - first + (first - left)) (n - left) start p.at a b (AsDefined Going) sum
      (ran_joined (step code table) (n - first) (first - left) start loop p.at a b b (AsDefined Going) so_far (ran_at {code = code} {table = table} refl same p.ran))

  pub paused_ends : (result : Option Halt) → Paused code table_now first left loop mid b result → result ≡ None → Ran (step code table) n start mid a b (AsDefined Going)
  paused_ends result p is =
      let H : Option Halt → Type 0 = λ r. HaltsAt table_now (step code table_now p.at) p.at mid left r in
      let halts : HaltsAt table_now (step code table_now p.at) p.at mid left None = subst H is p.halts in
      let none : left ≡ 0 = halts.1 in
      let all : n - left ≡ n = omega (arith, none) in
      let S : State → Type 0 = λ s. Ran (step code table) n start s a b (AsDefined Going) in
      subst S halts.0 (ran_for (step code table) (n - left) n start p.at a b (AsDefined Going) all (come result p))

  -- what the next instruction has led to was seen to
  module _ (result : Option Halt) (halt : Halt) (p : Paused code table_now first left loop mid b result) (is : result ≡ Some halt) where
    halts : HaltsAt table_now (step code table_now p.at) p.at mid left (Some halt)
    halts = let H : Option Halt → Type 0 = λ r. HaltsAt table_now (step code table_now p.at) p.at mid left r in subst H is p.halts

    pub some_left : 0 < left
    some_left = halts.1

    pub led : (t : Step) × Leads table_now t mid (Some halt)
    led = (step code table_now p.at, halts.0)

    module _ (now : State) (c : Outside) (settled : Option Stop) (did : (t : Step) → Leads table_now t mid (Some halt) → Did t now b c settled) where
      done : Did (step code table p.at) now b c settled
      done = did_at code table table_now p.at now settled b c same (did (step code table_now p.at) halts.0)

      pub paused_stops : (stop : Stop) → settled ≡ Some stop → Ran (step code table) n start now a c (outcome_of stop)
      paused_stops stop stopped =
          let le : left ≤ first = p.within in
          let fewer : n - left < n = omega (arith, some_left, le, few) in
          run_stops (step code table) n (n - left) start p.at now a b c settled stop fewer (come result p) done stopped

      pub paused_goes : settled ≡ None → Ran (step code table) (n - (left - 1)) start now a c (AsDefined Going)
      paused_goes goes =
          let le : left ≤ first = p.within in
          let one_more : n - left + 1 ≡ n - (left - 1) = omega (arith, some_left, le, few) in
          ran_for (step code table) (n - left + 1) (n - (left - 1)) start now a c (AsDefined Going) one_more (run_goes (step code table) (n - left) start p.at now a b c settled (come result p) done goes)
