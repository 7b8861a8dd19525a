-- The loop of a run.
use Rattle.std.proofs.Common.{◌≡◌, ℕ, ◌+◌, ◌-◌, ◌<◌, List, [], Option, Some, None, inl, inr, refl, sym, subst, arith}
use Rattle.qv_ops.specs.declared.instr.Instr.{Instr}
use Rattle.qv_outside.specs.Hosts.{Table}
use Rattle.vm_core.specs.declared.stop.Stop.{Stop}
use Rattle.vm_core.specs.declared.stop.Stop.TheVariants.{Budget, HostFault, OutFault}
use Rattle.vm_core.specs.Machine.{State, Step, Going, step}
use Rattle.vm_core.specs.Ran.{Outside, Outcome, AsDefined, outcome_of, Ran, Did}
use Rattle.vm_core.proofs.Appending.{appends_nil}
use Rattle.vm_core.proofs.Runs.{runs-zero}
use Rattle.vm_core.proofs.RanLaws.{step_ran, ran_joined, ran_stays}

-- no step
pub ran_none : (f : State → Step) (s : State) (o : Outside) → Ran f 0 s s o o (AsDefined Going)
ran_none f s o = record {
  events = [];
  replies = [];
  answered = tt;
  replied = appends_nil o.replied o.replied refl;
  ends = record {
    come = runs-zero f s [];
    asked = appends_nil o.asked o.asked refl;
    written = appends_nil o.written o.written refl;
  };
}

-- a run of the same code over the same table
pub ran_at : {code code2 : List Instr} {table table2 : Table} {n : ℕ} {s t : State} {a b : Outside} {outcome : Outcome} → code2 ≡ code → table2 ≡ table →
    Ran (step code2 table2) n s t a b outcome → Ran (step code table) n s t a b outcome
ran_at {code = code} {code2 = code2} {table = table} {table2 = table2} {n = n} {s = s} {t = t} {a = a} {b = b} {outcome = outcome} p q r =
    let P : List Instr → Type 0 = λ x. Ran (step x table) n s t a b outcome in
    let Q : Table → Type 0 = λ x. Ran (step code2 x) n s t a b outcome in
    subst P p (subst Q q r)

-- a run of as many steps
pub ran_for : (f : State → Step) (m n : ℕ) (s t : State) (a b : Outside) (outcome : Outcome) → m ≡ n → Ran f m s t a b outcome → Ran f n s t a b outcome
ran_for f m n s t a b outcome e r = let P : ℕ → Type 0 = λ k. Ran f k s t a b outcome in subst P e r

-- a step of the same code over the same table
pub did_at : (code : List Instr) (table table2 : Table) (s now : State) (result : Option Stop) (old new : Outside) → table2 ≡ table → Did (step code table2 s) now old new result → Did (step code table s) now old new result
did_at code table table2 s now result old new q d = let Q : Table → Type 0 = λ x. Did (step code x s) now old new result in subst Q q d

not_budget : (t : Step) (now : State) (old new : Outside) → Did t now old new (Some Budget) → ⊥
not_budget t now old new (inl (h, q)) = h
not_budget t now old new (inr (inl ((h, w), a, r))) = h
not_budget t now old new (inr (inr (inl ((h, w), a, r)))) = h
not_budget t now old new (inr (inr (inr ((h, a, r), w)))) = h

abbrev IsGoing : Outcome → Type 0
IsGoing (AsDefined Going) = Unit {0}
IsGoing outcome = ⊥

not_going : (t : Step) (now : State) (old new : Outside) (stop : Stop) → Did t now old new (Some stop) → IsGoing (outcome_of stop) → ⊥
not_going t now old new Budget d g = not_budget t now old new d
not_going t now old new HostFault d g = g
not_going t now old new OutFault d g = g
not_going t now old new stop d g = g

-- a run of k steps, and a step that goes on
pub run_goes : (f : State → Step) (k : ℕ) (s t u : State) (a b c : Outside) (result : Option Stop) → Ran f k s t a b (AsDefined Going) → Did (f t) u b c result → result ≡ None → Ran f (k + 1) s u a c (AsDefined Going)
run_goes f k s t u a b c result p d e =
    let P : Option Stop → Type 0 = λ r. Did (f t) u b c r in
    ran_joined f k 1 s t u a b c (AsDefined Going) p (step_ran f t u None b c (subst P e d))

-- a run of k steps, and a step that ends it
pub run_stops : (f : State → Step) (n k : ℕ) (s t u : State) (a b c : Outside) (result : Option Stop) (stop : Stop) → k < n → Ran f k s t a b (AsDefined Going) → Did (f t) u b c result → result ≡ Some stop →
    Ran f n s u a c (outcome_of stop)
run_stops f n k s t u a b c result stop lt p d e =
    let P : Option Stop → Type 0 = λ r. Did (f t) u b c r in
    let here : Did (f t) u b c (Some stop) = subst P e d in
    let Q : ℕ → Type 0 = λ m. Ran f m s u a c (outcome_of stop) in
    let sum : k + 1 + (n - (k + 1)) ≡ n = omega arith in
    subst Q sum (ran_stays f (k + 1) (n - (k + 1)) s u a c (outcome_of stop)
    (ran_joined f k 1 s t u a b c (outcome_of stop) p (step_ran f t u (Some stop) b c here))
    (λ g. not_going (f t) u b c stop here (subst IsGoing (sym g) tt)))
