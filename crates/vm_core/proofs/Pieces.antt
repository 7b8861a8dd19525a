-- Runs in pieces: a run with each budget of a list.
use Rattle.std.proofs.Common.{◌≡◌, ℕ, ◌+◌, ◌-◌, ◌<◌, List, length, take, get_or, sum, sym, subst, arith}
use Rattle.std.proofs.lemmas.List.Sums.{sum_by_more, sum_by-take-le}
use Rattle.vm_core.specs.declared.stop.Stop.{Stop}
use Rattle.vm_core.specs.declared.stop.Stop.TheVariants.{Budget}
use Rattle.vm_core.specs.Machine.{State, Step, Going}
use Rattle.vm_core.specs.Ran.{Outside, AsDefined, outcome_of, Ran}
use Rattle.vm_core.proofs.RanLaws.{ran_joined, ran_stays}
use Rattle.vm_core.proofs.Quiet.{budget_is}

module _ (budgets : List ℕ) (i : ℕ) (stop : Stop) {f : State → Step} {s t u : State} {a b c : Outside} where
  -- the runs with the first budgets, and the run with the next
  one_piece_more : i < length budgets → Ran f (sum (take i budgets)) s t a b (AsDefined Going) → Ran f (get_or budgets i 0) t u b c (outcome_of stop) → Ran f (sum (take (i + 1) budgets)) s u a c (outcome_of stop)
  one_piece_more lt p q =
      let P : ℕ → Type 0 = λ n. Ran f n s u a c (outcome_of stop) in
      subst P (sym (sum_by_more (λ x. x) budgets i 0 lt)) (ran_joined f (sum (take i budgets)) (get_or budgets i 0) s t u a b c (outcome_of stop) p q)

  pub piece_goes : i < length budgets → stop ≡ Budget → Ran f (sum (take i budgets)) s t a b (AsDefined Going) → Ran f (get_or budgets i 0) t u b c (outcome_of stop) → Ran f (sum (take (i + 1) budgets)) s u a c (AsDefined Going)
  piece_goes lt e p q = let P : Stop → Type 0 = λ x. Ran f (sum (take (i + 1) budgets)) s u a c (outcome_of x) in subst P e (one_piece_more lt p q)

  -- what has ended stays so under the later budgets
  pub piece_stops : i < length budgets → (stop ≡ Budget → ⊥) → Ran f (sum (take i budgets)) s t a b (AsDefined Going) → Ran f (get_or budgets i 0) t u b c (outcome_of stop) → Ran f (sum budgets) s u a c (outcome_of stop)
  piece_stops lt on p q =
      let P : ℕ → Type 0 = λ n. Ran f n s u a c (outcome_of stop) in
      let n : ℕ = sum (take (i + 1) budgets) in
      let rest : n + (sum budgets - n) ≡ sum budgets = omega (arith, sum_by-take-le (λ x. x) budgets (i + 1)) in
      subst P rest (ran_stays f n (sum budgets - n) s u a c (outcome_of stop) (one_piece_more lt p q) (λ e. on (budget_is stop e)))
