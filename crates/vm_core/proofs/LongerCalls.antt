-- Calls one after another under a larger bound.
use Rattle.std.proofs.Common.{◌≡◌, ℕ, ◌+◌, List, [], ◌∷◌, refl, sym, ap, ◌∙◌}
use Rattle.qv_outside.specs.Event.{Event, Reply}
use Rattle.vm_core.specs.declared.stop.Stop.TheVariants.{Returned}
use Rattle.vm_core.specs.Machine.{State, Step, Ending, Going, Stopped, Asks, End, runs, started}
use Rattle.vm_core.specs.Calls.{AllReturned, CallsEnd, with_calls, on_end, calls_run}
use Rattle.vm_core.proofs.Runs.{runs_stays}
use Rattle.vm_core.proofs.CallLaws.{returned_not_ended, nothing_left, one_more}

-- calls that have come return the same under a larger bound
stays_end : (e : Ending) (es : List Event) (s : State) (l : List Reply) (go to : List ℕ → List Reply → CallsEnd) → (on_end e es s l go).outcome ≡ AllReturned → ((m : List ℕ) (k : List Reply) → (go m k).outcome ≡ AllReturned → to m k ≡ go m k) → on_end e es s l to ≡ on_end e es s l go
stays_end (Stopped (Returned w)) es s l go to came h = ap (λ x. with_calls (w ∷ []) es x) (h s.memory l came)
stays_end e es s l go to came h = refl

returned_not_going : (e : Ending) (es : List Event) (s : State) (l : List Reply) (go : List ℕ → List Reply → CallsEnd) → (on_end e es s l go).outcome ≡ AllReturned → e ≡ Going → ⊥
returned_not_going Going es s l go came g = returned_not_ended Going (sym came)
returned_not_going (Stopped stop) es s l go came g = cc
returned_not_going Asks es s l go came g = cc

pub calls_stay : (f : State → Step) (n k : ℕ) (calls : List (List ℕ)) (memory : List ℕ) (rs : List Reply) → (calls_run f n calls memory rs).outcome ≡ AllReturned → calls_run f (n + k) calls memory rs ≡ calls_run f n calls memory rs
calls_stay f n k [] memory rs came = nothing_left f (n + k) memory rs ∙ sym (nothing_left f n memory rs)
calls_stay f n k (args ∷ calls) memory rs came =
    let r : End = runs f n (started memory args) rs in
    let here : (on_end r.ending r.events r.state r.left (λ m l. calls_run f n calls m l)).outcome ≡ AllReturned = sym (ap (λ (x : CallsEnd). x.outcome) (one_more f n args calls memory rs)) ∙ came in
    one_more f (n + k) args calls memory rs
    ∙ ap (λ (x : End). on_end x.ending x.events x.state x.left (λ m l. calls_run f (n + k) calls m l)) (runs_stays f n k (started memory args) rs r refl (returned_not_going r.ending r.events r.state r.left (λ m l. calls_run f n calls m l) here))
    ∙ stays_end r.ending r.events r.state r.left (λ m l. calls_run f n calls m l) (λ m l. calls_run f (n + k) calls m l) here (λ m l c. calls_stay f n k calls m l c)
    ∙ sym (one_more f n args calls memory rs)
