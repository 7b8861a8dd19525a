-- A call whose run has no event leaves the outside as it was.
use Rattle.std.proofs.Common.{◌≡◌, ℕ, List, [], ◌∷◌, ◌++◌, refl, sym, ap, ◌∙◌, subst}
use Rattle.qv_outside.specs.Told.{Appends}
use Rattle.qv_outside.specs.Event.{Event, Reply, Answered, host_events, output}
use Rattle.vm_core.specs.declared.stop.Stop.{Stop}
use Rattle.vm_core.specs.declared.stop.Stop.TheVariants.{Returned, Budget, HostFault, OutFault}
use Rattle.vm_core.specs.Machine.{State, Step, Ending, Going, Stopped, End, runs}
use Rattle.vm_core.specs.Ran.{Outside, Outcome, AsDefined, ByHost, ByOut, outcome_of, RanAsDefined, Ran}
use Rattle.vm_core.proofs.Appending.{appends_none}
use Rattle.vm_core.proofs.Replies.{no_replies}
use Rattle.vm_core.proofs.Runs.{events_grow}

-- over these replies the run ends so, with no event and with those left
abbrev pub IsQuiet : (State → Step) → ℕ → State → List Reply → Ending → State → List Reply → Type 0
IsQuiet f n s rs ending t left = runs f n s rs ≡ record { ending = ending; events = []; state = t; left = left }

-- the call closed as the definition does, in that state, and the outside is as it was
pub record Unseen (ending : Ending) (t after : State) (old new : Outside) (outcome : Outcome) : Type 0 where
  pub close_is : outcome ≡ AsDefined ending
  pub state : after ≡ t
  pub asked : new.asked ≡ old.asked
  pub replied : new.replied ≡ old.replied
  pub written : new.written ≡ old.written

no_last : (es : List Event) (e : Event) → es ++ e ∷ [] ≡ [] → ⊥
no_last [] e p = cc
no_last (x ∷ es) e p = cc

no_more : (es rest : List Event) → [] ≡ es ++ rest → es ≡ []
no_more [] rest p = refl
no_more (x ∷ es) rest p = cc

module _ (f : State → Step) (n : ℕ) (s t after : State) (old new : Outside) (ending : Ending) (left : List Reply) where
  whole_unseen : (es : List Event) (rs : List Reply) (here : Ending) → IsQuiet f n s rs ending t left → Answered (host_events es) rs → Appends old.replied new.replied rs → RanAsDefined f n s after old new es rs here → Unseen ending t after old new (AsDefined here)
  whole_unseen es rs here quiet answered r p =
      let e : record { ending = here; events = es; state = after; left = [] } ≡ record { ending = ending; events = []; state = t; left = left } = sym p.come ∙ quiet in
      let none : es ≡ [] = ap (λ (x : End). x.events) e in
      let A : List Event → Type 0 = λ x. Appends old.asked new.asked (host_events x) in
      let R : List Reply → Type 0 = λ x. Appends old.replied new.replied x in
      let W : List Event → Type 0 = λ x. Appends old.written new.written (output x) in
      record {
        close_is = ap (λ x. AsDefined x) (ap (λ (x : End). x.ending) e);
        state = ap (λ (x : End). x.state) e;
        asked = appends_none old.asked new.asked (subst A none p.asked);
        replied = appends_none old.replied new.replied (subst R (no_replies es rs none answered) r);
        written = appends_none old.written new.written (subst W none p.written);
      }

  -- neither the host nor the sink failed, since nothing was asked and nothing put
  pub unseen : (outcome : Outcome) (p : Ran f n s after old new outcome) → IsQuiet f n s p.replies ending t left → Unseen ending t after old new outcome
  unseen (AsDefined here) p quiet = whole_unseen p.events p.replies here quiet p.answered p.replied p.ends
  unseen ByHost p quiet = absurd (no_last p.events p.ends.last (ap (λ (x : End). x.events) (sym p.ends.come ∙ quiet)))
  unseen ByOut p quiet =
      let g : (rest : List Event) × ((runs f n s p.replies).events ≡ (runs f p.ends.steps s p.replies).events ++ rest) = events_grow f p.ends.steps n s p.replies p.ends.within in
      let none : [] ≡ (runs f p.ends.steps s p.replies).events ++ g.0 = sym (ap (λ (x : End). x.events) quiet) ∙ g.1 in
      let done : (runs f p.ends.steps s p.replies).events ≡ p.events ++ p.ends.last ∷ [] = ap (λ (x : End). x.events) p.ends.come ∙ p.ends.done in
      absurd (no_last p.events p.ends.last (sym done ∙ no_more (runs f p.ends.steps s p.replies).events g.0 none))

pub returned_is : (stop : Stop) (w : ℕ) → outcome_of stop ≡ AsDefined (Stopped (Returned w)) → stop ≡ Returned w
returned_is Budget w e = cc
returned_is HostFault w e = cc
returned_is OutFault w e = cc
returned_is stop w e = cc

pub budget_is : (stop : Stop) → outcome_of stop ≡ AsDefined Going → stop ≡ Budget
budget_is Budget e = refl
budget_is HostFault e = cc
budget_is OutFault e = cc
budget_is stop e = cc
