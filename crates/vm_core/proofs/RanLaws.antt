-- Laws of runs with the outside.
use Rattle.std.proofs.Common.{◌≡◌, ℕ, ◌+◌, ◌≤◌, true, false, List, [], ◌∷◌, ◌++◌, Option, Some, None, ◌⊎◌, inl, inr, refl, sym, ap, ◌∙◌, subst, arith}
use Rattle.std.proofs.lemmas.List.{append_assoc, append-nil}
use Rattle.std.proofs.lemmas.Bool.Decides.{nat_tests}
use Rattle.std.proofs.lemmas.List.Elements.{filter-append}
use Rattle.std.proofs.lemmas.Grind.{flat_map-append}
use Rattle.qv_outside.specs.Event.{Event, Reply}
use Rattle.qv_outside.specs.Told.{Appends, AppendsPrefix}
use Rattle.vm_core.specs.declared.stop.Stop.{Stop}
use Rattle.vm_core.specs.declared.stop.Stop.TheVariants.{Budget, ModuleError, HostFault, OutFault}
use Rattle.qv_outside.specs.Event.{is_host, host_events, text_of, output, Suits, Answered}
use Rattle.vm_core.specs.Machine.{State, Step, Goes, Stops, Puts, Raises, Calls, Ending, Going, Stopped, Asks, End, after, runs}
use Rattle.vm_core.specs.Joined.{with_events}
use Rattle.vm_core.specs.Ran.{Outside, outside, RanAsDefined, HostFailed, OutFailed, Outcome, AsDefined, ByHost, ByOut, step_outcome, Ends, Ran, Halts, PutDone, DidPut, RaiseDone, DidRaise, CallDone, CallFailed, DidCall, Did}
use Rattle.vm_core.proofs.Runs.{runs_joined, runs_stays, asks_not_going}
use Rattle.vm_core.proofs.Appending.{appends_nil, appends_joined}

pub answered_joined : (es vs : List Event) (rs qs : List Reply) → Answered es rs → Answered vs qs → Answered (es ++ vs) (rs ++ qs)
answered_joined [] vs [] qs p q = q
answered_joined [] vs (r ∷ rs) qs p q = absurd p
answered_joined (e ∷ es) vs [] qs p q = absurd p
answered_joined (e ∷ es) vs (r ∷ rs) qs (a, p) q = (a, answered_joined es vs rs qs p q)

-- a step and nothing more
abbrev last_step : State → List Reply → End
last_step t l = record { ending = Going; events = []; state = t; left = l }

runs_one : (f : State → Step) (s : State) (rs : List Reply) → runs f 1 s rs ≡ after (f s) rs last_step
unfolding runs
runs_one f s rs = refl

one : (f : State → Step) (s : State) (w : Step) (rs : List Reply) → f s ≡ w → runs f 1 s rs ≡ after w rs last_step
one f s w rs e = runs_one f s rs ∙ ap (λ v. after v rs last_step) e

goes_ran : (f : State → Step) (s now : State) (old new : Outside) → f s ≡ Goes now → new ≡ old → Ran f 1 s now old new (AsDefined Going)
goes_ran f s now old new e q = record {
  events = [];
  replies = [];
  answered = tt;
  replied = appends_nil old.replied new.replied (ap (λ (o : Outside). o.replied) q);
  ends = record {
    come = one f s (Goes now) [] e;
    asked = appends_nil old.asked new.asked (ap (λ (o : Outside). o.asked) q);
    written = appends_nil old.written new.written (ap (λ (o : Outside). o.written) q);
  };
}

stops_ran : (f : State → Step) (s now : State) (stop : Stop) (old new : Outside) → f s ≡ Stops stop now → new ≡ old → Ran f 1 s now old new (AsDefined (Stopped stop))
stops_ran f s now stop old new e q = record {
  events = [];
  replies = [];
  answered = tt;
  replied = appends_nil old.replied new.replied (ap (λ (o : Outside). o.replied) q);
  ends = record {
    come = one f s (Stops stop now) [] e;
    asked = appends_nil old.asked new.asked (ap (λ (o : Outside). o.asked) q);
    written = appends_nil old.written new.written (ap (λ (o : Outside). o.written) q);
  };
}

pub halts_ran : (f : State → Step) (s now : State) (result : Option Stop) (old new : Outside) → Halts (f s) now result → new ≡ old → Ran f 1 s now old new (step_outcome result)
halts_ran f s now None old new e q = goes_ran f s now old new e q
halts_ran f s now (Some Budget) old new e q = absurd e
halts_ran f s now (Some HostFault) old new e q = absurd e
halts_ran f s now (Some OutFault) old new e q = absurd e
halts_ran f s now (Some stop) old new e q = stops_ran f s now stop old new e q

no_host : (e : Event) → is_host e ≡ false → host_events (e ∷ []) ≡ []
no_host e c = grind (arith, nat_tests, c)

a_host : (e : Event) → is_host e ≡ true → host_events (e ∷ []) ≡ e ∷ []
a_host e c = grind (arith, nat_tests, c)

host_none : (e : Event) → is_host e ≡ false → Answered (host_events (e ∷ [])) []
host_none e c = let P : List Event → Type 0 = λ es. Answered es [] in subst P (sym (no_host e c)) tt

host_one : (e : Event) (r : Reply) → is_host e ≡ true → Suits e r → Answered (host_events (e ∷ [])) (r ∷ [])
host_one e r c u = let P : List Event → Type 0 = λ es. Answered es (r ∷ []) in subst P (sym (a_host e c)) (u, tt)

appends_text : (old new : Option (List ℕ)) (e : Event) → Appends old new (text_of e) → Appends old new (output (e ∷ []))
appends_text old new e p = let P : List ℕ → Type 0 = λ t. Appends old new t in subst P (sym (append-nil (text_of e))) p

appends_events : (old new : Option (List Event)) (es vs : List Event) → es ≡ vs → Appends old new vs → Appends old new es
appends_events old new es vs e p = let P : List Event → Type 0 = λ t. Appends old new t in subst P (sym e) p

pub silent : (e : Event) → is_host e ≡ true → output (e ∷ []) ≡ []
silent e c = grind (arith, nat_tests, c)

asked_or : (old new : Option (List Event)) (e : Event) → is_host e ≡ true → (new ≡ old) ⊎ Appends old new (e ∷ []) → Appends old new (host_events []) ⊎ Appends old new (host_events ([] ++ e ∷ []))
asked_or old new e c (inl p) = inl (appends_nil old new p)
asked_or old new e c (inr p) = inr (appends_events old new (host_events (e ∷ [])) (e ∷ []) (a_host e c) p)

appends_nothing : (old new : Option (List ℕ)) (e : Event) → is_host e ≡ true → new ≡ old → Appends old new (output (e ∷ []))
appends_nothing old new e c q = let P : List ℕ → Type 0 = λ t. Appends old new t in subst P (sym (silent e c)) (appends_nil old new q)

put_ran : (f : State → Step) (s now : State) (old new : Outside) → PutDone (f s) now old.written new.written → new.asked ≡ old.asked → new.replied ≡ old.replied → Ran f 1 s now old new (AsDefined Going)
put_ran f s now old new p a r = record {
  events = p.event ∷ [];
  replies = [];
  answered = host_none p.event p.console;
  replied = appends_nil old.replied new.replied r;
  ends = record {
    come = one f s (Puts p.event now) [] p.step;
    asked = appends_events old.asked new.asked (host_events (p.event ∷ [])) [] (no_host p.event p.console) (appends_nil old.asked new.asked a);
    written = appends_text old.written new.written p.event p.written;
  };
}

raise_ran : (f : State → Step) (s now : State) (old new : Outside) → RaiseDone (f s) now old.written new.written → new.asked ≡ old.asked → new.replied ≡ old.replied → Ran f 1 s now old new (AsDefined (Stopped ModuleError))
raise_ran f s now old new p a r = record {
  events = p.event ∷ [];
  replies = [];
  answered = host_none p.event p.console;
  replied = appends_nil old.replied new.replied r;
  ends = record {
    come = one f s (Raises p.event now) [] p.step;
    asked = appends_events old.asked new.asked (host_events (p.event ∷ [])) [] (no_host p.event p.console) (appends_nil old.asked new.asked a);
    written = appends_text old.written new.written p.event p.written;
  };
}

out_ran : (f : State → Step) (s at now : State) (w : Step) (e : Event) (end : End) (old new : Outside) → f s ≡ w → after w [] last_step ≡ end → end.events ≡ e ∷ [] → end.left ≡ [] →
    is_host e ≡ false → AppendsPrefix old.written new.written (text_of e) → new.asked ≡ old.asked → new.replied ≡ old.replied → Ran f 1 s now old new ByOut
out_ran f s at now w e end old new q c d l h t a r = record {
  events = [];
  replies = [];
  answered = tt;
  replied = appends_nil old.replied new.replied r;
  ends = record {
    steps = 1;
    end = end;
    last = e;
    within = omega arith;
    come = one f s w [] q ∙ c;
    done = d;
    used = l;
    console = h;
    asked = appends_nil old.asked new.asked a;
    written = (old.written, appends_nil old.written old.written refl, t);
  };
}

call_ran : (f : State → Step) (s now : State) (old new : Outside) → CallDone (f s) now old.asked new.asked old.replied new.replied → new.written ≡ old.written → Ran f 1 s now old new (AsDefined Going)
call_ran f s now old new p w = record {
  events = p.event ∷ [];
  replies = p.reply ∷ [];
  answered = host_one p.event p.reply p.host p.suits;
  replied = p.replied;
  ends = record {
    come = one f s (Calls p.event p.state p.answered) (p.reply ∷ []) p.step ∙ ap (λ (t : State). record { ending = Going; events = p.event ∷ []; state = t; left = [] }) (sym p.here);
    asked = appends_events old.asked new.asked (host_events (p.event ∷ [])) (p.event ∷ []) (a_host p.event p.host) p.asked;
    written = appends_nothing old.written new.written p.event p.host w;
  };
}

host_ran : (f : State → Step) (s now : State) (old new : Outside) → CallFailed (f s) now old.asked new.asked old.replied new.replied → new.written ≡ old.written → Ran f 1 s now old new ByHost
host_ran f s now old new p w = record {
  events = [];
  replies = [];
  answered = tt;
  replied = appends_nil old.replied new.replied p.replied;
  ends = record {
    last = p.event;
    host = p.host;
    come = one f s (Calls p.event now p.answered) [] p.step;
    asked = asked_or old.asked new.asked p.event p.host p.asked;
    written = appends_nil old.written new.written w;
  };
}

same_outside : (old new : Outside) → new.asked ≡ old.asked → new.replied ≡ old.replied → new.written ≡ old.written → new ≡ old
same_outside old new a r w = ap (λ x. outside x new.replied new.written) a ∙ ap (λ x. outside old.asked x new.written) r ∙ ap (λ x. outside old.asked old.replied x) w

put_any : (f : State → Step) (s now : State) (result : Option Stop) (old new : Outside) → DidPut (f s) now old.written new.written result → new.asked ≡ old.asked → new.replied ≡ old.replied → Ran f 1 s now old new (step_outcome result)
put_any f s now None old new p a r = put_ran f s now old new p a r
put_any f s now (Some OutFault) old new p a r = out_ran f s p.state now (Puts p.event p.state) p.event (record { ending = Going; events = p.event ∷ []; state = p.state; left = [] }) old new p.step refl refl refl p.console p.written a r
put_any f s now (Some stop) old new (h, w) a r = halts_ran f s now (Some stop) old new h (same_outside old new a r w)

raise_any : (f : State → Step) (s now : State) (result : Option Stop) (old new : Outside) → DidRaise (f s) now old.written new.written result → new.asked ≡ old.asked → new.replied ≡ old.replied → Ran f 1 s now old new (step_outcome result)
raise_any f s now None old new p a r = absurd p
raise_any f s now (Some ModuleError) old new p a r = raise_ran f s now old new p a r
raise_any f s now (Some OutFault) old new p a r = out_ran f s p.state now (Raises p.event p.state) p.event (record { ending = Stopped ModuleError; events = p.event ∷ []; state = p.state; left = [] }) old new p.step refl refl refl p.console p.written a r
raise_any f s now (Some stop) old new (h, w) a r = halts_ran f s now (Some stop) old new h (same_outside old new a r w)

call_any : (f : State → Step) (s now : State) (result : Option Stop) (old new : Outside) → DidCall (f s) now old.asked new.asked old.replied new.replied result → new.written ≡ old.written → Ran f 1 s now old new (step_outcome result)
call_any f s now None old new p w = call_ran f s now old new p w
call_any f s now (Some HostFault) old new p w = host_ran f s now old new p w
call_any f s now (Some stop) old new (h, a, r) w = halts_ran f s now (Some stop) old new h (same_outside old new a r w)

pub did_along : (w v : Step) (now : State) (result : Option Stop) (old new : Outside) → w ≡ v → Did v now old new result → Did w now old new result
did_along w v now result old new e d = let P : Step → Type 0 = λ t. Did t now old new result in subst P (sym e) d

-- one step is a run of one step
pub step_ran : (f : State → Step) (s now : State) (result : Option Stop) (old new : Outside) → Did (f s) now old new result → Ran f 1 s now old new (step_outcome result)
step_ran f s now result old new (inl (h, q)) = halts_ran f s now result old new h q
step_ran f s now result old new (inr (inl (p, a, r))) = put_any f s now result old new p a r
step_ran f s now result old new (inr (inr (inl (p, a, r)))) = raise_any f s now result old new p a r
step_ran f s now result old new (inr (inr (inr (p, w)))) = call_any f s now result old new p w

pub appends_filter : (a b c : Option (List Event)) (es vs : List Event) → Appends a b (host_events es) → Appends b c (host_events vs) → Appends a c (host_events (es ++ vs))
appends_filter a b c es vs p q = appends_events a c (host_events (es ++ vs)) (host_events es ++ host_events vs) (filter-append is_host es vs) (appends_joined a b c (host_events es) (host_events vs) p q)

pub appends_output : (a b c : Option (List ℕ)) (es vs : List Event) → Appends a b (output es) → Appends b c (output vs) → Appends a c (output (es ++ vs))
appends_output a b c es vs p q = let P : List ℕ → Type 0 = λ t. Appends a c t in subst P (sym (flat_map-append text_of es vs)) (appends_joined a b c (output es) (output vs) p q)

whole_joined : (f : State → Step) (n m : ℕ) (s t u : State) (a b c : Outside) (es vs : List Event) (rs qs : List Reply) (ending : Ending) →
    RanAsDefined f n s t a b es rs Going → RanAsDefined f m t u b c vs qs ending → RanAsDefined f (n + m) s u a c (es ++ vs) (rs ++ qs) ending
whole_joined f n m s t u a b c es vs rs qs ending p q = record {
  come = runs_joined f n m s t rs qs es p.come ∙ ap (λ (x : End). with_events es x) q.come;
  asked = appends_filter a.asked b.asked c.asked es vs p.asked q.asked;
  written = appends_output a.written b.written c.written es vs p.written q.written;
}

pub asked_joined : (a b c : Option (List Event)) (es vs : List Event) (e : Event) → Appends a b (host_events es) → Appends b c (host_events vs) ⊎ Appends b c (host_events (vs ++ e ∷ [])) →
    Appends a c (host_events (es ++ vs)) ⊎ Appends a c (host_events (es ++ vs ++ e ∷ []))
asked_joined a b c es vs e p (inl q) = inl (appends_filter a b c es vs p q)
asked_joined a b c es vs e p (inr q) = inr (appends_events a c (host_events (es ++ vs ++ e ∷ [])) (host_events (es ++ (vs ++ e ∷ []))) (ap (λ x. host_events x) (append_assoc es vs (e ∷ []))) (appends_filter a b c es (vs ++ e ∷ []) p q))

host_joined : (f : State → Step) (n m : ℕ) (s t u : State) (a b c : Outside) (es vs : List Event) (rs qs : List Reply) →
    RanAsDefined f n s t a b es rs Going → HostFailed f m t u b c vs qs → HostFailed f (n + m) s u a c (es ++ vs) (rs ++ qs)
host_joined f n m s t u a b c es vs rs qs p q = record {
  last = q.last;
  host = q.host;
  come = runs_joined f n m s t rs qs es p.come ∙ ap (λ (x : End). with_events es x) q.come
      ∙ ap (λ (x : List Event). record { ending = Asks; events = x; state = u; left = [] }) (sym (append_assoc es vs (q.last ∷ [])));
  asked = asked_joined a.asked b.asked c.asked es vs q.last p.asked q.asked;
  written = appends_output a.written b.written c.written es vs p.written q.written;
}

out_joined : (f : State → Step) (n m : ℕ) (s t : State) (a b c : Outside) (es vs : List Event) (rs qs : List Reply) →
    RanAsDefined f n s t a b es rs Going → OutFailed f m t b c vs qs → OutFailed f (n + m) s a c (es ++ vs) (rs ++ qs)
out_joined f n m s t a b c es vs rs qs p q = let le : q.steps ≤ m = q.within in record {
  steps = n + q.steps;
  end = with_events es q.end;
  last = q.last;
  within = omega (arith, le);
  come = runs_joined f n q.steps s t rs qs es p.come ∙ ap (λ (x : End). with_events es x) q.come;
  done = ap (λ (x : List Event). es ++ x) q.done ∙ sym (append_assoc es vs (q.last ∷ []));
  used = q.used;
  console = q.console;
  asked = appends_filter a.asked b.asked c.asked es vs p.asked q.asked;
  written = (q.written.0, appends_output a.written b.written q.written.0 es vs p.written q.written.1, q.written.2);
}

ends_joined : (f : State → Step) (n m : ℕ) (s t u : State) (a b c : Outside) (es vs : List Event) (rs qs : List Reply) (outcome : Outcome) →
    RanAsDefined f n s t a b es rs Going → Ends f m t u b c vs qs outcome → Ends f (n + m) s u a c (es ++ vs) (rs ++ qs) outcome
ends_joined f n m s t u a b c es vs rs qs (AsDefined ending) p q = whole_joined f n m s t u a b c es vs rs qs ending p q
ends_joined f n m s t u a b c es vs rs qs ByHost p q = host_joined f n m s t u a b c es vs rs qs p q
ends_joined f n m s t u a b c es vs rs qs ByOut p q = out_joined f n m s t a b c es vs rs qs p q

-- pieces of runs are one run
pub ran_joined : (f : State → Step) (n m : ℕ) (s t u : State) (a b c : Outside) (outcome : Outcome) →
    Ran f n s t a b (AsDefined Going) → Ran f m t u b c outcome → Ran f (n + m) s u a c outcome
ran_joined f n m s t u a b c outcome p q = record {
  events = p.events ++ q.events;
  replies = p.replies ++ q.replies;
  answered = let P : List Event → Type 0 = λ es. Answered es (p.replies ++ q.replies) in
      subst P (sym (filter-append is_host p.events q.events)) (answered_joined (host_events p.events) (host_events q.events) p.replies q.replies p.answered q.answered);
  replied = appends_joined a.replied b.replied c.replied p.replies q.replies p.replied q.replied;
  ends = ends_joined f n m s t u a b c p.events q.events p.replies q.replies outcome p.ends q.ends;
}

-- what has ended stays so under a larger bound
ends_stay : (f : State → Step) (n k : ℕ) (s t : State) (a b : Outside) (es : List Event) (rs : List Reply) (outcome : Outcome) → Ends f n s t a b es rs outcome → (outcome ≡ AsDefined Going → ⊥) → Ends f (n + k) s t a b es rs outcome
ends_stay f n k s t a b es rs (AsDefined ending) p on = record {
  come = runs_stays f n k s rs _ p.come (λ e. on (ap (λ x. AsDefined x) e));
  asked = p.asked;
  written = p.written;
}
ends_stay f n k s t a b es rs ByHost p on = record {
  last = p.last;
  host = p.host;
  come = runs_stays f n k s rs _ p.come (λ e. asks_not_going (sym e));
  asked = p.asked;
  written = p.written;
}
ends_stay f n k s t a b es rs ByOut p on = let le : p.steps ≤ n = p.within in record {
  steps = p.steps;
  end = p.end;
  last = p.last;
  within = omega (arith, le);
  come = p.come;
  done = p.done;
  used = p.used;
  console = p.console;
  asked = p.asked;
  written = p.written;
}

pub ran_stays : (f : State → Step) (n k : ℕ) (s t : State) (a b : Outside) (outcome : Outcome) → Ran f n s t a b outcome → (outcome ≡ AsDefined Going → ⊥) → Ran f (n + k) s t a b outcome
ran_stays f n k s t a b outcome p on = record {
  events = p.events;
  replies = p.replies;
  answered = p.answered;
  replied = p.replied;
  ends = ends_stay f n k s t a b p.events p.replies outcome p.ends on;
}
