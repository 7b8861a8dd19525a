-- Laws of runs.
use Rattle.std.proofs.Common.{◌≡◌, ℕ, zero, suc, ◌+◌, ◌-◌, ◌≤◌, List, [], ◌∷◌, ◌++◌, refl, sym, ap, ◌∙◌, subst, arith}
use Rattle.std.proofs.lemmas.List.{append-nil}
use Rattle.qv_outside.specs.Event.{Event, Reply}
use Rattle.vm_core.specs.Machine.{State, Step, Goes, Stops, Puts, Raises, Calls, Ending, Going, Stopped, Asks, End, with_event, after, runs}
use Rattle.vm_core.specs.Joined.{with_events, with_left, and_then}

pub runs-zero : (f : State → Step) (s : State) (rs : List Reply) → runs f 0 s rs ≡ record { ending = Going; events = []; state = s; left = rs }
unfolding runs
runs-zero f s rs = refl

pub runs-suc : (f : State → Step) (n : ℕ) (s : State) (rs : List Reply) → runs f (suc n) s rs ≡ after (f s) rs (λ t left. runs f n t left)
unfolding runs
runs-suc f n s rs = refl

-- the same rest, the same run
same_after : (w : Step) (rs : List Reply) (go to : State → List Reply → End) → ((t : State) (l : List Reply) → go t l ≡ to t l) → after w rs go ≡ after w rs to
same_after (Goes s) rs go to e = e s rs
same_after (Stops stop s) rs go to e = refl
same_after (Puts v s) rs go to e = ap (λ x. with_event v x) (e s rs)
same_after (Raises v s) rs go to e = refl
same_after (Calls v s answered) [] go to e = refl
same_after (Calls v s answered) (r ∷ rs) go to e = ap (λ x. with_event v x) (e (answered r) rs)

and_then-with_event : (v : Event) (a : Ending) (es : List Event) (s : State) (l : List Reply) (go : State → List Reply → End) →
    with_event v (and_then a es s l go) ≡ and_then a (v ∷ es) s l go
and_then-with_event v Going es s l go = refl
and_then-with_event v (Stopped stop) es s l go = refl
and_then-with_event v Asks es s l go = refl

after_then : (w : Step) (rs : List Reply) (go to : State → List Reply → End) →
    after w rs (λ t l. let x : End = go t l in and_then x.ending x.events x.state x.left to) ≡ (let x : End = after w rs go in and_then x.ending x.events x.state x.left to)
after_then (Goes s) rs go to = refl
after_then (Stops stop s) rs go to = refl
after_then (Puts v s) rs go to = let x : End = go s rs in and_then-with_event v x.ending x.events x.state x.left to
after_then (Raises v s) rs go to = refl
after_then (Calls v s answered) [] go to = refl
after_then (Calls v s answered) (r ∷ rs) go to = let x : End = go (answered r) rs in and_then-with_event v x.ending x.events x.state x.left to

-- n steps and then m steps
pub runs_sum : (f : State → Step) (n m : ℕ) (s : State) (rs : List Reply) →
    runs f (n + m) s rs ≡ (let x : End = runs f n s rs in and_then x.ending x.events x.state x.left (λ t l. runs f m t l))
runs_sum f zero m s rs =
    let a : 0 + m ≡ m = omega arith in
    ap (λ k. runs f k s rs) a ∙ sym (ap (λ (x : End). and_then x.ending x.events x.state x.left (λ t l. runs f m t l)) (runs-zero f s rs))
runs_sum f (suc n) m s rs =
    let a : suc n + m ≡ suc (n + m) = omega arith in
    ap (λ k. runs f k s rs) a ∙ runs-suc f (n + m) s rs
    ∙ same_after (f s) rs (λ t l. runs f (n + m) t l) (λ t l. let x : End = runs f n t l in and_then x.ending x.events x.state x.left (λ u k. runs f m u k)) (λ t l. runs_sum f n m t l)
    ∙ after_then (f s) rs (λ t l. runs f n t l) (λ t l. runs f m t l)
    ∙ sym (ap (λ (x : End). and_then x.ending x.events x.state x.left (λ t l. runs f m t l)) (runs-suc f n s rs))

more_after : (w : Step) (rs more : List Reply) (go : State → List Reply → End) →
    ((t : State) (l : List Reply) → ((go t l).ending ≡ Asks → ⊥) → go t (l ++ more) ≡ with_left (go t l) ((go t l).left ++ more)) →
    ((after w rs go).ending ≡ Asks → ⊥) → after w (rs ++ more) go ≡ with_left (after w rs go) ((after w rs go).left ++ more)
more_after (Goes s) rs more go e no_ask = e s rs no_ask
more_after (Stops stop s) rs more go e no_ask = refl
more_after (Puts v s) rs more go e no_ask = ap (λ x. with_event v x) (e s rs no_ask)
more_after (Raises v s) rs more go e no_ask = refl
more_after (Calls v s answered) [] more go e no_ask = absurd (no_ask refl)
more_after (Calls v s answered) (r ∷ rs) more go e no_ask = ap (λ x. with_event v x) (e (answered r) rs no_ask)

-- more replies stay over
pub runs_more : (f : State → Step) (n : ℕ) (s : State) (rs more : List Reply) → ((runs f n s rs).ending ≡ Asks → ⊥) →
    runs f n s (rs ++ more) ≡ with_left (runs f n s rs) ((runs f n s rs).left ++ more)
unfolding runs
runs_more f zero s rs more no_ask = refl
runs_more f (suc n) s rs more no_ask = more_after (f s) rs more (λ t l. runs f n t l) (λ t l. runs_more f n t l more) no_ask

IsGoing : Ending → Type 0
IsGoing Going = Unit {0}
IsGoing (Stopped stop) = ⊥
IsGoing Asks = ⊥

pub asks_not_going : Going ≡ Asks → ⊥
unfolding IsGoing
asks_not_going e = subst IsGoing e tt

-- n steps over these replies, and then m steps over those
pub runs_joined : (f : State → Step) (n m : ℕ) (s t : State) (rs qs : List Reply) (es : List Event) →
    runs f n s rs ≡ record { ending = Going; events = es; state = t; left = [] } →
    runs f (n + m) s (rs ++ qs) ≡ with_events es (runs f m t qs)
runs_joined f n m s t rs qs es e =
    let here : (runs f n s rs).ending ≡ Going = ap (λ (x : End). x.ending) e in
    let b : runs f n s (rs ++ qs) ≡ record { ending = Going; events = es; state = t; left = qs } =
    runs_more f n s rs qs (λ a. asks_not_going (sym here ∙ a)) ∙ ap (λ (x : End). with_left x (x.left ++ qs)) e in
    runs_sum f n m s (rs ++ qs) ∙ ap (λ (x : End). and_then x.ending x.events x.state x.left (λ u l. runs f m u l)) b

-- what has ended stays so under a larger bound
and_then_ended : (a : Ending) (es : List Event) (s : State) (l : List Reply) (go : State → List Reply → End) → (a ≡ Going → ⊥) → and_then a es s l go ≡ record { ending = a; events = es; state = s; left = l }
and_then_ended Going es s l go on = absurd (on refl)
and_then_ended (Stopped stop) es s l go on = refl
and_then_ended Asks es s l go on = refl

pub runs_stays : (f : State → Step) (n k : ℕ) (s : State) (rs : List Reply) (end : End) → runs f n s rs ≡ end → (end.ending ≡ Going → ⊥) → runs f (n + k) s rs ≡ end
runs_stays f n k s rs end e on =
    runs_sum f n k s rs ∙ ap (λ (x : End). and_then x.ending x.events x.state x.left (λ t l. runs f k t l)) e ∙ and_then_ended end.ending end.events end.state end.left (λ t l. runs f k t l) on

-- more steps only add events
grown : (a : Ending) (es : List Event) (s : State) (l : List Reply) (go : State → List Reply → End) → (rest : List Event) × ((and_then a es s l go).events ≡ es ++ rest)
grown Going es s l go = ((go s l).events, refl)
grown (Stopped stop) es s l go = ([], sym (append-nil es))
grown Asks es s l go = ([], sym (append-nil es))

pub events_grow : (f : State → Step) (k n : ℕ) (s : State) (rs : List Reply) → k ≤ n → (rest : List Event) × ((runs f n s rs).events ≡ (runs f k s rs).events ++ rest)
events_grow f k n s rs le =
    let x : End = runs f k s rs in
    let g : (rest : List Event) × ((and_then x.ending x.events x.state x.left (λ t l. runs f (n - k) t l)).events ≡ x.events ++ rest) = grown x.ending x.events x.state x.left (λ t l. runs f (n - k) t l) in
    let sum : k + (n - k) ≡ n = omega (arith, le) in
    (g.0, ap (λ m. (runs f m s rs).events) (sym sum) ∙ ap (λ (y : End). y.events) (runs_sum f k (n - k) s rs) ∙ g.1)
