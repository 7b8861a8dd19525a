-- Laws of calls one after another.
use Rattle.std.proofs.Common.{◌≡◌, ℕ, List, [], ◌∷◌, ◌++◌, refl, sym, ap, ◌∙◌, subst}
use Rattle.std.proofs.lemmas.List.{append_assoc}
use Rattle.qv_outside.specs.Event.{Event, Reply}
use Rattle.vm_core.specs.declared.stop.Stop.TheVariants.{Returned}
use Rattle.vm_core.specs.Machine.{State, Step, Ending, Stopped, Asks, End, runs, started}
use Rattle.vm_core.proofs.Runs.{runs_more}
use Rattle.vm_core.specs.Calls.{CallsOutcome, AllReturned, Ended, CallsEnd, with_calls, left_over, on_end, calls_run, calls_then}

pub nothing_left : (f : State → Step) (n : ℕ) (memory : List ℕ) (rs : List Reply) → calls_run f n [] memory rs ≡ record { outcome = AllReturned; words = []; events = []; memory = memory; left = rs }
unfolding calls_run
nothing_left f n memory rs = refl

pub one_more : (f : State → Step) (n : ℕ) (args : List ℕ) (calls : List (List ℕ)) (memory : List ℕ) (rs : List Reply) →
    calls_run f n (args ∷ calls) memory rs ≡ (let x : End = runs f n (started memory args) rs in on_end x.ending x.events x.state x.left (λ m l. calls_run f n calls m l))
unfolding calls_run
one_more f n args calls memory rs = refl

same_end : (e : Ending) (es : List Event) (s : State) (l : List Reply) (go to : List ℕ → List Reply → CallsEnd) → ((m : List ℕ) (k : List Reply) → go m k ≡ to m k) → on_end e es s l go ≡ on_end e es s l to
same_end (Stopped (Returned w)) es s l go to h = ap (λ x. with_calls (w ∷ []) es x) (h s.memory l)
same_end e es s l go to h = refl

then_with : (words : List ℕ) (es : List Event) (c : CallsOutcome) (ws : List ℕ) (vs : List Event) (m : List ℕ) (l : List Reply) (go : List ℕ → List Reply → CallsEnd) →
    with_calls words es (calls_then c ws vs m l go) ≡ calls_then c (words ++ ws) (es ++ vs) m l go
then_with words es AllReturned ws vs m l go = let x : CallsEnd = go m l in
    ap (λ y. record { outcome = x.outcome; words = y; events = es ++ (vs ++ x.events); memory = x.memory; left = x.left }) (sym (append_assoc words ws x.words))
    ∙ ap (λ y. record { outcome = x.outcome; words = words ++ ws ++ x.words; events = y; memory = x.memory; left = x.left }) (sym (append_assoc es vs x.events))
then_with words es (Ended e) ws vs m l go = refl

end_then : (e : Ending) (es : List Event) (s : State) (l : List Reply) (go to : List ℕ → List Reply → CallsEnd) →
    on_end e es s l (λ m k. let x : CallsEnd = go m k in calls_then x.outcome x.words x.events x.memory x.left to) ≡ (let x : CallsEnd = on_end e es s l go in calls_then x.outcome x.words x.events x.memory x.left to)
end_then (Stopped (Returned w)) es s l go to = let x : CallsEnd = go s.memory l in then_with (w ∷ []) es x.outcome x.words x.events x.memory x.left to
end_then e es s l go to = refl

-- these calls and behind those
pub calls_sum : (f : State → Step) (n : ℕ) (xs ys : List (List ℕ)) (memory : List ℕ) (rs : List Reply) →
    calls_run f n (xs ++ ys) memory rs ≡ (let x : CallsEnd = calls_run f n xs memory rs in calls_then x.outcome x.words x.events x.memory x.left (λ m l. calls_run f n ys m l))
calls_sum f n [] ys memory rs = sym (ap (λ (x : CallsEnd). calls_then x.outcome x.words x.events x.memory x.left (λ m l. calls_run f n ys m l)) (nothing_left f n memory rs))
calls_sum f n (args ∷ xs) ys memory rs =
    let r : End = runs f n (started memory args) rs in
    one_more f n args (xs ++ ys) memory rs
    ∙ same_end r.ending r.events r.state r.left (λ m l. calls_run f n (xs ++ ys) m l) (λ m l. let x : CallsEnd = calls_run f n xs m l in calls_then x.outcome x.words x.events x.memory x.left (λ u k. calls_run f n ys u k)) (λ m l. calls_sum f n xs ys m l)
    ∙ end_then r.ending r.events r.state r.left (λ m l. calls_run f n xs m l) (λ m l. calls_run f n ys m l)
    ∙ sym (ap (λ (x : CallsEnd). calls_then x.outcome x.words x.events x.memory x.left (λ m l. calls_run f n ys m l)) (one_more f n args xs memory rs))

more_end : (e : Ending) (es : List Event) (s : State) (l more : List Reply) (go : List ℕ → List Reply → CallsEnd) →
    ((m : List ℕ) (k : List Reply) → ((go m k).outcome ≡ Ended Asks → ⊥) → go m (k ++ more) ≡ left_over (go m k) ((go m k).left ++ more)) →
    ((on_end e es s l go).outcome ≡ Ended Asks → ⊥) → on_end e es s (l ++ more) go ≡ left_over (on_end e es s l go) ((on_end e es s l go).left ++ more)
more_end (Stopped (Returned w)) es s l more go h quiet = ap (λ x. with_calls (w ∷ []) es x) (h s.memory l quiet)
more_end e es s l more go h quiet = refl

not_asking : (e : Ending) (es : List Event) (s : State) (l : List Reply) (go : List ℕ → List Reply → CallsEnd) → ((on_end e es s l go).outcome ≡ Ended Asks → ⊥) → e ≡ Asks → ⊥
not_asking e es s l go quiet a = let P : Ending → Type 0 = λ x. (on_end x es s l go).outcome ≡ Ended Asks → ⊥ in subst P a quiet refl

-- more replies stay over
pub calls_more : (f : State → Step) (n : ℕ) (calls : List (List ℕ)) (memory : List ℕ) (rs more : List Reply) → ((calls_run f n calls memory rs).outcome ≡ Ended Asks → ⊥) →
    calls_run f n calls memory (rs ++ more) ≡ left_over (calls_run f n calls memory rs) ((calls_run f n calls memory rs).left ++ more)
unfolding calls_run
calls_more f n [] memory rs more quiet = refl
calls_more f n (args ∷ calls) memory rs more quiet =
    let r : End = runs f n (started memory args) rs in
    ap (λ (x : End). on_end x.ending x.events x.state x.left (λ m l. calls_run f n calls m l)) (runs_more f n (started memory args) rs more (not_asking r.ending r.events r.state r.left (λ m l. calls_run f n calls m l) quiet))
    ∙ more_end r.ending r.events r.state r.left more (λ m l. calls_run f n calls m l) (λ m l. calls_more f n calls m l more) quiet

IsAllReturned : CallsOutcome → Type 0
IsAllReturned AllReturned = Unit {0}
IsAllReturned (Ended e) = ⊥

pub returned_not_ended : (e : Ending) → AllReturned ≡ Ended e → ⊥
unfolding IsAllReturned
returned_not_ended e p = subst IsAllReturned p tt

-- these calls over these replies, and behind those over those
pub calls_joined : (f : State → Step) (n : ℕ) (xs ys : List (List ℕ)) (memory behind : List ℕ) (rs qs : List Reply) (words : List ℕ) (es : List Event) →
    calls_run f n xs memory rs ≡ record { outcome = AllReturned; words = words; events = es; memory = behind; left = [] } →
    calls_run f n (xs ++ ys) memory (rs ++ qs) ≡ with_calls words es (calls_run f n ys behind qs)
calls_joined f n xs ys memory behind rs qs words es e =
    let here : (calls_run f n xs memory rs).outcome ≡ AllReturned = ap (λ (x : CallsEnd). x.outcome) e in
    let b : calls_run f n xs memory (rs ++ qs) ≡ record { outcome = AllReturned; words = words; events = es; memory = behind; left = qs } =
    calls_more f n xs memory rs qs (λ a. returned_not_ended Asks (sym here ∙ a)) ∙ ap (λ (x : CallsEnd). left_over x (x.left ++ qs)) e in
    calls_sum f n xs ys memory (rs ++ qs) ∙ ap (λ (x : CallsEnd). calls_then x.outcome x.words x.events x.memory x.left (λ m l. calls_run f n ys m l)) b
