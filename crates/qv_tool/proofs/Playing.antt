-- What a program says of the calls of an image that follows it.
use Rattle.std.proofs.Common.{◌≡◌, ◌<◌, ◌≤◌, ℕ, ◌+◌, ◌-◌, ◌*◌, List, [], ◌∷◌, length, refl, sym, ap, ◌∙◌, subst, inl, inr, ⊎_elim, arith}
use Rattle.std.specs.Prelude.{◌⊎◌, All}
use Rattle.std.proofs.lemmas.Bool.{cases_lt}
use Rattle.std.proofs.lemmas.List.Elements.{All-cons, All-nil}
use Rattle.qv_image.specs.Image.{Qvm}
use Rattle.qv_outside.specs.Event.{Answered, Event, IsReply, Reply, host_events}
use Rattle.qv_outside.specs.Hosts.{Table}
use Rattle.vm_core.specs.declared.stop.Stop.{Stop}
use Rattle.vm_core.specs.declared.stop.Stop.TheVariants.{Returned, Budget}
use Rattle.vm_core.specs.Machine.{State, Step, Ending, Going, Stopped, Asks, End, fresh_memory, runs, started, step}
use Rattle.vm_core.specs.Calls.{CallsEnd, CallsOutcome, AllReturned, Ended, calls_run, image_run, on_end, with_calls}
use Rattle.vm_core.specs.CallsRan.{AsCalled, ByHost, ByOut, CallsClose, CallsEnds, close_stop, last_stop, last_word}
use Rattle.vm_core.specs.Ran.{Outside}
use Rattle.vm_core.proofs.CallLaws.{nothing_left, one_more}
use Rattle.vm_core.proofs.Runs.{runs_stays}
use Rattle.qcc_front.specs.Follows.{IsCall, Reaches}
use Rattle.qcc_front.specs.Source.{SourceEnd, SourceRun, Done}
use Rattle.qv_words.specs.Calls.{AreCalls}
use Rattle.qv_tool.specs.Built.{Agrees, IsBuilt}
use Rattle.qv_tool.specs.Ending.{stop_status}
use Rattle.qv_tool.specs.Played.{Played}
use Rattle.qv_tool.specs.Status.{End as AtEnd, kind_of}
use Rattle.qv_tool.specs.World.{Surroundings}

-- calls that have ended stay so under a larger bound
end_stays : (e : Ending) (es : List Event) (s : State) (l : List Reply) (go to : List ℕ → List Reply → CallsEnd) → ((on_end e es s l go).outcome ≡ Ended Going → ⊥) → ((m : List ℕ) (k : List Reply) → ((go m k).outcome ≡ Ended Going → ⊥) → to m k ≡ go m k) → on_end e es s l to ≡ on_end e es s l go
end_stays (Stopped (Returned w)) es s l go to ended h = ap (λ x. with_calls (w ∷ []) es x) (h s.memory l ended)
end_stays e es s l go to ended h = refl

not_going : (e : Ending) (es : List Event) (s : State) (l : List Reply) (go : List ℕ → List Reply → CallsEnd) → ((on_end e es s l go).outcome ≡ Ended Going → ⊥) → e ≡ Going → ⊥
not_going Going es s l go ended g = ended refl
not_going (Stopped stop) es s l go ended g = cc
not_going Asks es s l go ended g = cc

ended_stay : (f : State → Step) (n k : ℕ) (calls : List (List ℕ)) (memory : List ℕ) (rs : List Reply) → ((calls_run f n calls memory rs).outcome ≡ Ended Going → ⊥) → calls_run f (n + k) calls memory rs ≡ calls_run f n calls memory rs
ended_stay f n k [] memory rs ended = nothing_left f (n + k) memory rs ∙ sym (nothing_left f n memory rs)
ended_stay f n k (args ∷ calls) memory rs ended =
    let r : End = runs f n (started memory args) rs in
    let here : (on_end r.ending r.events r.state r.left (λ m l. calls_run f n calls m l)).outcome ≡ Ended Going → ⊥ = λ e. ended (ap (λ (x : CallsEnd). x.outcome) (one_more f n args calls memory rs) ∙ e) in
    one_more f (n + k) args calls memory rs
    ∙ ap (λ (x : End). on_end x.ending x.events x.state x.left (λ m l. calls_run f (n + k) calls m l)) (runs_stays f n k (started memory args) rs r refl (not_going r.ending r.events r.state r.left (λ m l. calls_run f n calls m l) here))
    ∙ end_stays r.ending r.events r.state r.left (λ m l. calls_run f n calls m l) (λ m l. calls_run f (n + k) calls m l) here (λ m l c. ended_stay f n k calls m l c)
    ∙ sym (one_more f n args calls memory rs)

settled : (f : State → Step) (n m : ℕ) (calls : List (List ℕ)) (memory : List ℕ) (rs : List Reply) → n ≤ m → ((calls_run f n calls memory rs).outcome ≡ Ended Going → ⊥) → calls_run f m calls memory rs ≡ calls_run f n calls memory rs
settled f n m calls memory rs le ended = let more : m ≡ n + (m - n) = omega (arith, le) in ap (λ k. calls_run f k calls memory rs) more ∙ ended_stay f n (m - n) calls memory rs ended

-- replies that answer are replies
are_replies : (es : List Event) (rs : List Reply) → Answered es rs → All IsReply rs
are_replies [] [] answered = All-nil IsReply
are_replies [] (r ∷ rs) answered = absurd answered
are_replies (e ∷ es) [] answered = absurd answered
are_replies (e ∷ es) (r ∷ rs) answered = All-cons IsReply r rs answered.0.is_reply (are_replies es rs answered.1)

returned_not_going : (outcome : CallsOutcome) → outcome ≡ AllReturned → outcome ≡ Ended Going → ⊥
returned_not_going outcome a g = let e : AllReturned ≡ Ended Going = sym a ∙ g in cc

-- calls that all returned these words
told : (outcome : CallsOutcome) (ws words : List ℕ) (stop : Stop) → last_stop outcome ws ≡ stop → outcome ≡ AllReturned → ws ≡ words → stop ≡ Returned (last_word words)
told outcome ws words stop is all same = sym is ∙ ap (λ o. last_stop o ws) all ∙ ap (λ x. Returned (last_word x)) same

module _ (run : SourceRun) (z : Qvm) (built : IsBuilt run z) (calls : List (List ℕ)) (are : AreCalls calls) (steps : ℕ) (before : Surroundings) where
  abbrev table : Table
  table = before.table

  abbrev f : State → Step
  f = step z.code table

  are_calls : All IsCall calls
  are_calls = λ k d lt. let each = are.each k d lt in record { count = each.0; words = each.1 }

  module _ (replies : List Reply) (good : All IsReply replies) (n : ℕ) (words : List ℕ) (events : List Event) (done : run table calls replies n ≡ Done words events) where
    abbrev most : ℕ
    most = length z.code * (n + 1)

    abbrev far : CallsEnd
    far = image_run z table calls replies most

    reached : Reaches (Done words events) far
    reached = let R : SourceEnd → Type 0 = λ e. Reaches e far in subst R done (built.follows.reaches table calls replies n are_calls are.some good)

    abbrev Says : Stop → Type 0
    Says stop = (stop ≡ Returned (last_word words)) ⊎ ((stop ≡ Budget) × (steps < most))

    same_end : (outcome : CallsOutcome) (ws : List ℕ) (es : List Event) (memory : List ℕ) (stop : Stop) → calls_run f steps calls (fresh_memory z) replies ≡ record { outcome = outcome; words = ws; events = es; memory = memory; left = [] } → last_stop outcome ws ≡ stop →
        far ≡ calls_run f steps calls (fresh_memory z) replies → Says stop
    same_end outcome ws es memory stop come is same =
        let e = same ∙ come in
        inl (told outcome ws words stop is (sym (ap (λ (x : CallsEnd). x.outcome) e) ∙ reached.0.outcome_is) (sym (ap (λ (x : CallsEnd). x.words) e) ∙ reached.1))

    earlier : (outcome : CallsOutcome) (ws : List ℕ) (es : List Event) (memory : List ℕ) (stop : Stop) → calls_run f steps calls (fresh_memory z) replies ≡ record { outcome = outcome; words = ws; events = es; memory = memory; left = [] } → last_stop outcome ws ≡ stop → steps < most → Says stop
    earlier (Ended Going) ws es memory stop come is lt = inr (sym is, lt)
    earlier AllReturned ws es memory stop come is lt = same_end AllReturned ws es memory stop come is (settled f steps most calls (fresh_memory z) replies (omega (arith, lt)) (λ g. let e : AllReturned ≡ Ended Going = sym (ap (λ (x : CallsEnd). x.outcome) come) ∙ g in cc))
    earlier (Ended ending) ws es memory stop come is lt = same_end (Ended ending) ws es memory stop come is (settled f steps most calls (fresh_memory z) replies (omega (arith, lt)) (λ g. let e : Ended ending ≡ Ended Going = sym (ap (λ (x : CallsEnd). x.outcome) come) ∙ g in cc))

    by_outcome : (outcome : CallsOutcome) (ws : List ℕ) (es : List Event) (memory : List ℕ) (stop : Stop) → calls_run f steps calls (fresh_memory z) replies ≡ record { outcome = outcome; words = ws; events = es; memory = memory; left = [] } → last_stop outcome ws ≡ stop → Says stop
    by_outcome outcome ws es memory stop come is =
        ⊎_elim (λ lt. earlier outcome ws es memory stop come is lt)
        (λ le. same_end outcome ws es memory stop come is (sym (settled f most steps calls (fresh_memory z) replies le (returned_not_going far.outcome reached.0.outcome_is)))) (cases_lt steps most)

    by_close : (close : CallsClose) (stop : Stop) (es : List Event) (old new : Outside) → CallsEnds f steps calls (fresh_memory z) old new es replies close → close_stop close ≡ stop → kind_of (stop_status stop) ≡ AtEnd → Says stop
    by_close (AsCalled outcome ws) stop es old new ends is end = by_outcome outcome ws es ends.memory stop ends.come is
    by_close ByHost stop es old new ends is end = let K : Stop → Type 0 = λ s. kind_of (stop_status s) ≡ AtEnd in absurd (let e = subst K (sym is) end in cc)
    by_close ByOut stop es old new ends is end = let K : Stop → Type 0 = λ s. kind_of (stop_status s) ≡ AtEnd in absurd (let e = subst K (sym is) end in cc)

  pub agrees : (after : Surroundings) (stop : Stop) (played : Played z steps calls before after stop) → Agrees run before.table calls played.ran.ran.replies z steps stop
  agrees after stop played = λ n words events done end.
      by_close played.ran.ran.replies (are_replies (host_events played.ran.ran.events) played.ran.ran.replies played.ran.ran.answered) n words events done played.ran.close stop played.ran.ran.events before.seen after.seen played.ran.ran.ends played.ran.stop_is end
