-- Laws of calls one after another with the outside.
use Rattle.std.proofs.Common.{◌≡◌, ℕ, ◌<◌, ◌+◌, List, [], ◌∷◌, ◌++◌, length, take, drop, get_or, suc, refl, sym, ap, ◌∙◌, subst}
use Rattle.std.proofs.Math.Seq.{split_at}
use Rattle.std.proofs.lemmas.List.{append_assoc, append-nil, take_more}
use Rattle.std.proofs.lemmas.List.Elements.{filter-append}
use Rattle.qv_outside.specs.Told.{Appends}
use Rattle.qv_outside.specs.Event.{Event, Reply, Answered, is_host, host_events, output}
use Rattle.vm_core.specs.declared.stop.Stop.{Stop}
use Rattle.vm_core.specs.declared.stop.Stop.TheVariants.{Returned, Budget, HostFault, OutFault}
use Rattle.vm_core.specs.Machine.{State, Step, Ending, Going, Stopped, Asks, End, runs, started}
use Rattle.vm_core.specs.Calls.{CallsEnd, AllReturned, Ended, with_calls, on_end, calls_run}
use Rattle.vm_core.specs.Ran.{Outside, Ran, RanAsDefined, HostFailed, OutFailed, outcome_of}
use Rattle.vm_core.specs.CallsRan.{CallsRan, CallsRanTo, AsCalled, ByHost, ByOut, last_word}
use Rattle.vm_core.proofs.Appending.{appends_nil, appends_joined}
use Rattle.vm_core.proofs.CallLaws.{calls_joined, nothing_left, one_more}
use Rattle.vm_core.proofs.RanLaws.{answered_joined, appends_filter, appends_output, asked_joined}
use Rattle.vm_core.proofs.Runs.{events_grow}

last_of_more : (words : List ℕ) (w : ℕ) → last_word (words ++ w ∷ []) ≡ w
last_of_more [] w = refl
last_of_more (v ∷ []) w = refl
last_of_more (v ∷ u ∷ words) w = last_of_more (u ∷ words) w

-- any end but a return ends the calls
ends_there : (e : Ending) (es : List Event) (s : State) (l : List Reply) (go : List ℕ → List Reply → CallsEnd) → ((w : ℕ) → e ≡ Stopped (Returned w) → ⊥) →
    on_end e es s l go ≡ record { outcome = Ended e; words = []; events = es; memory = s.memory; left = l }
ends_there (Stopped (Returned w)) es s l go other = absurd (other w refl)
ends_there e es s l go other = refl

-- the events of a call come first
on_end_grows : (e : Ending) (es : List Event) (s : State) (l : List Reply) (go : List ℕ → List Reply → CallsEnd) → (rest : List Event) × ((on_end e es s l go).events ≡ es ++ rest)
on_end_grows (Stopped (Returned w)) es s l go = ((go s.memory l).events, refl)
on_end_grows e es s l go = ([], sym (append-nil es))

regrouped : (es vs rest more : List Event) (last : Event) → es ++ ((vs ++ last ∷ [] ++ rest) ++ more) ≡ es ++ vs ++ last ∷ (rest ++ more)
regrouped es vs rest more last = simp append_assoc

module _ (f : State → Step) (n : ℕ) where
  -- these calls have all returned, the last of them this word, and left this memory
  pub record Returning (calls : List (List ℕ)) (before behind : List ℕ) (old new : Outside) (last : ℕ) : Type 0 where
    pub words : List ℕ
    pub last_is : last_word words ≡ last
    pub events : List Event
    pub replies : List Reply
    pub come : calls_run f n calls before replies ≡ record { outcome = AllReturned; words = words; events = events; memory = behind; left = [] }
    pub answered : Answered (host_events events) replies
    pub replied : Appends old.replied new.replied replies
    pub asked : Appends old.asked new.asked (host_events events)
    pub written : Appends old.written new.written (output events)

  pub none_returning : (memory : List ℕ) (o : Outside) → Returning [] memory memory o o 0
  none_returning memory o = record {
    words = [];
    last_is = refl;
    events = [];
    replies = [];
    come = nothing_left f n memory [];
    answered = tt;
    replied = appends_nil o.replied o.replied refl;
    asked = appends_nil o.asked o.asked refl;
    written = appends_nil o.written o.written refl;
  }

  pub all_returned : (calls : List (List ℕ)) (before behind : List ℕ) (old new : Outside) (last : ℕ) → Returning calls before behind old new last → CallsRanTo f n calls before old new (Returned last)
  all_returned calls before behind old new last p = record {
    close = AsCalled AllReturned p.words;
    stop_is = ap Returned p.last_is;
    ran = record {
      events = p.events;
      replies = p.replies;
      answered = p.answered;
      replied = p.replied;
      ends = record { memory = behind; come = p.come; asked = p.asked; written = p.written };
    };
  }

  -- one call more, which these calls left this memory to
  module _ (calls : List (List ℕ)) (args before behind : List ℕ) (last : ℕ) (a b c : Outside) (p : Returning calls before behind a b last) where
    both_answered : (vs : List Event) (qs : List Reply) → Answered (host_events vs) qs → Answered (host_events (p.events ++ vs)) (p.replies ++ qs)
    both_answered vs qs q =
        let P : List Event → Type 0 = λ es. Answered es (p.replies ++ qs) in
        subst P (sym (filter-append is_host p.events vs)) (answered_joined (host_events p.events) (host_events vs) p.replies qs p.answered q)

    -- how it goes from the memory that they left
    one_run : (more : List (List ℕ)) (ending : Ending) (vs : List Event) (after : State) (qs left : List Reply) → runs f n (started behind args) qs ≡ record { ending = ending; events = vs; state = after; left = left } →
        calls_run f n (args ∷ more) behind qs ≡ on_end ending vs after left (λ m l. calls_run f n more m l)
    one_run more ending vs after qs left come = one_more f n args more behind qs ∙ ap (λ (x : End). on_end x.ending x.events x.state x.left (λ m l. calls_run f n more m l)) come

    pub goes_on : (w : ℕ) (stop : Stop) (after : State) → stop ≡ Returned w → Ran f n (started behind args) after b c (outcome_of stop) → Returning (calls ++ args ∷ []) before after.memory a c w
    goes_on w stop after is ran =
        let R : Stop → Type 0 = λ s. Ran f n (started behind args) after b c (outcome_of s) in
        let q : Ran f n (started behind args) after b c (outcome_of (Returned w)) = subst R is ran in
        record {
          words = p.words ++ w ∷ [];
          last_is = last_of_more p.words w;
          events = p.events ++ (q.events ++ []);
          replies = p.replies ++ q.replies;
          come = calls_joined f n calls (args ∷ []) before behind p.replies q.replies p.words p.events p.come
              ∙ ap (λ (x : CallsEnd). with_calls p.words p.events x) (one_run [] (Stopped (Returned w)) q.events after q.replies [] q.ends.come ∙ ap (λ (x : CallsEnd). with_calls (w ∷ []) q.events x) (nothing_left f n after.memory []));
          answered = both_answered (q.events ++ []) q.replies (let P : List Event → Type 0 = λ es. Answered (host_events es) q.replies in subst P (sym (append-nil q.events)) q.answered);
          replied = appends_joined a.replied b.replied c.replied p.replies q.replies p.replied q.replied;
          asked = appends_filter a.asked b.asked c.asked p.events (q.events ++ []) p.asked (let P : List Event → Type 0 = λ es. Appends b.asked c.asked (host_events es) in subst P (sym (append-nil q.events)) q.ends.asked);
          written = appends_output a.written b.written c.written p.events (q.events ++ []) p.written (let P : List Event → Type 0 = λ es. Appends b.written c.written (output es) in subst P (sym (append-nil q.events)) q.ends.written);
        }

    -- it ends so, not by returning
    ends_defined : (more : List (List ℕ)) (ending : Ending) (after : State) (vs : List Event) (qs : List Reply) → ((w : ℕ) → ending ≡ Stopped (Returned w) → ⊥) → Answered (host_events vs) qs → Appends b.replied c.replied qs →
        RanAsDefined f n (started behind args) after b c vs qs ending → CallsRan f n (calls ++ args ∷ more) before a c (AsCalled (Ended ending) (p.words ++ []))
    ends_defined more ending after vs qs other answered replied q = record {
      events = p.events ++ vs;
      replies = p.replies ++ qs;
      answered = both_answered vs qs answered;
      replied = appends_joined a.replied b.replied c.replied p.replies qs p.replied replied;
      ends = record {
        memory = after.memory;
        come = calls_joined f n calls (args ∷ more) before behind p.replies qs p.words p.events p.come
            ∙ ap (λ (x : CallsEnd). with_calls p.words p.events x) (one_run more ending vs after qs [] q.come ∙ ends_there ending vs after [] (λ m l. calls_run f n more m l) other);
        asked = appends_filter a.asked b.asked c.asked p.events vs p.asked q.asked;
        written = appends_output a.written b.written c.written p.events vs p.written q.written;
      };
    }

    host_fell : (more : List (List ℕ)) (after : State) (vs : List Event) (qs : List Reply) → Answered (host_events vs) qs → Appends b.replied c.replied qs → HostFailed f n (started behind args) after b c vs qs → CallsRan f n (calls ++ args ∷ more) before a c ByHost
    host_fell more after vs qs answered replied q = record {
      events = p.events ++ vs;
      replies = p.replies ++ qs;
      answered = both_answered vs qs answered;
      replied = appends_joined a.replied b.replied c.replied p.replies qs p.replied replied;
      ends = record {
        last = q.last;
        words = p.words ++ [];
        memory = after.memory;
        come = calls_joined f n calls (args ∷ more) before behind p.replies qs p.words p.events p.come
            ∙ ap (λ (x : CallsEnd). with_calls p.words p.events x) (one_run more Asks (vs ++ q.last ∷ []) after qs [] q.come)
            ∙ ap (λ (x : List Event). record { outcome = Ended Asks; words = p.words ++ []; events = x; memory = after.memory; left = [] }) (sym (append_assoc p.events vs (q.last ∷ [])));
        host = q.host;
        asked = asked_joined a.asked b.asked c.asked p.events vs q.last p.asked q.asked;
        written = appends_output a.written b.written c.written p.events vs p.written q.written;
      };
    }

    out_fell : (more : List (List ℕ)) (vs : List Event) (qs : List Reply) → Answered (host_events vs) qs → Appends b.replied c.replied qs → OutFailed f n (started behind args) b c vs qs → CallsRan f n (calls ++ args ∷ more) before a c ByOut
    out_fell more vs qs answered replied q =
        let x : End = runs f n (started behind args) qs in
        let grown = events_grow f q.steps n (started behind args) qs q.within in
        let go = on_end_grows x.ending x.events x.state x.left (λ m l. calls_run f n more m l) in
        let here : x.events ≡ vs ++ q.last ∷ [] ++ grown.0 = grown.1 ∙ ap (λ es. es ++ grown.0) (ap (λ (e : End). e.events) q.come ∙ q.done) in
        record {
          events = p.events ++ vs;
          replies = p.replies ++ qs;
          answered = both_answered vs qs answered;
          replied = appends_joined a.replied b.replied c.replied p.replies qs p.replied replied;
          ends = record {
            last = q.last;
            rest = grown.0 ++ go.0;
            come = ap (λ (e : CallsEnd). e.events) (calls_joined f n calls (args ∷ more) before behind p.replies qs p.words p.events p.come)
                ∙ ap (λ (e : CallsEnd). p.events ++ e.events) (one_more f n args more behind qs)
                ∙ ap (λ es. p.events ++ es) (go.1 ∙ ap (λ es. es ++ go.0) here)
                ∙ regrouped p.events vs grown.0 go.0 q.last;
            console = q.console;
            asked = appends_filter a.asked b.asked c.asked p.events vs p.asked q.asked;
            written = (q.written.0, appends_output a.written b.written q.written.0 p.events vs p.written q.written.1, q.written.2);
          };
        }

    -- whatever stop it ends by
    pub ends_by : (more : List (List ℕ)) (stop : Stop) (after : State) → ((w : ℕ) → stop ≡ Returned w → ⊥) → Ran f n (started behind args) after b c (outcome_of stop) → CallsRanTo f n (calls ++ args ∷ more) before a c stop
    ends_by more (Returned w) after other q = absurd (other w refl)
    ends_by more Budget after other q = record {
      close = AsCalled (Ended Going) (p.words ++ []);
      stop_is = refl;
      ran = ends_defined more Going after q.events q.replies (λ w e. cc) q.answered q.replied q.ends;
    }
    ends_by more HostFault after other q = record { close = ByHost; stop_is = refl; ran = host_fell more after q.events q.replies q.answered q.replied q.ends }
    ends_by more OutFault after other q = record { close = ByOut; stop_is = refl; ran = out_fell more q.events q.replies q.answered q.replied q.ends }
    ends_by more stop after other q = record {
      close = AsCalled (Ended (Stopped stop)) (p.words ++ []);
      stop_is = refl;
      ran = ends_defined more (Stopped stop) after q.events q.replies (λ w e. other w (let same : stop ≡ Returned w = cc in same)) q.answered q.replied q.ends;
    }

  -- the call with the number i of these
  module _ (calls : List (List ℕ)) (i : ℕ) (none before behind : List ℕ) (last : ℕ) (stop : Stop) (after : State) (a b c : Outside) (lt : i < length calls) (p : Returning (take i calls) before behind a b last)
      (ran : Ran f n (started behind (get_or calls i none)) after b c (outcome_of stop)) where
    pub goes_on_at : (w : ℕ) → stop ≡ Returned w → Returning (take (i + 1) calls) before after.memory a c w
    goes_on_at w is =
        let R : List (List ℕ) → Type 0 = λ xs. Returning xs before after.memory a c w in
        subst R (sym (take_more calls i none lt)) (goes_on (take i calls) (get_or calls i none) before behind last a b c p w stop after is ran)

    pub ends_by_at : ((w : ℕ) → stop ≡ Returned w → ⊥) → CallsRanTo f n calls before a c stop
    ends_by_at other =
        let R : List (List ℕ) → Type 0 = λ xs. CallsRanTo f n xs before a c stop in
        subst R (sym (split_at calls i none lt)) (ends_by (take i calls) (get_or calls i none) before behind last a b c p (drop (suc i) calls) stop after other ran)
