-- What several calls of a module over one memory have done, inside and outside.
use Rattle.std.specs.Prelude.{◌≡◌, ℕ, true, false, ◌⊎◌, List, [], ◌∷◌, ◌++◌, Option}
use Rattle.qv_outside.specs.Told.{Appends, AppendsPrefix}
use Rattle.qv_outside.specs.Event.{Event, Reply, is_host, host_events, text_of, output, Answered}
use Rattle.vm_core.specs.Machine.{State, Step, Going, Stopped, Asks}
use Rattle.vm_core.specs.Calls.{CallsOutcome, AllReturned, Ended, calls_run}
use Rattle.vm_core.specs.Ran.{Outside}
use Rattle.vm_core.specs.declared.stop.Stop.{Stop}
use Rattle.vm_core.specs.declared.stop.Stop.TheVariants.{Returned, Budget, HostFault, OutFault}

-- how the calls ended: as the definition does, with the words that were returned, or by a fault of the host or of the
-- sink
pub data CallsClose : Type 0 where
  AsCalled : CallsOutcome → List ℕ → CallsClose
  ByHost : CallsClose
  ByOut : CallsClose

-- the calls are those of the definition
pub record CalledAsDefined (f : State → Step) (n : ℕ) (calls : List (List ℕ)) (before : List ℕ) (old new : Outside) (events : List Event) (replies : List Reply) (outcome : CallsOutcome) (words : List ℕ) : Type 0 where
  pub memory : List ℕ
  pub come : calls_run f n calls before replies ≡ record { outcome = outcome; words = words; events = events; memory = memory; left = [] }
  pub asked : Appends old.asked new.asked (host_events events)
  pub written : Appends old.written new.written (output events)

-- the host failed at the last event of the definition's calls, which ask there
pub record HostFailedCalls (f : State → Step) (n : ℕ) (calls : List (List ℕ)) (before : List ℕ) (old new : Outside) (events : List Event) (replies : List Reply) : Type 0 where
  pub last : Event
  pub words : List ℕ
  pub memory : List ℕ
  pub come : calls_run f n calls before replies ≡ record { outcome = Ended Asks; words = words; events = events ++ last ∷ []; memory = memory; left = [] }
  pub host : is_host last ≡ true
  pub asked : Appends old.asked new.asked (host_events events) ⊎ Appends old.asked new.asked (host_events (events ++ last ∷ []))
  pub written : Appends old.written new.written (output events)

-- the sink failed at one of the definition's events
pub record OutFailedCalls (f : State → Step) (n : ℕ) (calls : List (List ℕ)) (before : List ℕ) (old new : Outside) (events : List Event) (replies : List Reply) : Type 0 where
  pub last : Event
  pub rest : List Event
  pub come : (calls_run f n calls before replies).events ≡ events ++ last ∷ rest
  pub console : is_host last ≡ false
  pub asked : Appends old.asked new.asked (host_events events)
  pub written : (middle : Option (List ℕ)) × (Appends old.written middle (output events)) × (AppendsPrefix middle new.written (text_of last))

abbrev pub CallsEnds : (State → Step) → ℕ → List (List ℕ) → List ℕ → Outside → Outside → List Event → List Reply → CallsClose → Type 0
CallsEnds f n calls before old new events replies (AsCalled outcome words) = CalledAsDefined f n calls before old new events replies outcome words
CallsEnds f n calls before old new events replies ByHost = HostFailedCalls f n calls before old new events replies
CallsEnds f n calls before old new events replies ByOut = OutFailedCalls f n calls before old new events replies

-- the calls in order, each of at most n steps, over the replies that the host gave
pub record CallsRan (f : State → Step) (n : ℕ) (calls : List (List ℕ)) (before : List ℕ) (old new : Outside) (close : CallsClose) : Type 0 where
  pub events : List Event
  pub replies : List Reply
  pub answered : Answered (host_events events) replies
  pub replied : Appends old.replied new.replied replies
  pub ends : CallsEnds f n calls before old new events replies close

-- the word that the last call returned
abbrev pub last_word : List ℕ → ℕ
last_word [] = 0
last_word (w ∷ []) = w
last_word (w ∷ v ∷ ws) = last_word (v ∷ ws)

-- the stop of the last call that was made
abbrev pub last_stop : CallsOutcome → List ℕ → Stop
last_stop AllReturned words = Returned (last_word words)
last_stop (Ended Going) words = Budget
last_stop (Ended (Stopped stop)) words = stop
last_stop (Ended Asks) words = HostFault

abbrev pub close_stop : CallsClose → Stop
close_stop (AsCalled outcome words) = last_stop outcome words
close_stop ByHost = HostFault
close_stop ByOut = OutFault

-- the calls ran so, and this is the stop of the last one that was made
pub record CallsRanTo (f : State → Step) (n : ℕ) (calls : List (List ℕ)) (before : List ℕ) (old new : Outside) (stop : Stop) : Type 0 where
  pub close : CallsClose
  pub stop_is : close_stop close ≡ stop
  pub ran : CallsRan f n calls before old new close
