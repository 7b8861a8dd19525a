-- What a run has done, inside and outside.
use Rattle.std.specs.Prelude.{◌≡◌, ℕ, ◌≤◌, true, false, ◌⊎◌, List, [], ◌∷◌, ◌++◌, Option, Some, None}
use Rattle.qv_outside.specs.Told.{Appends, AppendsPrefix}
use Rattle.qv_outside.specs.Event.{Event, Reply, is_host, host_events, text_of, output, Suits, Answered}
use Rattle.vm_core.specs.Machine.{State, Step, Goes, Stops, Puts, Raises, Calls, Ending, Going, Stopped, Asks, End, runs}
use Rattle.vm_core.specs.declared.stop.Stop.{Stop}
use Rattle.vm_core.specs.declared.stop.Stop.TheVariants.{Budget, HostFault, OutFault, ModuleError}

-- what the host and the sink tell
pub record Outside : Type 0 where
  pub asked : Option (List Event)
  pub replied : Option (List Reply)
  pub written : Option (List ℕ)

abbrev pub outside : Option (List Event) → Option (List Reply) → Option (List ℕ) → Outside
outside asked replied written = record { asked = asked; replied = replied; written = written }

-- the run is that of the definition
pub record RanAsDefined (f : State → Step) (n : ℕ) (before after : State) (old new : Outside) (events : List Event) (replies : List Reply) (ending : Ending) : Type 0 where
  pub come : runs f n before replies ≡ record { ending = ending; events = events; state = after; left = [] }
  pub asked : Appends old.asked new.asked (host_events events)
  pub written : Appends old.written new.written (output events)

-- the host failed at the last event: the definition asks
pub record HostFailed (f : State → Step) (n : ℕ) (before after : State) (old new : Outside) (events : List Event) (replies : List Reply) : Type 0 where
  pub last : Event
  pub come : runs f n before replies ≡ record { ending = Asks; events = events ++ last ∷ []; state = after; left = [] }
  pub host : is_host last ≡ true
  pub asked : Appends old.asked new.asked (host_events events) ⊎ Appends old.asked new.asked (host_events (events ++ last ∷ []))
  pub written : Appends old.written new.written (output events)

-- the sink failed at the last event of the definition's first steps
pub record OutFailed (f : State → Step) (n : ℕ) (before : State) (old new : Outside) (events : List Event) (replies : List Reply) : Type 0 where
  pub steps : ℕ
  pub end : End
  pub last : Event
  pub within : steps ≤ n
  pub come : runs f steps before replies ≡ end
  pub done : end.events ≡ events ++ last ∷ []
  pub used : end.left ≡ []
  pub console : is_host last ≡ false
  pub asked : Appends old.asked new.asked (host_events events)
  pub written : (middle : Option (List ℕ)) × (Appends old.written middle (output events)) × (AppendsPrefix middle new.written (text_of last))

-- how a call ends: as the definition does, or by a fault of the host or of the sink
pub data Outcome : Type 0 where
  AsDefined : Ending → Outcome
  ByHost : Outcome
  ByOut : Outcome

abbrev pub outcome_of : Stop → Outcome
outcome_of Budget = AsDefined Going
outcome_of HostFault = ByHost
outcome_of OutFault = ByOut
outcome_of stop = AsDefined (Stopped stop)

abbrev pub Ends : (State → Step) → ℕ → State → State → Outside → Outside → List Event → List Reply → Outcome → Type 0
Ends f n before after old new events replies (AsDefined ending) = RanAsDefined f n before after old new events replies ending
Ends f n before after old new events replies ByHost = HostFailed f n before after old new events replies
Ends f n before after old new events replies ByOut = OutFailed f n before old new events replies

-- n steps at most, over the replies that the host gave
pub record Ran (f : State → Step) (n : ℕ) (before after : State) (old new : Outside) (outcome : Outcome) : Type 0 where
  pub events : List Event
  pub replies : List Reply
  pub answered : Answered (host_events events) replies
  pub replied : Appends old.replied new.replied replies
  pub ends : Ends f n before after old new events replies outcome

-- a stop that the definition gives
abbrev pub Halts : Step → State → Option Stop → Type 0
Halts t new None = t ≡ Goes new
Halts t new (Some Budget) = ⊥
Halts t new (Some HostFault) = ⊥
Halts t new (Some OutFault) = ⊥
Halts t new (Some stop) = t ≡ Stops stop new

-- what one step did that could put
pub record PutDone (t : Step) (now : State) (old new : Option (List ℕ)) : Type 0 where
  pub event : Event
  pub step : t ≡ Puts event now
  pub console : is_host event ≡ false
  pub written : Appends old new (text_of event)

pub record RaiseDone (t : Step) (now : State) (old new : Option (List ℕ)) : Type 0 where
  pub event : Event
  pub step : t ≡ Raises event now
  pub console : is_host event ≡ false
  pub written : Appends old new (text_of event)

pub record PutFailed (t : Step) (old new : Option (List ℕ)) : Type 0 where
  pub event : Event
  pub state : State
  pub step : t ≡ Puts event state
  pub console : is_host event ≡ false
  pub written : AppendsPrefix old new (text_of event)

pub record RaiseFailed (t : Step) (old new : Option (List ℕ)) : Type 0 where
  pub event : Event
  pub state : State
  pub step : t ≡ Raises event state
  pub console : is_host event ≡ false
  pub written : AppendsPrefix old new (text_of event)

abbrev pub DidPut : Step → State → Option (List ℕ) → Option (List ℕ) → Option Stop → Type 0
DidPut t now old new None = PutDone t now old new
DidPut t now old new (Some OutFault) = PutFailed t old new
DidPut t now old new (Some stop) = Halts t now (Some stop) × (new ≡ old)

abbrev pub DidRaise : Step → State → Option (List ℕ) → Option (List ℕ) → Option Stop → Type 0
DidRaise t now old new None = ⊥
DidRaise t now old new (Some ModuleError) = RaiseDone t now old new
DidRaise t now old new (Some OutFault) = RaiseFailed t old new
DidRaise t now old new (Some stop) = Halts t now (Some stop) × (new ≡ old)

-- what one step did that could ask
pub record CallDone (t : Step) (now : State) (a a2 : Option (List Event)) (r r2 : Option (List Reply)) : Type 0 where
  pub event : Event
  pub state : State
  pub answered : Reply → State
  pub reply : Reply
  pub step : t ≡ Calls event state answered
  pub here : now ≡ answered reply
  pub host : is_host event ≡ true
  pub suits : Suits event reply
  pub asked : Appends a a2 (event ∷ [])
  pub replied : Appends r r2 (reply ∷ [])

pub record CallFailed (t : Step) (now : State) (a a2 : Option (List Event)) (r r2 : Option (List Reply)) : Type 0 where
  pub event : Event
  pub answered : Reply → State
  pub step : t ≡ Calls event now answered
  pub host : is_host event ≡ true
  pub asked : (a2 ≡ a) ⊎ Appends a a2 (event ∷ [])
  pub replied : r2 ≡ r

abbrev pub DidCall : Step → State → Option (List Event) → Option (List Event) → Option (List Reply) → Option (List Reply) → Option Stop → Type 0
DidCall t now asked asked_now replied replied_now None = CallDone t now asked asked_now replied replied_now
DidCall t now asked asked_now replied replied_now (Some HostFault) = CallFailed t now asked asked_now replied replied_now
DidCall t now asked asked_now replied replied_now (Some stop) = Halts t now (Some stop) × (asked_now ≡ asked) × (replied_now ≡ replied)

-- how one step ends
abbrev pub step_outcome : Option Stop → Outcome
step_outcome None = AsDefined Going
step_outcome (Some stop) = outcome_of stop

-- what one step did
abbrev pub Did : Step → State → Outside → Outside → Option Stop → Type 0
Did t now old new result = ((Halts t now result) × (new ≡ old))
    ⊎ (((DidPut t now old.written new.written result) × (new.asked ≡ old.asked) × (new.replied ≡ old.replied))
    ⊎ (((DidRaise t now old.written new.written result) × (new.asked ≡ old.asked) × (new.replied ≡ old.replied))
    ⊎ ((DidCall t now old.asked new.asked old.replied new.replied result) × (new.written ≡ old.written))))
