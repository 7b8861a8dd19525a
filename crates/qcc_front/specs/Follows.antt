-- An image follows a program: it makes the same trap calls in the same order and returns the same
-- words, and does nothing else.
use Rattle.std.specs.Prelude.{◌≡◌, ℕ, ◌+◌, ◌*◌, ◌<◌, ◌^◌, List, ◌++◌, length, All}
use Rattle.qv_outside.specs.Event.{Event, Reply, IsReply}
use Rattle.qv_outside.specs.Hosts.{Table}
use Rattle.qv_image.specs.Image.{Qvm}
use Rattle.vm_core.specs.Machine.{Going, Stopped, Asks as AsksFor}
use Rattle.vm_core.specs.Calls.{CallsEnd, CallsOutcome, AllReturned, Ended, image_run}
use Rattle.vm_core.specs.declared.stop.Stop.TheVariants.{ModuleError as ErrorStop}
use Rattle.qcc_front.specs.Source.{SourceEnd, SourceRun, Done, ModuleError, Asks, Going as GoesOn, TooDeep, Undefined}

-- the words of one call of vmMain
pub record IsCall (args : List ℕ) : Type 0 where
  pub count : length args ≡ 14
  pub words : All (λ w. w < 2 ^ 32) args

abbrev pub IsPrefix : List Event → List Event → Type 0
IsPrefix front whole = (rest : List Event) × (front ++ rest ≡ whole)

-- the machine has made all calls, or has ended so, with these words and events
pub record EndsWith (machine : CallsEnd) (outcome : CallsOutcome) (events : List Event) : Type 0 where
  pub outcome_is : machine.outcome ≡ outcome
  pub events_are : machine.events ≡ events

-- with steps enough for the program's turns, the machine ends as it does, or has come as far
abbrev pub Reaches : SourceEnd → CallsEnd → Type 0
Reaches (Done words events) machine = EndsWith machine AllReturned events × (machine.words ≡ words)
Reaches (ModuleError events) machine = EndsWith machine (Ended (Stopped ErrorStop)) events
Reaches (Asks events) machine = EndsWith machine (Ended AsksFor) events
Reaches (GoesOn events) machine = IsPrefix events machine.events
Reaches (TooDeep events) machine = Unit {0}
Reaches (Undefined rule events) machine = Unit {0}

-- the events that a run of the program has made
abbrev pub events_of : SourceEnd → List Event
events_of (Done words events) = events
events_of (ModuleError events) = events
events_of (Asks events) = events
events_of (GoesOn events) = events
events_of (TooDeep events) = events
events_of (Undefined rule events) = events

-- the machine goes on within the program's events, or has ended as the program has
abbrev pub EndsAs : CallsOutcome → List ℕ → List Event → SourceEnd → Type 0
EndsAs AllReturned words events source = source ≡ Done words events
EndsAs (Ended Going) words events source = IsPrefix events (events_of source)
EndsAs (Ended AsksFor) words events source = source ≡ Asks events
EndsAs (Ended (Stopped stop)) words events source = (stop ≡ ErrorStop) × (source ≡ ModuleError events)

-- what the machine may have come to, by what the program does
abbrev pub Within : SourceEnd → CallsEnd → Type 0
Within (TooDeep events) machine = Unit {0}
Within (Undefined rule events) machine = Unit {0}
Within source machine = EndsAs machine.outcome machine.words machine.events source

-- For every table of traps, list of calls and list of replies: what the program does in n turns the
-- machine does in I (n + 1) steps a call, where I is the count of its instructions; and what the machine
-- does in m steps a call the program does in k m + 1 turns, where k is the count of calls. A program
-- that goes too deep or meets an undefined case promises nothing.
pub record Follows (source : SourceRun) (z : Qvm) : Type 0 where
  pub reaches : (table : Table) (calls : List (List ℕ)) (replies : List Reply) (n : ℕ) → All IsCall calls → 0 < length calls → All IsReply replies →
      Reaches (source table calls replies n) (image_run z table calls replies (length z.code * (n + 1)))
  pub within : (table : Table) (calls : List (List ℕ)) (replies : List Reply) (m : ℕ) → All IsCall calls → 0 < length calls → All IsReply replies →
      Within (source table calls replies (length calls * m + 1)) (image_run z table calls replies m)
