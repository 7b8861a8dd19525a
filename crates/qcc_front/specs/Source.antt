-- How a run of a C program ends.
use Rattle.std.specs.Prelude.{ℕ, List}
use Rattle.qv_outside.specs.Event.{Event, Reply}
use Rattle.qv_outside.specs.Hosts.{Table}

-- vmMain is called several times over the same static objects, in a number of turns. A turn is a call of a
-- function, a selection of a switch, a goto, or a loop that looks again; it is no step of the machine. Each
-- end has the events made so far
pub data SourceEnd : Type 0 where
  -- each call has returned; the words that they returned, in order
  Done : List ℕ → List Event → SourceEnd
  -- the module has called the error trap
  ModuleError : List Event → SourceEnd
  -- a trap of the host, the last event, finds no reply left
  Asks : List Event → SourceEnd
  -- the turns are used up, and another would be counted
  Going : List Event → SourceEnd
  -- a call would pass the depth that is served
  TooDeep : List Event → SourceEnd
  -- the undefined case of this number
  Undefined : ℕ → List Event → SourceEnd

-- what a program does: by the host's traps, the words of each call, the host's replies and the turns
abbrev pub SourceRun : Type 0
SourceRun = Table → List (List ℕ) → List Reply → ℕ → SourceEnd
