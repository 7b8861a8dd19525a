-- Runs one after another.
use Rattle.std.specs.Prelude.{List, ◌++◌}
use Rattle.qv_outside.specs.Event.{Event, Reply}
use Rattle.vm_core.specs.Machine.{State, Ending, Going, Stopped, Asks, End}

-- with events before the others
abbrev pub with_events : List Event → End → End
with_events es end = record { ending = end.ending; events = es ++ end.events; state = end.state; left = end.left }

abbrev pub with_left : End → List Reply → End
with_left end left = record { ending = end.ending; events = end.events; state = end.state; left = left }

-- a run that goes on, and what comes then
abbrev pub and_then : Ending → List Event → State → List Reply → (State → List Reply → End) → End
and_then Going es s left go = with_events es (go s left)
and_then (Stopped stop) es s left go = record { ending = Stopped stop; events = es; state = s; left = left }
and_then Asks es s left go = record { ending = Asks; events = es; state = s; left = left }
