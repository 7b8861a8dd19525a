-- A kept call as an event.
use Rattle.std.specs.Prelude.{ℕ, ◌+◌, ◌≤◌, List, [], ◌∷◌, take, drop}
use Rattle.qv_outside.specs.Event.{Event}
use Rattle.qv_outside.specs.declared.call_log.KeptCall.{KeptCall}

-- its texts stand among these bytes
abbrev pub event_in : List ℕ → KeptCall → Event
event_in texts c = record { number = c.number; ints = take c.int_count c.ints; inputs = take c.input_count (take c.first_len (drop c.from texts) ∷ take c.second_len (drop (c.from + c.first_len) texts) ∷ []); out_len = c.out_len }

-- its texts lie within so many bytes
abbrev pub IsInside : ℕ → KeptCall → Type 0
IsInside len c = c.from + c.first_len + c.second_len ≤ len
