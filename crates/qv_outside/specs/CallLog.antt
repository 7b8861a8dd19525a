-- The calls of a log, and whether one more has room.
use Rattle.std.specs.Prelude.{ℕ, ◌+◌, ◌<◌, ◌≤◌, List, [], ◌∷◌, length, map, ◌⊎◌}
use Rattle.qv_outside.specs.Event.{Event, text_bytes}
use Rattle.qv_outside.specs.KeptCall.{event_in}
use Rattle.qv_outside.specs.declared.call_log.CallLog.{CallLog}

abbrev pub events_in : CallLog → List Event
events_in log = map (event_in log.texts.items) log.calls.items

abbrev pub room_in : CallLog → ℕ
room_in log = log.room

-- there is room for one more call, and for the bytes of its texts
abbrev pub FitsRoom : ℕ → List Event → Event → Type 0
FitsRoom room events e = (length events < room) × (text_bytes events + text_bytes (e ∷ []) ≤ room)

-- there is none
abbrev pub PassesRoom : ℕ → List Event → Event → Type 0
PassesRoom room events e = (room ≤ length events) ⊎ (room < text_bytes events + text_bytes (e ∷ []))
