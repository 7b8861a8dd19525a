-- What a host by a script was asked and has given, and which of its calls fail.
use Rattle.std.specs.Prelude.{ℕ, List, Result, Ok, Err}
use Rattle.qv_outside.specs.Causes.{next_count}
use Rattle.qv_outside.specs.Event.{Event, Reply}
use Rattle.qv_outside.specs.Hosts.{Table, table_in}
use Rattle.qv_outside.specs.CallLog.{events_in, room_in}
use Rattle.qv_outside.specs.Script.{given_in, left_in}
use Rattle.qv_outside.specs.Schedule.{fails_in, calls_in, FailsNext}
use Rattle.qv_outside.specs.declared.script_host.ScriptHost.{ScriptHost}
use Rattle.qv_outside.specs.declared.host.TrapReply.{TrapReply}
use Rattle.qv_outside.specs.declared.host.HostFailed.{HostFailed}

abbrev pub table_of : ScriptHost → Table
table_of h = table_in h.sigs.items

-- the calls asked so far
abbrev pub asked_of : ScriptHost → List Event
asked_of h = events_in h.log

-- the replies given so far
abbrev pub replied_of : ScriptHost → List Reply
replied_of h = given_in h.script

-- the replies that are left
abbrev pub left_of : ScriptHost → List Reply
left_of h = left_in h.script

-- the most calls, and the most bytes of their texts
abbrev pub room_of : ScriptHost → ℕ
room_of h = room_in h.log

-- the numbers of the calls that fail
abbrev pub fails_of : ScriptHost → List ℕ
fails_of h = fails_in h.schedule

-- the calls made so far, those past the room among them
abbrev pub calls_of : ScriptHost → ℕ
calls_of h = calls_in h.schedule

abbrev pub failures_of : ScriptHost → ℕ
failures_of h = h.failures

-- the next call is one that fails. From the last number that the count can reach, none is
abbrev pub Scheduled : ScriptHost → Type 0
Scheduled h = FailsNext h.schedule

-- the count of failed calls after one more
abbrev pub failures_after_call : ℕ → Result TrapReply HostFailed → ℕ
failures_after_call count (Ok _) = count
failures_after_call count (Err _) = next_count count
