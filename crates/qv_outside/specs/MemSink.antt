-- What a sink in memory holds, and which of its puts fail.
use Rattle.std.specs.Prelude.{ℕ, List, Result, Ok, Err}
use Rattle.qv_outside.specs.Causes.{next_count}
use Rattle.qv_outside.specs.Schedule.{fails_in, calls_in, FailsNext}
use Rattle.qv_outside.specs.declared.mem_sink.MemSink.{MemSink}
use Rattle.qv_outside.specs.declared.sink.SinkFailed.{SinkFailed}

-- the bytes that it has taken
abbrev pub bytes_of : MemSink → List ℕ
bytes_of s = s.bytes.items

-- the most bytes that it takes
abbrev pub room_of : MemSink → ℕ
room_of s = s.room

-- the numbers of the puts that fail
abbrev pub fails_of : MemSink → List ℕ
fails_of s = fails_in s.schedule

-- the puts made so far
abbrev pub puts_of : MemSink → ℕ
puts_of s = calls_in s.schedule

abbrev pub failures_of : MemSink → ℕ
failures_of s = s.failures

-- the next put is one that fails. From the last number that the count can reach, none is
abbrev pub Scheduled : MemSink → Type 0
Scheduled s = FailsNext s.schedule

-- the count of failed puts after one more
abbrev pub failures_after_put : ℕ → Result Unit SinkFailed → ℕ
failures_after_put count (Ok _) = count
failures_after_put count (Err _) = next_count count
