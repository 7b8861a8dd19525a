-- What files in memory hold, and which of their calls fail.
use Rattle.std.specs.Prelude.{ℕ, List, Option, Result, Err}
use Rattle.std.specs.Global.{Vec}
use Rattle.qv_outside.specs.Causes.{next_count}
use Rattle.qv_outside.specs.FileMap.{FileMap}
use Rattle.qv_outside.specs.Schedule.{fails_in, calls_in, FailsNext}
use Rattle.qv_outside.specs.declared.mem_files.MemFiles.{MemFiles}
use Rattle.qv_outside.specs.declared.files.FileFault.{FileFault}
use Rattle.qv_outside.specs.declared.files.FileFault.TheVariants.{Failed as ReadFailed, NoMemory as ReadNoMemory}
use Rattle.qv_outside.specs.declared.files.WriteFault.{WriteFault}
use Rattle.qv_outside.specs.declared.files.WriteFault.TheVariants.{Failed, NoMemory}

abbrev pub files_of : MemFiles → FileMap
files_of m = m.entries

-- the numbers of the calls that fail
abbrev pub fails_of : MemFiles → List ℕ
fails_of m = fails_in m.schedule

-- the calls made so far, reads and writes
abbrev pub calls_of : MemFiles → ℕ
calls_of m = calls_in m.schedule

abbrev pub read_failures_of : MemFiles → ℕ
read_failures_of m = m.read_failures

abbrev pub write_failures_of : MemFiles → ℕ
write_failures_of m = m.write_failures

-- the name of the last call that answered Failed
abbrev pub failed_of : MemFiles → Option (List ℕ)
failed_of m = m.failed

-- the next call is one that fails. From the last number that the count can reach, none is
abbrev pub Scheduled : MemFiles → Type 0
Scheduled m = FailsNext m.schedule

-- what a call that fails answers: keeping the name takes memory
abbrev pub IsReadFailure : Result (Vec ℕ) FileFault → Type 0
IsReadFailure (Err ReadFailed) = Unit {0}
IsReadFailure (Err ReadNoMemory) = Unit {0}
IsReadFailure result = ⊥

abbrev pub IsWriteFailure : Result Unit WriteFault → Type 0
IsWriteFailure (Err Failed) = Unit {0}
IsWriteFailure (Err NoMemory) = Unit {0}
IsWriteFailure result = ⊥

-- the count of failed calls after one more
abbrev pub failures_after_read : ℕ → Result (Vec ℕ) FileFault → ℕ
failures_after_read count (Err ReadFailed) = next_count count
failures_after_read count result = count

abbrev pub failures_after_write : ℕ → Result Unit WriteFault → ℕ
failures_after_write count (Err Failed) = next_count count
failures_after_write count result = count
