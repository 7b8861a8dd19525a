-- Counts of faults, after one more call.
use Rattle.std.specs.Prelude.{ℕ, Result, Ok, Err}
use Rattle.std.specs.Global.{Vec}
use Rattle.qv_outside.specs.Causes.{next_count}
use Rattle.qv_outside.specs.declared.files.FileFault.{FileFault}
use Rattle.qv_outside.specs.declared.files.FileFault.TheVariants.{Absent, TooLong, Failed, NoMemory}

-- each error of a read counts but that of an absent name
abbrev pub faults_after_read : ℕ → Result (Vec ℕ) FileFault → ℕ
faults_after_read count (Ok _) = count
faults_after_read count (Err Absent) = count
faults_after_read count (Err TooLong) = next_count count
faults_after_read count (Err Failed) = next_count count
faults_after_read count (Err NoMemory) = next_count count

-- each error of a write and of a put counts
abbrev pub faults_after : {E : Type 0} → ℕ → Result Unit E → ℕ
faults_after count (Ok _) = count
faults_after count (Err _) = next_count count
