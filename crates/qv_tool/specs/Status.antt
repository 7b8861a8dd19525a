-- The numbers of statuses, and their kinds.
use Rattle.std.specs.Prelude.{ℕ}
use Rattle.qv_tool.specs.declared.status.Status.{Status}
use Rattle.qv_tool.specs.declared.status.Status.TheVariants.{Done, Usage, Source, Assembly, Image, Stopped, Budget, Missing, ReadFault, WriteFault, HostFault, NoMemory, NotYet}

abbrev pub code_of : Status → ℕ
code_of Done = 0
code_of Usage = 1
code_of Source = 2
code_of Assembly = 3
code_of Image = 4
code_of Stopped = 5
code_of Budget = 6
code_of Missing = 7
code_of ReadFault = 8
code_of WriteFault = 9
code_of HostFault = 10
code_of NoMemory = 11
code_of NotYet = 12

pub data StatusKind : Type 0 where
  -- the command came to its end
  End : StatusKind
  -- the words or the files don't call for an end
  Refusal : StatusKind
  -- a fault of the outside, which may stand in place of what is called for
  Fault : StatusKind
  -- so may want of memory
  Want : StatusKind

abbrev pub kind_of : Status → StatusKind
kind_of Done = End
kind_of Stopped = End
kind_of Budget = End
kind_of Usage = Refusal
kind_of NotYet = Refusal
kind_of Missing = Refusal
kind_of Source = Refusal
kind_of Assembly = Refusal
kind_of Image = Refusal
kind_of ReadFault = Fault
kind_of WriteFault = Fault
kind_of HostFault = Fault
kind_of NoMemory = Want
