-- The causes of what a command reports, also where the files aren't told.
use Rattle.std.specs.Prelude.{◌≡◌, ◌⊎◌, Option, Some, None, IfSome, IsNone, IsSome}
use Rattle.qv_outside.specs.Causes.{Rose}
use Rattle.qv_tool.specs.declared.status.Status.{Status}
use Rattle.qv_tool.specs.declared.status.Status.TheVariants.{Usage, NotYet, ReadFault, WriteFault, HostFault, NoMemory}
use Rattle.qv_tool.specs.Status.{Refusal, kind_of}
use Rattle.qv_tool.specs.Task.{Task, Compile, Run, Build, task_of}
use Rattle.qv_tool.specs.World.{World}
use Rattle.qv_words.specs.Words.{Command}

-- the words stand for a command of a form that is served
abbrev pub IsServed : Option Command → Type 0
IsServed None = ⊥
IsServed (Some c) = IsSome (task_of c)

-- they stand for a command of a form that isn't served yet
abbrev pub IsUnserved : Option Command → Type 0
IsUnserved None = ⊥
IsUnserved (Some c) = IsNone (task_of c)

-- the task reads a unit, whose form may not be served yet
abbrev pub ReadsUnit : Task → Type 0
ReadsUnit (Compile folder job) = Unit {0}
ReadsUnit (Build steps calls image job) = Unit {0}
ReadsUnit task = ⊥

-- the form of the command isn't served yet, or that of its unit may not be
abbrev pub MayBeUnready : Option Command → Type 0
MayBeUnready None = ⊥
MayBeUnready (Some c) = IfSome (task_of c) ReadsUnit

-- what is so where the command that the words stand for reports this status
abbrev pub HasCause : Option Command → World → World → Status → Type 0
HasCause c before after Usage = c ≡ None
HasCause c before after NotYet = MayBeUnready c
HasCause c before after ReadFault = IsServed c × Rose before.files.read_faults after.files.read_faults
HasCause c before after WriteFault = IsServed c × (Rose before.files.write_faults after.files.write_faults ⊎ Rose before.around.out_faults after.around.out_faults)
HasCause c before after HostFault = IsServed c × Rose before.around.host_faults after.around.host_faults
HasCause c before after NoMemory = ⊥
HasCause c before after status = IsServed c

-- the task calls an image
abbrev pub Calls : Option Task → Type 0
Calls (Some (Run steps calls image)) = Unit {0}
Calls (Some (Build steps calls image job)) = Unit {0}
Calls task = ⊥

-- the words stand for a command that calls an image
abbrev pub MakesCalls : Option Command → Type 0
MakesCalls None = ⊥
MakesCalls (Some c) = Calls (task_of c)

-- the command ends so before it calls an image: it calls none, what is called for is refused, or a read failed
abbrev pub IsSilent : Option Command → Status → Type 0
IsSilent c status = ¬ MakesCalls c ⊎ (kind_of status ≡ Refusal ⊎ (status ≡ ReadFault))
