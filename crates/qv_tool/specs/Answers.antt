-- What holds after a command, and after a call of the tool, where the files are told.
use Rattle.std.specs.Prelude.{◌≡◌, ℕ, List, ◌++◌, Contains, codes, Option, Some, ◌⊎◌}
use Rattle.qv_image.specs.Image.{Qvm}
use Rattle.qv_outside.specs.Causes.{Rose}
use Rattle.qv_outside.specs.FileMap.{FileMap, with_file}
use Rattle.qv_outside.specs.Told.{Appends, AppendsPrefix}
use Rattle.vm_core.specs.declared.stop.Stop.{Stop}
use Rattle.qcc_front.specs.Source.{SourceRun}
use Rattle.pp_dir.specs.Endings.{Keeper}
use Rattle.qv_tool.specs.declared.status.Status.{Status}
use Rattle.qv_tool.specs.declared.status.Status.TheVariants.{Done, Usage, Missing, NotYet, Source, Assembly, Image, Stopped, Budget, ReadFault, WriteFault, HostFault, NoMemory}
use Rattle.qv_tool.specs.Built.{Agrees, IsFollower}
use Rattle.qv_tool.specs.Ending.{Tells, line}
use Rattle.qv_tool.specs.Played.{Played}
use Rattle.qv_tool.specs.Verdict.{Verdict, Compiles, Disassembles, Links, Runs, Builds, named_in, refusal_of, verdict}
use Rattle.qv_tool.specs.World.{Surroundings, World}
use Rattle.qv_tool.specs.Written.{TornFile, Wrote, WroteSome}
use Rattle.qv_words.specs.Words.{Command}

-- the read of a file that the command reads failed: its name is the one that failed; the files are as before
pub record Unread (c : Option Command) (old : FileMap) (before after : Keeper) : Type 0 where
  pub name : List ℕ
  pub reads : Contains (named_in old c) name
  pub failed_is : after.failed ≡ Some name
  pub held : after.held ≡ Some old
  pub cause : Rose before.read_faults after.read_faults

-- a command that calls no image is done: its files are written
pub record Finishes (v : Verdict) (old : FileMap) (before : Surroundings) (after : World) (status : Status) (text : List ℕ) : Type 0 where
  pub status_is : status ≡ Done
  pub line_is : text ≡ line (codes "done")
  pub wrote : Wrote v old after.files.held
  pub quiet : after.around ≡ before

-- an image that was read is called; no file has changed
pub record CallsImage (steps : ℕ) (calls : List (List ℕ)) (z : Qvm) (old : FileMap) (before : Surroundings) (after : World) (status : Status) (text : List ℕ) : Type 0 where
  pub stop : Stop
  pub played : Played z steps calls before after.around stop
  pub tells : Tells stop status text
  pub held : after.files.held ≡ Some old

-- the file of an image that follows the program is written, and this image is called, over the replies that the host
-- gave; all else is as before
pub record BuildsImage (steps : ℕ) (calls : List (List ℕ)) (name : List ℕ) (run : SourceRun) (old : FileMap) (before : Surroundings) (after : World) (status : Status) (text : List ℕ) : Type 0 where
  pub bytes : List ℕ
  pub follower : IsFollower run bytes
  pub stop : Stop
  pub played : Played follower.image steps calls before after.around stop
  pub agrees : Agrees run before.table calls played.ran.ran.replies follower.image steps stop
  pub tells : Tells stop status text
  pub held : after.files.held ≡ Some (with_file old name bytes)

-- how a command comes to this status, once its files are written and its calls, if it makes any, have come to their
-- end: a fault of the host or of the output ends them, too
abbrev pub Completes : FileMap → Surroundings → World → List ℕ → Status → Verdict → Type 0
Completes old before after text status (Compiles names run) = Finishes (Compiles names run) old before after status text
Completes old before after text status (Links image z) = Finishes (Links image z) old before after status text
Completes old before after text status (Disassembles file z) = Finishes (Disassembles file z) old before after status text
Completes old before after text status (Runs steps calls z) = CallsImage steps calls z old before after status text
Completes old before after text status (Builds steps calls image run) = BuildsImage steps calls image run old before after status text
Completes old before after text status verdict = ⊥

-- a refusal has the status and the line that are called for, and changes nothing
pub record Refuses (v : Verdict) (old : FileMap) (before : Surroundings) (after : World) (status : Status) (text : List ℕ) : Type 0 where
  pub refusal_is : refusal_of v ≡ Some (record { status = status; text = text })
  pub held : after.files.held ≡ Some old
  pub quiet : after.around ≡ before

-- where memory is refused, some of the command's files are written whole, the first ones, and nothing was printed or
-- asked; or the command had come to its end, and only its line could not be made
abbrev pub BreaksOff : Verdict → FileMap → Surroundings → World → Type 0
BreaksOff v old before after = (((after.files.held ≡ Some old) ⊎ WroteSome v old after.files.held) × (after.around ≡ before))
    ⊎ ((status : Status) × (text : List ℕ) × Completes old before after text status v)

-- what a command leaves, by the status that it reports with this line
abbrev pub Reports : Option Command → FileMap → World → World → List ℕ → Status → Type 0
Reports c old before after text Done = Completes old before.around after text Done (verdict old c)
Reports c old before after text Stopped = Completes old before.around after text Stopped (verdict old c)
Reports c old before after text Budget = Completes old before.around after text Budget (verdict old c)
Reports c old before after text HostFault = Completes old before.around after text HostFault (verdict old c)
Reports c old before after text Usage = Refuses (verdict old c) old before.around after Usage text
Reports c old before after text NotYet = Refuses (verdict old c) old before.around after NotYet text
Reports c old before after text Missing = Refuses (verdict old c) old before.around after Missing text
Reports c old before after text Source = Refuses (verdict old c) old before.around after Source text
Reports c old before after text Assembly = Refuses (verdict old c) old before.around after Assembly text
Reports c old before after text Image = Refuses (verdict old c) old before.around after Image text
Reports c old before after text ReadFault = (unread : Unread c old before.files after.files) × (text ≡ line (codes "read fault: " ++ unread.name)) × (after.around ≡ before.around)
Reports c old before after text WriteFault = ((torn : TornFile (verdict old c) old before.files after.files) × (text ≡ line (codes "write fault: " ++ torn.name)) × (after.around ≡ before.around))
    ⊎ Completes old before.around after text WriteFault (verdict old c)
Reports c old before after text NoMemory = (text ≡ line (codes "no memory")) × BreaksOff (verdict old c) old before.around after

-- the command has come to its end, or to a fault of the host or of the output, and its line was put
pub record Completed (c : Option Command) (old : FileMap) (before after : World) (status : Status) (put put_now : Option (List ℕ)) : Type 0 where
  pub text : List ℕ
  pub completes : Completes old before.around after text status (verdict old c)
  pub line_is : Appends put put_now text

-- what is called for is refused, and the line of it was put
pub record Refused (c : Option Command) (old : FileMap) (before after : World) (status : Status) (put put_now : Option (List ℕ)) : Type 0 where
  pub text : List ℕ
  pub refuses : Refuses (verdict old c) old before.around after status text
  pub line_is : Appends put put_now text

-- the read of a file failed: the line has its name, and nothing was printed or asked
pub record ReadFailed (c : Option Command) (old : FileMap) (before after : World) (put put_now : Option (List ℕ)) : Type 0 where
  pub unread : Unread c old before.files after.files
  pub line_is : Appends put put_now (line (codes "read fault: " ++ unread.name))
  pub quiet : after.around ≡ before.around

-- the write of a file failed: the line has its name, and nothing was printed or asked
pub record WriteFailed (c : Option Command) (old : FileMap) (before after : World) (put put_now : Option (List ℕ)) : Type 0 where
  pub torn : TornFile (verdict old c) old before.files after.files
  pub line_is : Appends put put_now (line (codes "write fault: " ++ torn.name))
  pub quiet : after.around ≡ before.around

-- the put of the line failed, whatever status it was to tell: a prefix of it was put, and all else is as that status
-- leaves it
pub record LineFailed (c : Option Command) (old : FileMap) (before after : World) (put put_now : Option (List ℕ)) (puts puts_now : ℕ) : Type 0 where
  pub status : Status
  pub text : List ℕ
  pub reported : Reports c old before after text status
  pub line_is : AppendsPrefix put put_now text
  pub cause : Rose puts puts_now
