-- What a command and the files call for.
use Rattle.std.specs.Prelude.{◌≡◌, ℕ, ◌^◌, nat_lt, List, [], ◌∷◌, ◌++◌, length, map, codes, if◌then◌else◌, Option, Some, None, Result, Ok, Err, slice_get, unwrap_or}
use Rattle.qv_image.specs.Image.{Qvm}
use Rattle.qv_image.specs.Read.{read_bytes}
use Rattle.qv_image.specs.declared.fault.ImageFault.{ImageFault}
use Rattle.qv_outside.specs.FileMap.{FileMap, content}
use Rattle.asm_link.specs.declared.fault.AsmFault.{AsmFault}
use Rattle.asm_link.specs.declared.fault.AsmKind.TheVariants.{BadList}
use Rattle.asm_link.specs.Link.{linked}
use Rattle.qcc_front.specs.declared.fault.CompileStop.{CompileStop}
use Rattle.qcc_front.specs.declared.fault.CompileStop.TheVariants as stop
use Rattle.qcc_front.specs.declared.fault.SourceFault.{SourceFault}
use Rattle.qcc_front.specs.Accepted.{Outcome, accepted, tried_by}
use Rattle.qcc_front.specs.Source.{SourceRun}
use Rattle.qcc_front.specs.Sum.{sum_run}
use Rattle.qv_tool.specs.declared.status.Status.{Status}
use Rattle.qv_tool.specs.declared.status.Status.TheVariants.{Usage, Missing, NotYet, Source, Assembly, Image}
use Rattle.qv_tool.specs.Assembly.{fault_text}
use Rattle.qv_tool.specs.Damage.{damage_text}
use Rattle.qv_tool.specs.Ending.{line}
use Rattle.qv_tool.specs.Faulty.{source_text}
use Rattle.qv_tool.specs.Gathered.{Gathered, Found, Lacking, Overlong, gathered}
use Rattle.qv_tool.specs.Names.{names_in}
use Rattle.qv_tool.specs.Status.{End, kind_of}
use Rattle.qv_tool.specs.Task.{Task, Compile, Assemble, AssembleList, Disassemble, Run, Build, task_of, text_name}
use Rattle.qv_words.specs.Words.{Command}

pub data Verdict : Type 0 where
  -- the words stand for no command
  Unreadable : Verdict
  -- the command or the file are of a form that isn't served yet
  Unready : Verdict
  -- the file's name isn't held
  Absent : List ℕ → Verdict
  -- it holds more than 2 ^ 31 - 1 bytes
  TooLong : List ℕ → Verdict
  -- the image's file has this fault
  Damaged : ImageFault → Verdict
  -- the assembly isn't linked, for this fault in the file of this name
  Unlinked : List ℕ → AsmFault → Verdict
  -- the units aren't compiled, for this fault
  Uncompiled : SourceFault → Verdict
  -- the program is compiled to texts of these names
  Compiles : List (List ℕ) → SourceRun → Verdict
  -- the image is written as assembly to the file of this name
  Disassembles : List ℕ → Qvm → Verdict
  -- the assembly files are linked to the image of this name
  Links : List ℕ → Qvm → Verdict
  -- the image is called: the most steps of a call, the words of each call
  Runs : ℕ → List (List ℕ) → Qvm → Verdict
  -- the program is compiled and linked to the image of this name, which is called
  Builds : ℕ → List (List ℕ) → List ℕ → SourceRun → Verdict

-- what a file's bytes call for, where they are held
abbrev pub of_source : List ℕ → (List ℕ → Verdict) → Option (List ℕ) → Verdict
of_source name go None = Absent name
of_source name go (Some bytes) = if nat_lt (length bytes) (2 ^ 31) then go bytes else TooLong name

-- what keeps units from being compiled; the files call for neither of the last two
abbrev pub of_stop : CompileStop → Verdict
of_stop (stop.Source fault) = Uncompiled fault
of_stop (stop.Absent name) = Absent name
of_stop (stop.TooLong name) = TooLong name
of_stop stop.NotYet = Unready
of_stop (stop.ReadFault name) = Unready
of_stop stop.NoMemory = Unready

-- what a job calls for
abbrev pub of_accepted : (SourceRun → Verdict) → Outcome → Verdict
of_accepted go (Ok accepted) = go (sum_run accepted.program)
of_accepted go (Err refused) = of_stop refused.stop

-- what the contents of several files call for
abbrev pub of_gathered : (List (List ℕ) → Verdict) → Gathered → Verdict
of_gathered go (Found texts) = go texts
of_gathered go (Lacking name) = Absent name
of_gathered go (Overlong name) = TooLong name

-- the file with this number
abbrev pub name_at : List (List ℕ) → ℕ → List ℕ
name_at names number = unwrap_or (slice_get names number) []

abbrev pub of_linked : List ℕ → List (List ℕ) → Result Qvm AsmFault → Verdict
of_linked image names (Ok z) = Links image z
of_linked image names (Err fault) = Unlinked (name_at names fault.file) fault

abbrev pub of_files : FileMap → List ℕ → List (List ℕ) → Verdict
of_files files image names = of_gathered (λ texts. of_linked image names (linked texts)) (gathered files names)

-- a list at fault is told as a line of it
abbrev pub of_list : FileMap → List ℕ → List ℕ → Result (List (List ℕ)) ℕ → Verdict
of_list files image list (Ok names) = of_files files image names
of_list files image list (Err number) = Unlinked list (record { file = 0; line = number; kind = BadList })

abbrev pub of_text : List ℕ → Result Qvm ImageFault → Verdict
of_text file (Ok z) = Disassembles file z
of_text file (Err fault) = Damaged fault

abbrev pub of_image : ℕ → List (List ℕ) → Result Qvm ImageFault → Verdict
of_image steps calls (Ok z) = Runs steps calls z
of_image steps calls (Err fault) = Damaged fault

-- the first thing that refuses, in the order of the task, or what is done
abbrev pub of_task : FileMap → Option Task → Verdict
of_task files None = Unready
of_task files (Some (Compile folder job)) = of_accepted (Compiles (map (text_name folder) job.units)) (accepted (content files) job)
of_task files (Some (Assemble image names)) = of_files files image names
of_task files (Some (AssembleList image list)) = of_source list (λ bytes. of_list files image list (names_in bytes)) (content files list)
of_task files (Some (Disassemble image file)) = of_source image (λ bytes. of_text file (read_bytes bytes)) (content files image)
of_task files (Some (Run steps calls image)) = of_source image (λ bytes. of_image steps calls (read_bytes bytes)) (content files image)
of_task files (Some (Build steps calls image job)) = of_accepted (Builds steps calls image) (accepted (content files) job)

abbrev pub verdict : FileMap → Option Command → Verdict
verdict files None = Unreadable
verdict files (Some c) = of_task files (task_of c)

-- the names in the list of this content
abbrev pub listed_in : Result (List (List ℕ)) ℕ → List (List ℕ)
listed_in (Ok names) = names
listed_in (Err number) = []

abbrev pub listed : Option (List ℕ) → List (List ℕ)
listed None = []
listed (Some bytes) = listed_in (names_in bytes)

-- the names of the files that are read for a task
abbrev pub read_for : FileMap → Option Task → List (List ℕ)
read_for files None = []
read_for files (Some (Compile folder job)) = tried_by (accepted (content files) job)
read_for files (Some (Assemble image names)) = names
read_for files (Some (AssembleList image list)) = list ∷ listed (content files list)
read_for files (Some (Disassemble image file)) = image ∷ []
read_for files (Some (Run steps calls image)) = image ∷ []
read_for files (Some (Build steps calls image job)) = tried_by (accepted (content files) job)

abbrev pub named_in : FileMap → Option Command → List (List ℕ)
named_in files None = []
named_in files (Some c) = read_for files (task_of c)

-- a refusal: its status and its line
pub record Refusal : Type 0 where
  pub status : Status
  pub text : List ℕ

abbrev pub refusal : Status → List ℕ → Option Refusal
refusal status text = Some (record { status = status; text = line text })

-- the refusal that is called for, where one is
abbrev pub refusal_of : Verdict → Option Refusal
refusal_of Unreadable = refusal Usage (codes "usage")
refusal_of Unready = refusal NotYet (codes "not yet")
refusal_of (Absent name) = refusal Missing (codes "absent: " ++ name)
refusal_of (TooLong name) = refusal Missing (codes "too long: " ++ name)
refusal_of (Damaged fault) = refusal Image (codes "image: " ++ damage_text fault)
refusal_of (Uncompiled fault) = refusal Source (source_text fault)
refusal_of (Unlinked file fault) = refusal Assembly (fault_text file fault.line fault.kind)
refusal_of verdict = None

-- the status that is called for: that of the refusal, or one of an end
abbrev pub IsCalledFor : Option Refusal → Status → Type 0
IsCalledFor None status = kind_of status ≡ End
IsCalledFor (Some r) status = status ≡ r.status
