-- The work of a command before its line is put, and its parts, where the files are told.
use Rattle.std.specs.Prelude.{◌≡◌, ℕ, List, ◌++◌, Contains, length, map, string_bytes, codes, Option, Some, None, IfSome, ◌⊎◌, Result, Ok, Err, IfOk}
use Rattle.asm_link.specs.declared.fault.AsmFault.{AsmFault}
use Rattle.asm_link.specs.declared.fault.AsmKind.{AsmKind}
use Rattle.asm_link.specs.declared.fault.AsmKind.TheVariants.{NoMemory as LinkNoMemory}
use Rattle.asm_link.specs.Shown.{texts_of}
use Rattle.qv_base.specs.declared.NoMemory.{NoMemory}
use Rattle.qv_outside.specs.Causes.{Rose}
use Rattle.qv_outside.specs.FileMap.{FileMap, with_file, Torn}
use Rattle.qv_outside.specs.declared.files.FileFault.{FileFault}
use Rattle.qv_outside.specs.declared.files.FileFault.TheVariants.{Absent, TooLong, Failed, NoMemory as ReadNoMemory}
use Rattle.qv_image.specs.declared.fault.ImageFault.{ImageFault}
use Rattle.qv_image.specs.declared.fault.ImageFault.TheVariants.{NoMemory as NoMemoryForImage}
use Rattle.pp_dir.specs.Endings.{Keeper}
use Rattle.qcc_front.specs.declared.fault.CompileStop.{CompileStop}
use Rattle.qcc_front.specs.declared.fault.CompileStop.TheVariants as stop
use Rattle.qv_tool.specs.declared.report.Report.{Report}
use Rattle.qv_tool.specs.declared.status.Status.{Status}
use Rattle.qv_tool.specs.declared.status.Status.TheVariants.{Done, Missing, NotYet, Source, Assembly, Image, ReadFault, WriteFault, NoMemory as Wants}
use Rattle.qv_tool.specs.Answers.{BreaksOff, Reports}
use Rattle.qv_tool.specs.Causes.{HasCause, IsSilent}
use Rattle.qv_tool.specs.Assembly.{fault_text}
use Rattle.qv_tool.specs.Damage.{damage_text}
use Rattle.qv_tool.specs.Ending.{line}
use Rattle.qv_tool.specs.Faulty.{source_text}
use Rattle.qv_tool.specs.declared.gather.Sources.{Sources}
use Rattle.qv_tool.specs.declared.gather.Sources.TheVariants.{Texts, Refused}
use Rattle.qv_tool.specs.declared.list.Listed.{Listed}
use Rattle.qv_tool.specs.declared.list.Listed.TheVariants.{Names, BadLine}
use Rattle.qv_tool.specs.Gathered.{Found, Lacking, Overlong, gathered}
use Rattle.qv_tool.specs.Verdict.{named_in, of_files, verdict}
use Rattle.qv_tool.specs.World.{World}
use Rattle.qv_words.specs.Words.{Command}

-- the status of a report, or that of want of memory
abbrev pub status_of : Result Report NoMemory → Status
status_of (Ok report) = report.status
status_of (Err _) = Wants

-- the report is right, and where memory is refused the command has broken off rightly
abbrev pub Leaves : Option Command → FileMap → World → World → Result Report NoMemory → Type 0
Leaves c old before after (Ok report) = Reports c old before after report.line.items report.status
Leaves c old before after (Err _) = BreaksOff (verdict old c) old before.around after

-- the work of a command: its report is right where the files are told, and has its cause in any case. The host's traps
-- stay, and a command that ends before it calls an image prints and asks nothing
pub record Works (c : Option Command) (before after : World) (result : Result Report NoMemory) : Type 0 where
  pub leaves : IfSome before.files.held (λ held. Leaves c held before after result)
  pub cause : IfOk result (λ report. HasCause c before after report.status)
  pub table : after.around.table ≡ before.around.table
  pub quiet : IsSilent c (status_of result) → after.around ≡ before.around

-- a report has this status and line
pub record Says (status : Status) (text : List ℕ) (report : Report) : Type 0 where
  pub status_is : report.status ≡ status
  pub line_is : report.line.items ≡ text

-- the report of a read that answered this fault
abbrev pub SaysUnread : List ℕ → Report → FileFault → Type 0
SaysUnread name report Absent = Says Missing (line (codes "absent: " ++ name)) report
SaysUnread name report TooLong = Says Missing (line (codes "too long: " ++ name)) report
SaysUnread name report Failed = Says ReadFault (line (codes "read fault: " ++ name)) report
SaysUnread name report ReadNoMemory = ⊥

-- a file is written whole
abbrev pub Stored : Keeper → Keeper → List ℕ → List ℕ → Type 0
Stored before after name bytes = IfSome before.held (λ held. after.held ≡ Some (with_file held name bytes))

-- its write failed
pub record TornAt (old : FileMap) (after : Keeper) (name bytes : List ℕ) : Type 0 where
  pub files : FileMap
  pub held : after.held ≡ Some files
  pub torn : Torn old files name bytes
  pub failed_is : after.failed ≡ Some name

-- the report says that the write failed, and it did
pub record SaysTorn (before after : Keeper) (name bytes : List ℕ) (report : Report) : Type 0 where
  pub says : Says WriteFault (line (codes "write fault: " ++ name)) report
  pub cause : Rose before.write_faults after.write_faults
  pub torn : IfSome before.held (λ held. TornAt held after name bytes)

-- all files are as before
abbrev pub Keeps : Keeper → Keeper → Type 0
Keeps before after = IfSome before.held (λ held. after.held ≡ Some held)

-- a file is written whole, or its write failed and the report says so; where memory is refused all is as before
abbrev pub Stores : Keeper → Keeper → List ℕ → List ℕ → Result (Option Report) NoMemory → Type 0
Stores before after name bytes (Ok None) = Stored before after name bytes
Stores before after name bytes (Ok (Some report)) = SaysTorn before after name bytes report
Stores before after name bytes (Err _) = Keeps before after

-- the command's file is written whole and the report says that all is done, or its write failed and the report says so
abbrev pub Delivers : Keeper → Keeper → List ℕ → List ℕ → Result Report NoMemory → Type 0
Delivers before after name bytes (Ok report) = (Says Done (line (codes "done")) report × Stored before after name bytes) ⊎ SaysTorn before after name bytes report
Delivers before after name bytes (Err _) = Keeps before after

-- the report of a fault of linking in the file of this name, by its kind
abbrev pub SaysUnlinked : List ℕ → AsmKind → AsmFault → Report → Type 0
SaysUnlinked file LinkNoMemory fault report = ⊥
SaysUnlinked file kind fault report = Says Assembly (line (fault_text file fault.line fault.kind)) report

-- the report of why units aren't compiled
abbrev pub SaysUncompiled : CompileStop → Report → Type 0
SaysUncompiled (stop.Source fault) report = Says Source (line (source_text fault)) report
SaysUncompiled (stop.Absent name) report = Says Missing (line (codes "absent: " ++ name)) report
SaysUncompiled (stop.TooLong name) report = Says Missing (line (codes "too long: " ++ name)) report
SaysUncompiled (stop.ReadFault name) report = Says ReadFault (line (codes "read fault: " ++ name)) report
SaysUncompiled stop.NotYet report = Says NotYet (line (codes "not yet")) report
SaysUncompiled stop.NoMemory report = ⊥

-- the report of a fault of an image
abbrev pub SaysDamaged : ImageFault → Report → Type 0
SaysDamaged NoMemoryForImage report = ⊥
SaysDamaged fault report = Says Image (line (codes "image: " ++ damage_text fault)) report

-- a file of these names isn't found, or its read failed
abbrev pub IsRefused : Keeper → Keeper → List (List ℕ) → Report → Type 0
IsRefused before after names report =
    ((name : List ℕ) × Says Missing (line (codes "absent: " ++ name)) report × IfSome before.held (λ held. gathered held names ≡ Lacking name))
    ⊎ (((name : List ℕ) × Says Missing (line (codes "too long: " ++ name)) report × IfSome before.held (λ held. gathered held names ≡ Overlong name))
    ⊎ ((name : List ℕ) × Says ReadFault (line (codes "read fault: " ++ name)) report × Contains names name × IfSome before.held (λ _. after.failed ≡ Some name) × Rose before.read_faults after.read_faults))

-- the files of these names are read in order, or one of them is refused
abbrev pub Gathers : Keeper → Keeper → List (List ℕ) → Result Sources NoMemory → Type 0
Gathers before after names (Ok (Texts texts)) = IfSome before.held (λ held. gathered held names ≡ Found (texts_of texts.items))
Gathers before after names (Ok (Refused report)) = IsRefused before after names report
Gathers before after names (Err wanting) = Unit {0}

-- the names in a list, or the line at fault
abbrev pub IsListed : Result (List (List ℕ)) ℕ → Listed → Type 0
IsListed names (Names listed) = names ≡ Ok (map string_bytes listed.items)
IsListed names (BadLine number) = names ≡ Err number

-- there are so many texts
abbrev pub HasCount : ℕ → Sources → Type 0
HasCount n (Texts texts) = length texts.items ≡ n
HasCount n (Refused report) = Unit {0}

-- the command asks for linking the files of these names to the image
pub record Asks (c : Command) (image : List ℕ) (names : List (List ℕ)) (held : FileMap) : Type 0 where
  pub verdict_is : verdict held (Some c) ≡ of_files held image names
  pub needs : (name : List ℕ) → Contains names name → Contains (named_in held (Some c)) name
