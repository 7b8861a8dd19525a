-- What functions answer that read files, and what the keeper of the files tells.
use Rattle.std.specs.Global.{Vec}
use Rattle.std.specs.Prelude.{◌≡◌, ℕ, ◌<◌, ◌≤◌, ◌^◌, length, option_map, true, List, Option, Some, None, Result, Ok, Err, IfSome}
use Rattle.qv_outside.specs.Causes.{Rose}
use Rattle.qv_outside.specs.FileMap.{FileMap}
use Rattle.qv_outside.specs.declared.files.Files as keeping
use Rattle.qv_outside.specs.declared.files.FileFault.TheVariants as f
use Rattle.pp_macro.specs.Tokens.{is_among}
use Rattle.pp_dir.specs.declared.fault.LineStop.{LineStop}
use Rattle.pp_dir.specs.declared.fault.LineStop.TheVariants as l
use Rattle.pp_dir.specs.declared.fault.PpStop.{PpStop}
use Rattle.pp_dir.specs.declared.fault.PpStop.TheVariants.{Fault, File, NoMemory}
use Rattle.pp_dir.specs.declared.search.Found.{Found}
use Rattle.pp_dir.specs.declared.group.Group.{Group}
use Rattle.pp_dir.specs.declared.state.State.{State}
use Rattle.pp_dir.specs.Groups.{Flow}
use Rattle.pp_dir.specs.Preprocessed.{Outcome}

-- ---- the keeper of the files

-- the files, the name of the last call that failed, and how many reads and writes failed
pub record Keeper : Type 0 where
  pub held : Option FileMap
  pub failed : Option (List ℕ)
  pub read_faults : ℕ
  pub write_faults : ℕ

-- what a keeper of files tells
abbrev pub keeper_of : {F : Type 0} → keeping.Ghosts F → F → Keeper
keeper_of g files = record { held = g.held files; failed = g.failed files; read_faults = g.read_faults files; write_faults = g.write_faults files }

-- the name of the last call that failed, behind this answer
abbrev pub failed_after : {A : Type 0} → Option (List ℕ) → Result A PpStop → Option (List ℕ)
failed_after before (Err (File name f.Failed)) = Some name
failed_after before result = before

-- a read that failed is the cause
abbrev pub HasCause : {A : Type 0} → ℕ → ℕ → Result A PpStop → Type 0
HasCause before after (Err (File name f.Failed)) = Rose before after
HasCause before after result = Unit {0}

-- no read failed
abbrev pub NotFailed : {A : Type 0} → Result A PpStop → Type 0
NotFailed (Err (File name f.Failed)) = ⊥
NotFailed result = Unit {0}

-- files are read, and nothing else is done with them
pub record Keeps {A : Type 0} (old new : Keeper) (result : Result A PpStop) : Type 0 where
  pub same : new.held ≡ old.held
  pub named : IfSome old.held (λ _. new.failed ≡ failed_after old.failed result)
  pub later : old.read_faults ≤ new.read_faults
  pub writes_stay : new.write_faults ≡ old.write_faults
  pub cause : HasCause old.read_faults new.read_faults result

-- ---- answers

-- why it stopped, if it did
abbrev pub stop_of : {A : Type 0} → Outcome A → Option PpStop
stop_of (Ok x) = None
stop_of (Err s) = Some s.stop

-- the names that were tried up to the end
abbrev pub tried_in : {A : Type 0} → (A → State) → Outcome A → List (List ℕ)
tried_in state_of (Ok x) = (state_of x).tried
tried_in state_of (Err s) = s.tried

-- Why a function stops: by the definition's answer, or because memory was refused, or because a file was not read
-- that the definition tries.
abbrev pub Stops : {A : Type 0} → (A → State) → Outcome A → PpStop → Type 0
Stops state_of outcome NoMemory = Unit {0}
Stops state_of outcome (Fault fault) = stop_of outcome ≡ Some (Fault fault)
Stops state_of outcome (File name f.Absent) = stop_of outcome ≡ Some (File name f.Absent)
Stops state_of outcome (File name f.TooLong) = stop_of outcome ≡ Some (File name f.TooLong)
Stops state_of outcome (File name f.Failed) = is_among name (tried_in state_of outcome) ≡ true
Stops state_of outcome (File name f.NoMemory) = ⊥

abbrev pub itself : State → State
itself s = s

abbrev pub state_in : Flow → State
state_in f = f.1

-- a state
abbrev pub Ends : Outcome State → Result (Unit {0}) PpStop → State → Type 0
Ends outcome (Ok _) new = outcome ≡ Ok new
Ends outcome (Err stop) new = Stops itself outcome stop

-- the open conditionals and a state
abbrev pub EndsWithin : Outcome Flow → Result (Unit {0}) PpStop → List Group → State → Type 0
EndsWithin outcome (Ok _) groups new = outcome ≡ Ok (groups, new)
EndsWithin outcome (Err stop) groups new = Stops state_in outcome stop

-- what is wrong with a line of this file, told with the file's name
abbrev pub IsTold : LineStop → List ℕ → PpStop → Type 0
IsTold stop file NoMemory = Unit {0}
IsTold (l.Wrong w) file stop = stop ≡ Fault (record { kind = w.kind; file = file; line = w.line })
IsTold l.NoMemory file stop = ⊥

-- the same of a result
abbrev pub Tells : {A : Type 0} → Result A LineStop → List ℕ → Result A PpStop → Type 0
Tells (Ok x) file result = result ≡ Ok x
Tells (Err stop) file (Ok x) = ⊥
Tells (Err stop) file (Err told) = IsTold stop file told

-- ---- reading

-- what a read of this name gives, where this is held under it
abbrev pub IsRead : List ℕ → Option (List ℕ) → Result (Option (Vec ℕ)) PpStop → Type 0
IsRead name held (Ok None) = held ≡ None
IsRead name held (Ok (Some bytes)) = (held ≡ Some bytes.items) × (length bytes.items < 2 ^ 31)
IsRead name held (Err (File n f.TooLong)) = (n ≡ name) × ((bytes : List ℕ) × (held ≡ Some bytes) × (2 ^ 31 ≤ length bytes))
IsRead name held (Err (File n f.Failed)) = n ≡ name
IsRead name held (Err NoMemory) = Unit {0}
IsRead name held (Err stop) = ⊥

abbrev pub found_shown : Found → List ℕ × List ℕ
found_shown f = (f.name.now, f.bytes.items)

abbrev pub state_behind : Option (List ℕ × List ℕ) × State → State
state_behind x = x.1

-- a file, and the state behind it
abbrev pub EndsFound : Outcome (Option (List ℕ × List ℕ) × State) → Result (Option Found) PpStop → State → Type 0
EndsFound outcome (Ok found) new = outcome ≡ Ok (option_map found_shown found, new)
EndsFound outcome (Err stop) new = Stops state_behind outcome stop
