-- What `compile` promises.
use Rattle.std.specs.Prelude.{◌≡◌, ℕ, ◌≤◌, true, List, map, Option, Some, None, Result, Ok, Err, IfSome}
use Rattle.qv_outside.specs.Causes.{Rose}
use Rattle.asm_link.specs.Shown.{texts_of}
use Rattle.asm_link.specs.declared.fault.AsmFile.{AsmFile}
use Rattle.pp_macro.specs.Tokens.{is_among}
use Rattle.pp_dir.specs.Endings.{Keeper}
use Rattle.qcc_front.specs.declared.compile.Compiled.{Compiled}
use Rattle.qcc_front.specs.declared.fault.CompileStop.{CompileStop}
use Rattle.qcc_front.specs.declared.fault.CompileStop.TheVariants.{ReadFault, NoMemory}
use Rattle.qcc_front.specs.Accepted.{Accepted, Outcome, stop_of, tried_by}
use Rattle.qcc_front.specs.Assembles.{Assembles}

-- why a job isn't compiled: by the definition's answer, or because memory was refused, or because a file was not read
-- that the definition tries
abbrev pub IsStopped : Outcome → CompileStop → Type 0
IsStopped outcome NoMemory = Unit {0}
IsStopped outcome (ReadFault name) = is_among name (tried_by outcome) ≡ true
IsStopped outcome stop = stop_of outcome ≡ Some stop

-- the texts are linked to an image that follows the program; or why there are none
abbrev pub IsCompiled : Outcome → Result Compiled CompileStop → Type 0
IsCompiled outcome (Ok compiled) = (a : Accepted) × (outcome ≡ Ok a) × Assembles a.program (texts_of compiled.texts.items)
IsCompiled outcome (Err stop) = IsStopped outcome stop

-- the names under which the texts stand
abbrev pub names_of : List AsmFile → List (List ℕ)
names_of texts = map (λ (t : AsmFile). t.name) texts

-- the name of the file whose read failed
abbrev pub failed_in : Result Compiled CompileStop → Option (List ℕ)
failed_in (Err (ReadFault name)) = Some name
failed_in result = None

abbrev pub failed_after : Option (List ℕ) → Option (List ℕ) → Option (List ℕ)
failed_after before None = before
failed_after before (Some name) = Some name

-- files are read, and nothing else is done with them; a read that is told as failed did fail
pub record Keeps (old new : Keeper) (result : Result Compiled CompileStop) : Type 0 where
  pub same : new.held ≡ old.held
  pub named : IfSome old.held (λ _. new.failed ≡ failed_after old.failed (failed_in result))
  pub later : old.read_faults ≤ new.read_faults
  pub writes_stay : new.write_faults ≡ old.write_faults
  pub cause : IfSome (failed_in result) (λ _. Rose old.read_faults new.read_faults)
