-- What `preprocess` promises.
use Rattle.std.specs.declared.alloc.Global.{Global}
use Rattle.std.specs.Prelude.{◌≡◌, ℕ, List, Result, Ok, Err, string_bytes, String}
use Rattle.pp_dir.specs.declared.fault.PpStop.{PpStop}
use Rattle.pp_dir.specs.declared.state.State.{State}
use Rattle.pp_dir.specs.declared.unit.Preprocessed.{Preprocessed}
use Rattle.pp_dir.specs.Preprocessed.{Outcome}
use Rattle.pp_dir.specs.Endings.{Stops, itself}

-- a definition of the command line: a name and its text
abbrev pub definition_of : String Global × String Global → List ℕ × List ℕ
definition_of d = (string_bytes d.0, string_bytes d.1)

-- The definition's answer, unless memory is refused or a file isn't read that the definition tries.
abbrev pub IsPreprocessed : Outcome State → Result Preprocessed PpStop → Type 0
IsPreprocessed outcome (Ok unit) = (s : State) × (outcome ≡ Ok s) × (unit.names ≡ s.names) × (unit.toks ≡ s.toks)
IsPreprocessed outcome (Err stop) = Stops itself outcome stop
