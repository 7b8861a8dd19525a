-- A unit is read as the first file.
use Rattle.std.proofs.Common.{◌≡◌, ℕ, ◌<◌, ◌^◌, List, [], ◌∷◌, Option, Some, None, Ok, Err, refl, ap, ◌∙◌, length}
use Rattle.std.specs.Prelude.{IfSome}
use Rattle.qv_outside.specs.declared.files.FileFault.TheVariants.{Absent}
use Rattle.pp_dir.specs.declared.fault.PpStop.{PpStop}
use Rattle.pp_dir.specs.declared.state.State.{State}
use Rattle.pp_dir.specs.declared.unit.Preprocessed.{Preprocessed}
use Rattle.pp_dir.specs.Units.{IsPreprocessed}
use Rattle.pp_dir.specs.Preprocessed.{Outcome, Held, followed, trying, no_file, searched, unit_found, unit_read, file_in}
use Rattle.pp_dir.specs.Endings.{IsRead, Stops, itself, state_behind}
use Rattle.pp_dir.proofs.Trying.{Grows, file_in_grows}
use Rattle.pp_dir.proofs.Searching.{search_goes, search_finds, search_stops}
use Rattle.pp_dir.proofs.Stopping.{stops_first}

-- what holds of the files where they are told
pub if_told : {M : Type 0} (o : Option M) (P : M → Type 0) → ((m : M) → o ≡ Some m → P m) → IfSome o P
if_told None P h = tt
if_told (Some m) P h = h m refl

module _ (held : Held) (dirs : List (List ℕ)) (unit : List ℕ) (s : State) where
  pub unit_reads : (bytes : List ℕ) → held unit ≡ Some bytes → length bytes < 2 ^ 31 → unit_read held dirs unit s ≡ file_in held dirs 63 unit bytes (trying unit s)
  unit_reads bytes is lt = ap (λ o. followed o (unit_found held dirs unit)) (search_finds held unit [] s bytes is lt)

  nothing : (t : State) → searched held [] t ≡ Ok (None, t)
  unfolding searched
  nothing t = refl

  pub unit_absent : held unit ≡ None → unit_read held dirs unit s ≡ no_file (trying unit s) unit Absent
  unit_absent is = ap (λ o. followed o (unit_found held dirs unit)) (search_goes held unit [] s is ∙ nothing (trying unit s))

  pub unit_stops : (stop : PpStop) → IsRead unit (held unit) (Err stop) → Stops itself (unit_read held dirs unit s) stop
  unit_stops stop h = stops_first state_behind itself (unit_found held dirs unit) found_grows (searched held (unit ∷ []) s) stop (search_stops held unit [] s stop h) where
    found_grows : (x : Option (List ℕ × List ℕ) × State) → Grows itself (state_behind x) (unit_found held dirs unit x)
    found_grows (None, t) = λ n is. is
    found_grows (Some f, t) = file_in_grows held dirs 63 f.0 f.1 t

pub is_preprocessed : (outcome : Outcome State) (s : State) (unit : Preprocessed) → outcome ≡ Ok s → unit.names ≡ s.names → unit.toks ≡ s.toks → IsPreprocessed outcome (Ok unit)
is_preprocessed outcome s unit is names toks = (s, is, names, toks)

pub is_stopped : (outcome : Outcome State) (stop : PpStop) → Stops itself outcome stop → IsPreprocessed outcome (Err stop)
is_stopped outcome stop h = h
