-- What the compiler is asked to do.
use Rattle.std.specs.Prelude.{ℕ, List, [], ◌∷◌, Option, Some, None, map, option_map, string_bytes}
use denote.Ref.{Bor}
use Rattle.pp_dir.specs.Units.{definition_of}
use Rattle.qcc_front.specs.declared.job.SourceJob.{SourceJob}

-- the units, the directories of included files, macros with their texts, and the file of the binds
pub record Job : Type 0 where
  pub units : List (List ℕ)
  pub dirs : List (List ℕ)
  pub defs : List (List ℕ × List ℕ)
  pub binds : Option (List ℕ)

-- the code's job as that of the definition
abbrev pub job_shown : SourceJob → Job
job_shown j = record {
  units = map string_bytes j.units.items;
  dirs = map string_bytes j.dirs.items;
  defs = map definition_of j.defs.items;
  binds = option_map string_bytes j.binds;
}

abbrev pub single_in : Option (List ℕ) → List (List ℕ) → Option (List ℕ)
single_in None (unit ∷ []) = Some unit
single_in binds units = None

-- the one unit of a job without binds, which is what is served so far
abbrev pub single_unit : Job → Option (List ℕ)
single_unit job = single_in job.binds job.units

-- a name that is lent, as its bytes
abbrev pub name_shown : Option (Bor (List ℕ)) → Option (List ℕ)
name_shown None = None
name_shown (Some name) = Some name.now
