-- A list of names with their bytes, and the files that it stands for.
use Rattle.std.specs.Prelude.{ℕ, List, Option, Some, None, map as list_map}
use Rattle.std.specs.FinMap as map
use Rattle.std.specs.Global.{Vec}
use denote.Ref.{Bor}
use Rattle.qv_outside.specs.FileMap.{FileMap}

abbrev pub entries_of : List (List ℕ × Vec ℕ) → List (List ℕ × List ℕ)
entries_of es = list_map (λ e. (e.0, e.1.items)) es

-- the first entry of a name counts
abbrev pub files_in : List (List ℕ × Vec ℕ) → FileMap
files_in es = map.from_entries (entries_of es)

-- the bytes that a search has found
abbrev pub found : Option (Bor (Vec ℕ)) → Option (List ℕ)
found None = None
found (Some bytes) = Some bytes.now.items
