-- The contents of several files, in order.
use Rattle.std.specs.Prelude.{ℕ, ◌^◌, nat_lt, List, [], ◌∷◌, length, Option, Some, None, if◌then◌else◌}
use Rattle.qv_outside.specs.FileMap.{FileMap, content}

-- all contents, or the name of the first file that isn't held or is too long
pub data Gathered : Type 0 where
  Found : List (List ℕ) → Gathered
  Lacking : List ℕ → Gathered
  Overlong : List ℕ → Gathered

-- a file's content before the others
abbrev pub with_text : List ℕ → Gathered → Gathered
with_text text (Found texts) = Found (text ∷ texts)
with_text text (Lacking name) = Lacking name
with_text text (Overlong name) = Overlong name

abbrev pub gather_one : List ℕ → Option (List ℕ) → Gathered → Gathered
gather_one name None later = Lacking name
gather_one name (Some bytes) later = if nat_lt (length bytes) (2 ^ 31) then with_text bytes later else Overlong name

abbrev pub gathered : FileMap → List (List ℕ) → Gathered
gathered files [] = Found []
gathered files (name ∷ names) = gather_one name (content files name) (gathered files names)
