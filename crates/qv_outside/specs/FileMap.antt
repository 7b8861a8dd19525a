-- What a keeper of files holds: a finite map from names to bytes.
use Rattle.std.specs.Prelude.{◌≡◌, ℕ, ◌<◌, ◌≤◌, ◌^◌, List, length, take, Option, Some, None, Result, Ok, Err, ◌⊎◌}
use Rattle.std.specs.Ordering.{nat_cmp}
use Rattle.std.specs.declared.cmp.Ordering.{Ordering}
use Rattle.std.specs.Cmp.Lexicographic.{slice_cmp}
use Rattle.std.specs.FinMap as map
use Rattle.std.specs.Global.{Vec}
use Rattle.std.specs.Coded.{Coded, coded_list, coded_ℕ}
use Rattle.qv_outside.specs.declared.files.FileFault.{FileFault}
use Rattle.qv_outside.specs.declared.files.FileFault.TheVariants.{Absent, TooLong, Failed as ReadFailed, NoMemory as ReadNoMemory}
use Rattle.qv_outside.specs.declared.files.WriteFault.{WriteFault}
use Rattle.qv_outside.specs.declared.files.WriteFault.TheVariants.{Failed, NoMemory}

-- the order of names: that of their bytes
abbrev pub name_order : List ℕ → List ℕ → Ordering
name_order = slice_cmp nat_cmp

abbrev pub FileMap : Type 0
FileMap = map.FinMap name_order (List ℕ)

abbrev pub file_map_code : Coded FileMap
file_map_code = map.code (coded_list coded_ℕ) (coded_list coded_ℕ)

-- the bytes under a name
abbrev pub content : FileMap → List ℕ → Option (List ℕ)
content files name = map.get files name

-- the name holds these bytes, and every other name what it held
abbrev pub with_file : FileMap → List ℕ → List ℕ → FileMap
with_file files name bytes = map.insert files name bytes

-- a write that failed: all is as before, or the name holds a prefix of the new bytes
abbrev pub Torn : FileMap → FileMap → List ℕ → List ℕ → Type 0
Torn old new name bytes = (new ≡ old) ⊎ ((count : ℕ) × (new ≡ with_file old name (take count bytes)))

-- what a read answers over these files
abbrev pub ReadGives : FileMap → List ℕ → Result (Vec ℕ) FileFault → Type 0
ReadGives files name (Ok bytes) = (content files name ≡ Some bytes.items) × (length bytes.items < 2 ^ 31)
ReadGives files name (Err Absent) = content files name ≡ None
ReadGives files name (Err TooLong) = (bytes : List ℕ) × (content files name ≡ Some bytes) × (2 ^ 31 ≤ length bytes)
ReadGives files name (Err ReadFailed) = Unit {0}
ReadGives files name (Err ReadNoMemory) = Unit {0}

-- what a write leaves
abbrev pub WriteLeaves : FileMap → FileMap → List ℕ → List ℕ → Result Unit WriteFault → Type 0
WriteLeaves old new name bytes (Ok _) = new ≡ with_file old name bytes
WriteLeaves old new name bytes (Err Failed) = Torn old new name bytes
WriteLeaves old new name bytes (Err NoMemory) = new ≡ old

-- a read, where the files are told: it changes nothing
abbrev pub Reads : Option FileMap → Option FileMap → List ℕ → Result (Vec ℕ) FileFault → Type 0
Reads None new name result = new ≡ None
Reads (Some files) new name result = (new ≡ Some files) × ReadGives files name result

-- a write, where the files are told
abbrev pub Writes : Option FileMap → Option FileMap → List ℕ → List ℕ → Result Unit WriteFault → Type 0
Writes None new name bytes result = new ≡ None
Writes (Some old) None name bytes result = ⊥
Writes (Some old) (Some new) name bytes result = WriteLeaves old new name bytes result

-- the name of the last call that answered Failed, after one more read
abbrev pub failed_by_read : Option (List ℕ) → List ℕ → Result (Vec ℕ) FileFault → Option (List ℕ)
failed_by_read before name (Err ReadFailed) = Some name
failed_by_read before name result = before

-- and after one more write
abbrev pub failed_by_write : Option (List ℕ) → List ℕ → Result Unit WriteFault → Option (List ℕ)
failed_by_write before name (Err Failed) = Some name
failed_by_write before name result = before
