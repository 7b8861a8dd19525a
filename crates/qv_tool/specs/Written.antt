-- The files that a command writes.
use Rattle.std.specs.Prelude.{◌≡◌, ℕ, List, [], ◌∷◌, ◌++◌, map, Option, Some}
use Rattle.qv_image.specs.Image.{file_bytes}
use Rattle.qv_outside.specs.Causes.{Rose}
use Rattle.qv_outside.specs.FileMap.{FileMap, with_file, Torn}
use Rattle.qv_dis.specs.Text.{disassembly}
use Rattle.qcc_front.specs.Source.{SourceRun}
use Rattle.pp_dir.specs.Endings.{Keeper}
use Rattle.qv_tool.specs.Built.{Assembles, IsFollower}
use Rattle.qv_tool.specs.Verdict.{Verdict, Compiles, Disassembles, Links, Runs, Builds}

-- a name with its bytes
abbrev pub File : Type 0
File = List ℕ × List ℕ

-- one file of this name, whose bytes are such
abbrev pub OneFile : List ℕ → (List ℕ → Type 0) → List File → Type 0
OneFile name IsRight files = (bytes : List ℕ) × (files ≡ (name, bytes) ∷ []) × IsRight bytes

-- files of these names, whose texts are linked to an image that follows the program
pub record AreTexts (names : List (List ℕ)) (run : SourceRun) (files : List File) : Type 0 where
  pub named : map (λ (f : File). f.0) files ≡ names
  pub assembles : Assembles run (map (λ (f : File). f.1) files)

-- the files that a command writes, in order
abbrev pub Writes : Verdict → List File → Type 0
Writes (Compiles names run) files = AreTexts names run files
Writes (Links image z) files = OneFile image (λ bytes. bytes ≡ file_bytes z) files
Writes (Disassembles file z) files = OneFile file (λ bytes. bytes ≡ disassembly z) files
Writes (Runs steps calls z) files = files ≡ []
Writes (Builds steps calls image run) files = OneFile image (IsFollower run) files
Writes verdict files = ⊥

-- each of these names holds its bytes, and every other name what it held
abbrev pub with_files : FileMap → List File → FileMap
with_files held [] = held
with_files held (file ∷ files) = with_files (with_file held file.0 file.1) files

-- all files of the command are written whole; all else is as before
pub record Wrote (v : Verdict) (old : FileMap) (new : Option FileMap) : Type 0 where
  pub files : List File
  pub writes : Writes v files
  pub held : new ≡ Some (with_files old files)

-- the first of them are
pub record WroteSome (v : Verdict) (old : FileMap) (new : Option FileMap) : Type 0 where
  pub first : List File
  pub later : List File
  pub writes : Writes v (first ++ later)
  pub held : new ≡ Some (with_files old first)

-- the write of one of them failed: its name is the one that failed, and holds what it held or a prefix of its bytes.
-- Those before it are written whole; all else is as before
pub record TornFile (v : Verdict) (old : FileMap) (before after : Keeper) : Type 0 where
  pub first : List File
  pub name : List ℕ
  pub bytes : List ℕ
  pub later : List File
  pub writes : Writes v (first ++ (name, bytes) ∷ later)
  pub files : FileMap
  pub held : after.held ≡ Some files
  pub torn : Torn (with_files old first) files name bytes
  pub failed_is : after.failed ≡ Some name
  pub cause : Rose before.write_faults after.write_faults
