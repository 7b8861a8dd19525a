-- A function value that reads included files. No public clause names it.
use Rattle.std.specs.declared.alloc.Global.{Global}
use Rattle.std.specs.Prelude.{String}
use denote.Ref.{Bor, MutBor}
use Rattle.std.specs.Prelude.{◌≡◌, ℕ, List, Some, Result, map, string_bytes}
use Rattle.qv_outside.specs.FileMap.{FileMap, content}
use Rattle.qv_outside.specs.declared.files.Files as keeping
use Rattle.pp_dir.specs.declared.fault.PpStop.{PpStop}
use Rattle.pp_dir.specs.declared.state.State.{State}
use Rattle.pp_dir.specs.Preprocessed.{file_in}
use Rattle.pp_dir.specs.Endings.{Ends, Keeps, keeper_of}

pub record Nested {F : Type 0} (g : keeping.Ghosts F) (depth : ℕ)
    (pre : Global → Bor (List (String Global)) → ℕ → Bor (List ℕ) → Bor (List ℕ) → MutBor State → MutBor F → Type 0)
    (post : Global → Bor (List (String Global)) → ℕ → Bor (List ℕ) → Bor (List ℕ) → MutBor State → MutBor F → Result (Unit {0}) PpStop → MutBor State → MutBor F → Type 0) : Type 0 where
  pub callable : (alloc : Global) (dirs : Bor (List (String Global))) (name bytes : Bor (List ℕ)) (state : MutBor State) (files : MutBor F) → pre alloc dirs depth name bytes state files
  pub told : (alloc : Global) (dirs : Bor (List (String Global))) (name bytes : Bor (List ℕ)) (old new : MutBor State) (files later : MutBor F) (result : Result (Unit {0}) PpStop)
      → post alloc dirs depth name bytes old files result new later → (m : FileMap) → g.held files.now ≡ Some m
      → Ends (file_in (content m) (map string_bytes dirs.now) depth name.now bytes.now old.now) result new.now
  pub keeps : (alloc : Global) (dirs : Bor (List (String Global))) (name bytes : Bor (List ℕ)) (old new : MutBor State) (files later : MutBor F) (result : Result (Unit {0}) PpStop)
      → post alloc dirs depth name bytes old files result new later → Keeps (keeper_of g files.now) (keeper_of g later.now) result
