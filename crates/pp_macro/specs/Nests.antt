-- What the functions of the expansion ensure, unless memory fails.
use Rattle.std.specs.declared.alloc.Global.{Global}
use Rattle.std.specs.Prelude.{◌≡◌, ◌≢◌, ℕ, ◌+◌, ◌≤◌, ◌++◌, Bool, true, false, ◌||◌, length, List, ◌∷◌, Option, Some, None, Result, Ok, Err, OnOk}
use denote.Ref.{Bor, MutBor}
use Rattle.qv_base.specs.declared.place.Place.{Place}
use Rattle.qv_base.specs.declared.NoMemory.{NoMemory as MemoryFault}
use Rattle.pp_tok.specs.declared.token.PpTok.{PpTok}
use Rattle.pp_macro.specs.declared.macros.Macro.{Macro}
use Rattle.pp_macro.specs.declared.call.Call.{Call}
use Rattle.pp_macro.specs.declared.fill.Joint.{Joint}
use Rattle.pp_macro.specs.declared.fill.Joint.TheVariants as j
use Rattle.pp_macro.specs.declared.meaning.Found.{Found}
use Rattle.pp_macro.specs.declared.meaning.Found.TheVariants as f
use Rattle.pp_macro.specs.declared.pending.Filling.{Filling}
use Rattle.pp_macro.specs.declared.pending.Pending.{Pending}
use Rattle.pp_macro.specs.declared.fault.ExpandFault.{ExpandFault}
use Rattle.pp_macro.specs.declared.fault.ExpandFault.TheVariants.{NoMemory}
use Rattle.pp_macro.specs.declared.pieces.Piece.{Piece}
use Rattle.pp_macro.specs.declared.pieces.Piece.TheVariants as p
use Rattle.pp_macro.specs.Macros.{Entry}
use Rattle.pp_macro.specs.Pieces.{is_paste, param_of, paste_first, pieces, plain_piece}
use Rattle.pp_macro.specs.Fill.{paste_of}
use Rattle.pp_macro.specs.Calls.{Change, Outcome, Taken, all_from, change, ◌>>=◌}
use Rattle.pp_macro.specs.Expand.{expand_in, pass, with_front}

-- the macro that was found
abbrev pub macro_of : Found → Macro
macro_of (f.Made m) = m
macro_of (f.Known m) = m.now

abbrev pub found_macro : Option Found → Option Macro
found_macro None = None
found_macro (Some found) = Some (macro_of found)

-- it finds this macro
abbrev pub Finds : Option Macro → Result (Option Found) MemoryFault → Type 0
Finds found (Ok o) = found_macro o ≡ found
Finds found (Err e) = Unit {0}

-- it gives the value with this count, or this fault
abbrev pub Expands : {A : Type 0} → Result (A × ℕ) ExpandFault → Result A ExpandFault → ℕ → Type 0
Expands outcome (Ok ts) count = outcome ≡ Ok (ts, count)
Expands outcome (Err e) count = e ≢ NoMemory → outcome ≡ Err e

-- it gives the value, or this fault
abbrev pub Gives : {A : Type 0} → Result A ExpandFault → Result A ExpandFault → Type 0
Gives outcome (Ok x) = outcome ≡ Ok x
Gives outcome (Err e) = e ≢ NoMemory → outcome ≡ Err e

-- a call's arguments are taken
abbrev pub Takes : Option Taken → Result (Option Call) MemoryFault → List Pending → Type 0
Takes taken (Ok None) after = taken ≡ None
Takes taken (Ok (Some c)) after = taken ≡ Some (record { args = c.args; close = c.close; after = after })
Takes taken (Err e) after = Unit {0}

-- a function value that expands arguments
pub record Nests (depth : ℕ) (pre : Global → Bor (List Entry) → Bor (List (List ℕ)) → ℕ → Place → Bor (List PpTok) → MutBor ℕ → Type 0)
    (post : Global → Bor (List Entry) → Bor (List (List ℕ)) → ℕ → Place → Bor (List PpTok) → MutBor ℕ → Result (List PpTok) ExpandFault → MutBor ℕ → Type 0) : Type 0 where
  pub callable : (alloc : Global) (table : Bor (List Entry)) (names : Bor (List (List ℕ))) (place : Place) (ts : Bor (List PpTok)) (count : MutBor ℕ) → pre alloc table names depth place ts count
  pub reads : (alloc : Global) (table : Bor (List Entry)) (names : Bor (List (List ℕ))) (place : Place) (ts : Bor (List PpTok)) (old new : MutBor ℕ) (r : Result (List PpTok) ExpandFault) → post alloc table names depth place ts old r new
      → Expands (expand_in table.now names.now depth place old.now ts.now) r new.now
  pub low : (alloc : Global) (table : Bor (List Entry)) (names : Bor (List (List ℕ))) (place : Place) (ts : Bor (List PpTok)) (old new : MutBor ℕ) (r : Result (List PpTok) ExpandFault) → post alloc table names depth place ts old r new
      → OnOk r (old.now ≤ new.now)

-- what a replacement brings
abbrev pub Changes : Result Change ExpandFault → Place → Result Filling ExpandFault → ℕ → List Pending → Type 0
Changes outcome place (Ok f) count rest = outcome ≡ Ok (record { tokens = all_from place f.names f.tokens; count = count; rest = rest })
Changes outcome place (Err e) count rest = e ≢ NoMemory → outcome ≡ Err e

-- The tokens up to the next one that is to be replaced go to `out`, and it is taken off.
abbrev pub Moves : List Entry → List (List ℕ) → List Pending → List PpTok → Result (Option (Pending × Found)) MemoryFault → List Pending → List PpTok → Type 0
Moves table names old out (Ok None) new after = (inner : Place → ℕ → List PpTok → Outcome) (again : ℕ → List Pending → Outcome) (count : ℕ) → with_front out (pass table names inner again count old) ≡ Ok (after, count)
Moves table names old out (Ok (Some p)) new after = (inner : Place → ℕ → List PpTok → Outcome) (again : ℕ → List Pending → Outcome) (count : ℕ) →
    with_front out (pass table names inner again count old) ≡ with_front after (change inner count p.0 (macro_of p.1) new >>= λ c. again c.count (c.tokens ++ c.rest))
Moves table names old out (Err e) new after = Unit {0}

-- A `##` with a piece behind it is taken with this one, and another piece by itself.
abbrev pub Stands : Piece → List Piece → Joint → List Piece → Type 0
Stands piece behind (j.Paste paste right) after = (piece ≡ p.Plain paste) × (is_paste paste ≡ true) × (behind ≡ right ∷ after)
Stands piece behind (j.Alone q) after = (q ≡ piece) × (after ≡ behind) × (paste_of piece behind ≡ None)

-- A `#` with a parameter behind it is taken with this, and another token by itself.
abbrev pub Spells : List (List ℕ) → PpTok → List PpTok → Option (ℕ × Bor (List PpTok)) → Type 0
Spells params t behind (Some s) = (length s.1.now + 1 ≡ length behind) × ((pasted : Bool) → pieces params None pasted (t ∷ behind) ≡ p.Spelled t s.0 ∷ pieces params None false s.1.now)
Spells params t behind None = (pasted : Bool) → pieces params None pasted (t ∷ behind) ≡ plain_piece t (pasted || paste_first behind) (param_of params t) ∷ pieces params None (is_paste t) behind
