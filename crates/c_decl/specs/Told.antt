-- What is told of a phrase that is read from the midst of a unit's tokens.
use Rattle.std.specs.Prelude.{◌≡◌, ◌≢◌, ◌-◌, List, length, Option, Some, None, Result, Ok, Err}
use Rattle.qv_base.specs.declared.place.Place.{Place}
use Rattle.c_tok.specs.declared.token.CTok.{CTok}
use Rattle.c_names.specs.declared.names.Declared.{Declared}
use Rattle.c_tree.specs.declared.height.Tall.{Tall}
use Rattle.c_decl.specs.declared.fault.Halt.TheVariants as halt
use Rattle.c_decl.specs.declared.fault.ParseFault.{ParseFault}
use Rattle.c_decl.specs.declared.fault.ParseFault.TheVariants.{Syntax, NoMemory}
use Rattle.c_decl.specs.declared.marking.Marked.{Marked}
use Rattle.c_decl.specs.declared.marking.Marking.{Marking}
use Rattle.c_decl.specs.declared.read.Read.{Read}
use Rattle.c_decl.specs.Tokens.{numbered}
use Rattle.c_decl.specs.Input.{Outcome, left}
use Rattle.c_decl.specs.Parsed.{place_left}

abbrev pub place_marked : Option Marking → Option (Place × Marked)
place_marked None = None
place_marked (Some m) = Some (m.at.place, m.kind)

abbrev pub told : {X : Type 0} → List CTok → Outcome (Tall X) → Result (Read X) ParseFault
told ts (Ok p) = Ok (record { tree = p.0.tree; next = length ts - left p.1; marked = place_marked p.1.state.marked })
told ts (Err (halt.Syntax k)) = Err (Syntax (place_left (numbered 0 ts) k))
told ts (Err halt.NoMemory) = Err NoMemory

-- the names behind what is read
abbrev pub NamesBehind : {X : Type 0} → Outcome X → List Declared → Type 0
NamesBehind (Ok p) after = after ≡ p.1.state.names
NamesBehind (Err e) after = Unit {0}

-- what a call answers, with the names behind, unless memory is refused
abbrev pub Tells : {X : Type 0} → List CTok → Outcome (Tall X) → List Declared → Result (Read X) ParseFault → Type 0
Tells ts o after (Ok x) = (told ts o ≡ Ok x) × NamesBehind o after
Tells ts o after (Err e) = e ≢ NoMemory → told ts o ≡ Err e
