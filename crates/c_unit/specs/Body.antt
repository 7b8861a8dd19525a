-- What a block has so far, as the grammar sees it.
use Rattle.std.specs.Prelude.{◌≡◌, ◌≢◌, Bool, Result, Ok, Err}
use Rattle.c_tree.specs.declared.height.Tall.{Tall}
use Rattle.c_tree.specs.Heights.{tall}
use Rattle.c_decl.specs.declared.fault.Halt.{Halt}
use Rattle.c_decl.specs.declared.fault.Halt.TheVariants.{NoMemory}
use Rattle.c_decl.specs.Grammar.{Body}
use Rattle.c_decl.specs.Input.{Input, Outcome}
use Rattle.c_unit.specs.declared.body.SoFar.{SoFar}

abbrev pub body_of : SoFar → Tall Body
body_of x = tall (record { declarations = x.declarations; statements = x.statements }) x.height

-- whether statements have begun, and what stands before
abbrev pub so_far : SoFar → Bool × Tall Body
so_far x = (x.has_begun, body_of x)

-- what a function that goes on with a block ensures: the parser's outcome, unless memory fails
abbrev pub GoesOn : Outcome (Bool × Tall Body) → Result SoFar Halt → Input → Type 0
GoesOn outcome (Ok x) new = outcome ≡ Ok (so_far x, new)
GoesOn outcome (Err e) new = e ≢ NoMemory → outcome ≡ Err e
