-- What function values that parse within a room have to give.
use Rattle.std.specs.Prelude.{◌≤◌, Bool, Result, IfOk, List}
use Rattle.std.specs.declared.alloc.Global.{Global}
use denote.Ref.{MutBor}
use Rattle.c_tree.specs.declared.declaring.Declaring.{Declaring}
use Rattle.c_tree.specs.declared.expr.Member.{Member}
use Rattle.c_tree.specs.declared.expr.Slot.{Slot}
use Rattle.c_tree.specs.declared.height.Heights.{Heights}
use Rattle.c_tree.specs.declared.height.Tall.{Tall}
use Rattle.c_tree.specs.Heights.{sum, Below}
use Rattle.c_decl.specs.declared.fault.Halt.{Halt}
use Rattle.c_decl.specs.declared.kind.DeclPart.{DeclPart}
use Rattle.c_decl.specs.declared.kind.DeclPart.TheVariants as decl
use Rattle.c_decl.specs.declared.kind.Mode.{Mode}
use Rattle.c_decl.specs.Grammar.{Tree}
use Rattle.c_decl.specs.Input.{Input, Reads, Parser}
use Rattle.c_decl.specs.Entries as e
use Rattle.c_decl.specs.Entries.{Entry, phrase_of}
use Rattle.c_decl.specs.Declarators.{slot}
use Rattle.c_decl.specs.Reading.{reader}

-- the parts of a room
abbrev pub parts_of : Mode → Heights → (c : Entry) → Parser (Tall (Tree (phrase_of c)))
parts_of m room = reader m (sum room) room

abbrev pub slot_of : Mode → Heights → Unit {0} → Parser (Tall Slot)
slot_of m room _ = slot m (parts_of m room) room

abbrev pub decl_of : Mode → Heights → DeclPart → Parser (Tall Declaring)
decl_of m room (decl.Declarator kind typed) = parts_of m room (e.declarator kind typed)
decl_of m room (decl.Direct kind typed) = parts_of m room (e.direct kind typed)

abbrev pub members_of : Mode → Heights → Unit {0} → Parser (Tall (List Member))
members_of m room _ = parts_of m room e.members

abbrev pub span_of : Mode → Heights → Bool → Parser (Tall (Unit {0}))
span_of m room inside = parts_of m room (e.span inside)

-- each count is small enough for one more
pub record Small (room : Heights) : Type 0 where
  pub expression : room.expression ≤ 200
  pub declarator : room.declarator ≤ 200
  pub initializer : room.initializer ≤ 200
  pub statement : room.statement ≤ 200
  pub members : room.members ≤ 200

-- a function value that reads what the parser reads, of a class c
pub record Nests {A C : Type 0} (reads_as : C → Parser (Tall A)) (m : Mode) (room : Heights) (pre : Global → MutBor Input → Mode → Heights → C → Type 0)
    (post : Global → MutBor Input → Mode → Heights → C → Result (Tall A) Halt → MutBor Input → Type 0) : Type 0 where
  pub callable : (alloc : Global) (old : MutBor Input) (c : C) → pre alloc old m room c
  pub reads : (alloc : Global) (old new : MutBor Input) (c : C) (r : Result (Tall A) Halt) → post alloc old m room c r new → Reads (reads_as c old.now) r new.now
  pub low : (alloc : Global) (old new : MutBor Input) (c : C) (r : Result (Tall A) Halt) → post alloc old m room c r new → IfOk r (λ x. Below x.height room)
