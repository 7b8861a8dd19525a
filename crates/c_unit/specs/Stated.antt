-- What a function value that reads statements has to give.
use Rattle.std.specs.Prelude.{Result, IfOk}
use Rattle.std.specs.declared.alloc.Global.{Global}
use denote.Ref.{MutBor}
use Rattle.c_tree.specs.declared.height.Heights.{Heights}
use Rattle.c_tree.specs.declared.height.Tall.{Tall}
use Rattle.c_tree.specs.declared.stmt.Stmt.{Stmt}
use Rattle.c_tree.specs.Heights.{Below}
use Rattle.c_decl.specs.declared.fault.Halt.{Halt}
use Rattle.c_decl.specs.declared.kind.Mode.TheVariants.{Whole}
use Rattle.c_decl.specs.Input.{Input, Reads, Parser}
use Rattle.c_decl.specs.Entries as e
use Rattle.c_decl.specs.Nests.{parts_of}
use Rattle.c_decl.specs.Reading as r
use Rattle.c_unit.specs.declared.part.StmtPart.{StmtPart}
use Rattle.c_unit.specs.declared.part.StmtPart.TheVariants as part

abbrev pub stmt_of : Heights → StmtPart → Parser (Tall Stmt)
stmt_of room part.Statement = parts_of Whole room e.statement
stmt_of room (part.BehindLabel a n) = parts_of Whole room (e.behind_label a n)

-- one layer of the rules
abbrev pub layer_of : Heights → StmtPart → Parser (Tall Stmt)
layer_of room part.Statement = r.layer Whole (parts_of Whole room) room e.statement
layer_of room (part.BehindLabel a n) = r.layer Whole (parts_of Whole room) room (e.behind_label a n)

-- a function value that reads statements within a room
pub record Stated (room : Heights) (pre : Global → MutBor Input → Heights → StmtPart → Type 0)
    (post : Global → MutBor Input → Heights → StmtPart → Result (Tall Stmt) Halt → MutBor Input → Type 0) : Type 0 where
  pub callable : (alloc : Global) (old : MutBor Input) (c : StmtPart) → pre alloc old room c
  pub reads : (alloc : Global) (old new : MutBor Input) (c : StmtPart) (r : Result (Tall Stmt) Halt) → post alloc old room c r new → Reads (stmt_of room c old.now) r new.now
  pub low : (alloc : Global) (old new : MutBor Input) (c : StmtPart) (r : Result (Tall Stmt) Halt) → post alloc old room c r new → IfOk r (λ x. Below x.height room)
