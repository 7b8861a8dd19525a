-- What reading an expression or an initializer from the midst of a unit's tokens promises.
use Rattle.std.specs.Prelude.{◌≡◌, ℕ, List, Result, Ok, Err}
use Rattle.c_tok.specs.declared.token.CTok.{CTok}
use Rattle.c_names.specs.declared.names.Declared.{Declared}
use Rattle.c_decl.specs.declared.fault.ParseFault.{ParseFault}
use Rattle.c_decl.specs.declared.read.Read.{Read}
use Rattle.c_decl.specs.Parts.{ReadsComma, ReadsAssignment, ReadsConditional, ReadsInit}
use Rattle.c_expr.specs.declared.read.ExprClass.{ExprClass}
use Rattle.c_expr.specs.declared.read.ExprClass.TheVariants as class
use Rattle.c_expr.specs.declared.read.ExprTree.{ExprTree}
use Rattle.c_expr.specs.declared.read.ExprTree.TheVariants as tree

-- what is told of a part, its tree as one of a class
abbrev pub with_tree : {X : Type 0} → (X → ExprTree) → Result (Read X) ParseFault → Result (Read ExprTree) ParseFault
with_tree make (Ok r) = Ok (record { tree = make r.tree; next = r.next; marked = r.marked })
with_tree make (Err e) = Err e

pub record ReadsAs {X : Type 0} (Reads : Result (Read X) ParseFault → Type 0) (make : X → ExprTree) (result : Result (Read ExprTree) ParseFault) : Type 0 where
  pub part : Result (Read X) ParseFault
  pub reads : Reads part
  pub is : result ≡ with_tree make part

-- the part of a class
abbrev pub ReadsExpr : ExprClass → List CTok → ℕ → List Declared → List Declared → Result (Read ExprTree) ParseFault → Type 0
ReadsExpr class.Expr toks at names after = ReadsAs (ReadsComma toks at names after) tree.Expr
ReadsExpr class.Assignment toks at names after = ReadsAs (ReadsAssignment toks at names after) tree.Expr
ReadsExpr class.Conditional toks at names after = ReadsAs (ReadsConditional toks at names after) tree.Expr
ReadsExpr class.Init toks at names after = ReadsAs (ReadsInit toks at names after) tree.Init
