-- What is known of the parts that a rule reads.
use Rattle.std.proofs.Common.{◌≡◌, ℕ, ◌<◌, Bool, true, false, List, ◌++◌, length}
use Rattle.c_tok.specs.declared.mark.Mark.TheVariants as m
use Rattle.c_tree.specs.declared.at.At.{At}
use Rattle.c_tree.specs.declared.height.Heights.{Heights}
use Rattle.c_tree.specs.declared.height.Tall.{Tall}
use Rattle.c_decl.specs.declared.kind.DeclKind.{DeclKind}
use Rattle.c_decl.specs.Grammar.{Tree}
use Rattle.c_decl.specs.Tokens.{Token, name, mark}
use Rattle.c_decl.specs.State.{State, is_type}
use Rattle.c_decl.specs.Input.{Parser}
use Rattle.c_decl.specs.Entries as e
use Rattle.c_decl.specs.Entries.{Entry, phrase_of}
use Rattle.c_decl.proofs.Runs.{at}
use Rattle.c_decl.proofs.Steady.{Fork, Steady, Passes}

pub record Parts (F : Fork) (part : (c : Entry) → Parser (Tall (Tree (phrase_of c)))) (room : Heights) : Type 0 where
  pub comma : Steady F false (part e.comma)
  pub assignment : Steady F false (part e.assignment)
  pub conditional : Steady F false (part e.conditional)
  pub cast : Steady F false (part e.cast)
  pub unary : Steady F false (part e.unary)
  pub init : Steady F false (part e.init)
  pub binary : (n : ℕ) → Steady F false (part (e.binary n))
  pub span : (inside : Bool) → Steady F false (part (e.span inside))
  pub members : Steady F false (part e.members)
  pub declarator : (kind : DeclKind) (typed : Bool) → Steady F false (part (e.declarator kind typed))
  pub direct : (kind : DeclKind) (typed : Bool) → Steady F false (part (e.direct kind typed))
  -- what has statements among its parts needs room for expressions; it takes a token
  pub statement : 0 < room.expression → Steady F true (part e.statement)
  pub behind_label : 0 < room.expression → (a : At) (n : List ℕ) → Steady F true (part (e.behind_label a n))
  pub block : 0 < room.expression → Steady F true (part e.block)
  -- an expression takes the name that it begins with, and a unary expression the parenthesis
  pub names : (n : List ℕ) (p : At) (rest : List Token) (S : State) → is_type S n ≡ false → 0 < room.expression
      → Passes (length rest) (part e.comma (at (name p n ++ rest) S))
  pub parens : (p : At) (rest : List Token) (S : State) → 0 < room.expression
      → Passes (length rest) (part e.unary (at (mark p m.OpenParen ++ rest) S))
