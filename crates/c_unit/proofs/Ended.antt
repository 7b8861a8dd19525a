-- What is within the room is given as it was read.
use Rattle.std.proofs.Common.{◌≡◌, List, Result, Ok, Err, refl, ap, subst, ◌∙◌}
use Rattle.std.specs.Prelude.{IfOk}
use Rattle.c_tree.specs.declared.height.Heights.{Heights}
use Rattle.c_tree.specs.declared.height.Tall.{Tall}
use Rattle.c_tree.specs.Heights.{Below}
use Rattle.c_tree.specs.declared.stmt.External.{External}
use Rattle.c_decl.specs.declared.fault.Halt.{Halt}
use Rattle.c_decl.specs.declared.kind.Mode.TheVariants.{Whole}
use Rattle.c_decl.specs.Input.{Input, Outcome, Reads, and_then}
use Rattle.c_decl.specs.Nests.{parts_of}
use Rattle.c_decl.specs.Reading.{ended, parse, read}
use Rattle.c_decl.specs.Statements.{unit}
use Rattle.c_decl.proofs.Room.{below_is}

pub ended_is : {X : Type 0} (room : Heights) (x : Tall X) (i : Input) → Below x.height room → ended room x i ≡ Ok (x, i)
unfolding ended
ended_is room x i b = rw (below_is x.height room b) refl

at_room : (room : Heights) (i j : Input) (r : Result (Tall (List External)) Halt) → Reads (unit Whole (parts_of Whole room) room i) r j → IfOk r (λ x. Below x.height room) → Reads (parse room i) r j
unfolding parse read
at_room room i j (Ok x) reads low = ap (λ (o : Outcome (Tall (List External))). and_then o (ended room)) reads ∙ ended_is room x j low
at_room room i j (Err e) reads low = λ other. ap (λ (o : Outcome (Tall (List External))). and_then o (ended room)) (reads other)

pub parsed : (room l : Heights) (i j : Input) (r : Result (Tall (List External)) Halt) → l ≡ room → Reads (unit Whole (parts_of Whole l) l i) r j
    → IfOk r (λ x. Below x.height l) → Reads (parse room i) r j
parsed room l i j r e reads low = subst (λ (z : Heights). Reads (parse z i) r j) e (at_room l i j r reads low)
