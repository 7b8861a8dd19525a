use Rattle.std.proofs.Common.{◌-◌}
use Rattle.std.specs.Prelude.{nat_lt}
use Rattle.c_decl.specs.Input.{left}
use Rattle.c_decl.specs.Entries.{then_one}
use Rattle.c_tree.specs.Heights.{Below}
use Rattle.c_decl.specs.declared.kind.Mode.TheVariants.{Whole}
use Rattle.c_decl.specs.Nests.{parts_of}
use Rattle.c_decl.specs.Statements as spec
use Rattle.c_expr.proofs.Loops.{Turns}
use Rattle.c_unit.proofs.units.more_externals.Given as goal

abbrev pub invariant-loop-turn : goal.invariant-loop-turn
invariant-loop-turn l = record {
  turns : Turns (λ _ i. nat_lt 0 (left i)) (then_one (spec.external Whole (parts_of Whole l.room) l.room)) l.fn.row l.fn.cursor (l._turn-end - l._turn) l.row l.cursor;
  low : Below l.row.height l.room;
}
