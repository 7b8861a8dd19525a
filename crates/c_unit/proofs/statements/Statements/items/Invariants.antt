use Rattle.std.proofs.Common.{◌-◌}
use Rattle.c_decl.specs.Entries.{body_comes}
use Rattle.c_unit.specs.Body.{so_far}
use Rattle.c_tree.specs.Heights.{Below}
use Rattle.c_decl.specs.declared.kind.Mode.TheVariants.{Whole}
use Rattle.c_decl.specs.Nests.{parts_of}
use Rattle.c_decl.specs.Statements as spec
use Rattle.c_expr.proofs.Loops.{Turns}
use Rattle.c_unit.proofs.statements.Statements.items.Given as goal

abbrev pub invariant-loop-turn : goal.invariant-loop-turn
invariant-loop-turn g l = record {
  turns : Turns (λ _. body_comes) (spec.item Whole (parts_of Whole l.self.room) l.self.room) (so_far l.fn.before) l.fn.cursor (l._turn-end - l._turn) (so_far l.before) l.cursor;
  low : Below l.before.height l.self.room;
}
