use Rattle.std.proofs.Common.{◌-◌}
use Rattle.c_tok.specs.declared.mark.Mark.TheVariants as m
use Rattle.c_tree.specs.Heights as heights
use Rattle.c_tree.specs.Heights.{Below}
use Rattle.c_decl.specs.Expressions as spec
use Rattle.c_decl.specs.Input.{sees}
use Rattle.c_decl.specs.Nests.{parts_of}
use Rattle.c_expr.proofs.Loops.{Turns}
use Rattle.c_expr.proofs.exprs.Exprs.commas.Given as goal

abbrev pub invariant-loop-turn : goal.invariant-loop-turn
invariant-loop-turn g l = record {
  turns : Turns (λ _. sees m.Comma) (spec.comma_next l.self.mode (parts_of l.self.mode l.self.room) l.self.room) l.fn.left l.fn.cursor (l._turn-end - l._turn) l.left l.cursor;
  low : Below l.left.height (heights.raise heights.expression l.self.room);
}
