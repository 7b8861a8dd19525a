use Rattle.std.proofs.Common.{◌-◌}
use Rattle.c_tok.specs.declared.mark.Mark.TheVariants as m
use Rattle.c_tree.specs.Heights.{Below}
use Rattle.c_decl.specs.declared.kind.Mode.TheVariants.{Whole}
use Rattle.c_decl.specs.Entries.{comma_then}
use Rattle.c_decl.specs.Input.{sees}
use Rattle.c_decl.specs.Nests.{parts_of}
use Rattle.c_decl.specs.Statements as spec
use Rattle.c_expr.proofs.Loops.{Turns}
use Rattle.c_unit.proofs.declarations.more_declarators.Given as goal

abbrev pub invariant-loop-turn : goal.invariant-loop-turn
invariant-loop-turn l = record {
  turns : Turns (λ _. sees m.Comma) (comma_then (spec.init_declarator Whole (parts_of Whole l.room) l.room l.typed l.is_typedef)) l.fn.row l.fn.cursor (l._turn-end - l._turn) l.row l.cursor;
  low : Below l.row.height l.room;
}
