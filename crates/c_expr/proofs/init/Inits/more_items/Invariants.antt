use Rattle.std.proofs.Common.{◌-◌}
use Rattle.c_tok.specs.declared.mark.Mark.TheVariants as m
use Rattle.c_tree.specs.Heights.{Below}
use Rattle.c_decl.specs.Entries as entries
use Rattle.c_decl.specs.Nests.{parts_of}
use Rattle.c_expr.proofs.Loops.{Turns}
use Rattle.c_expr.proofs.init.Inits.more_items.Given as goal

abbrev pub invariant-loop-turn : goal.invariant-loop-turn
invariant-loop-turn g l = record {
  turns : Turns (λ _. entries.comma_before m.CloseBrace) (entries.comma_then (parts_of l.self.mode l.self.room entries.init)) l.fn.left l.fn.cursor (l._turn-end - l._turn) l.left l.cursor;
  low : Below l.left.height l.self.room;
}
