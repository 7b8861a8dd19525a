use Rattle.std.proofs.Common.{subst}
use Rattle.c_decl.specs.declared.kind.Mode.TheVariants.{Whole}
use Rattle.c_decl.specs.Entries.{body_comes}
use Rattle.c_decl.specs.Input.{looped}
use Rattle.c_decl.specs.Nests.{parts_of}
use Rattle.c_decl.specs.Statements as spec
use Rattle.c_unit.specs.declared.body.SoFar.{SoFar}
use Rattle.c_unit.specs.Body.{GoesOn, so_far}
use Rattle.c_unit.proofs.statements.Statements.all_items.Goals as goal

pub returns-clause-reads : goal.returns-clause-reads
returns-clause-reads g c =
    subst (λ (z : SoFar). GoesOn (looped (λ _. body_comes) (spec.item Whole (parts_of Whole c.args.self.now.room) c.args.self.now.room) (so_far z) c.args.cursor.now) c.items.result c.items.new.cursor)
    c.new.ensures c.items.ensures.reads
