use Rattle.std.proofs.Common.{ap, sym, subst}
use Rattle.c_type.specs.declared.tags.Entry.{Entry}
use Rattle.c_type.specs.Kept.{IsKept}
use Rattle.c_type.proofs.Grown.{declared}
use Rattle.c_type.proofs.tags.Tags.declare.Goals as goal

pub invariant_of-self-2 : goal.invariant_of-self-2
invariant_of-self-2 c = subst IsKept (sym c.in_ok-push.ensures.items)
    (declared c.incomplete.result (ap (λ (e : Entry). e.plan) c.incomplete.ensures) (ap (λ (e : Entry). e.tag.members) c.incomplete.ensures)
    c.self.inside.entries.items c.self.invariant)
