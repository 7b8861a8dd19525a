use Rattle.std.proofs.Common.{is_some, ap, subst, ◌∙◌}
use Rattle.c_names.specs.Kept.{IsKept, Sets, told_by}
use Rattle.c_names.proofs.Layers.{kept-pop, known-pop}
use Rattle.c_names.proofs.names.Names.forget_latest.Goals as goal

pub put_back-requires : goal.put_back-requires
put_back-requires c =
    let old = told_by c.self.inside.latest in
    ap is_some (ap old c.bytes.ensures ∙ known-pop old old c.pop.new.self.items c.in-Some.entry (subst (IsKept old) c.in-Some.ensures.items c.self.invariant))

pub invariant_of-self : goal.invariant_of-self
invariant_of-self c =
    let old = told_by c.self.inside.latest in
    let new = told_by c.put_back.new.latest in
    kept-pop old new c.pop.new.self.items c.in-Some.entry (subst (IsKept old) c.in-Some.ensures.items c.self.invariant)
    (subst (λ name. Sets old name c.in-Some.entry.hidden new) c.bytes.ensures c.put_back.ensures)
