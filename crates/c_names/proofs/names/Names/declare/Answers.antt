use Rattle.std.proofs.Common.{Some, ap, sym, subst, ◌∙◌}
use Rattle.c_names.specs.declared.names.Entry.{Entry}
use Rattle.c_names.specs.Kept.{IsKept, Sets, told_by}
use Rattle.c_names.proofs.Layers.{kept-push}
use Rattle.c_names.proofs.names.Names.declare.Goals as goal

pub invariant_of-self-in-Ok : goal.invariant_of-self-in-Ok
invariant_of-self-in-Ok c =
    let old = told_by c.self.inside.latest in
    let new = told_by c.set.new.latest in
    let name = sym c.in_ok-from_bytes.ensures in
    let entry : Entry = record {
      declared = record { name = c.in_ok-from_bytes.field-0; is_typedef = c.args.is_typedef };
      hidden = c.in_ok-hidden.hidden;
    } in
    subst (IsKept new) (sym c.in-Ok.ensures.items)
    (kept-push old new c.self.inside.entries.items entry c.self.invariant (c.in_ok-hidden.ensures.hidden ∙ ap old name)
    (subst (λ n. Sets old n (Some c.args.is_typedef) new) name c.in_ok-hidden.ensures.ok))
