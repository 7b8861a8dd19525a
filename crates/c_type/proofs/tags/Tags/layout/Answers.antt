use Rattle.std.proofs.Common.{ap, sym, ◌∙◌}
use Rattle.std.specs.Prelude.{option_map}
use Rattle.c_type.specs.Kept.{kept}
use Rattle.c_type.specs.Layout.{layout_in, layout_of, told}
use Rattle.c_type.specs.View.{tags_of, type_of}
use Rattle.c_type.proofs.Grown.{deeper-kept, records-kept}
use Rattle.c_type.proofs.tags.Tags.layout.Goals as goal

pub returns-clause-exact : goal.returns-clause-exact
returns-clause-exact c =
    c.layout_in.ensures
    ∙ ap (λ es. option_map told (layout_of (kept es) (type_of c.args.t.now))) c.as_slice.ensures.value
    ∙ sym (ap (λ r. option_map told (layout_of r (type_of c.args.t.now))) (records-kept c.self.inside.entries.items c.self.invariant))
    ∙ ap (λ tags. option_map told (layout_in (tags_of tags) (type_of c.args.t.now))) c.self.view_is

pub returns-clause-deeper : goal.returns-clause-deeper
returns-clause-deeper c = deeper-kept c.self.inside.entries.items c.self.invariant c.args.self.now c.self.view_is
