use Rattle.std.proofs.Common.{ap, sym, ◌∙◌}
use Rattle.std.specs.Prelude.{option_and_then, slice_get}
use Rattle.c_type.specs.Kept.{offsets_of}
use Rattle.c_type.specs.Layout.{offset}
use Rattle.c_type.specs.View.{tags_of}
use Rattle.c_type.proofs.Grown.{offset-kept}
use Rattle.c_type.proofs.tags.Tags.offset.Goals as goal

pub returns : goal.returns
returns c =
    c.offset_in.ensures
    ∙ ap (λ es. option_and_then (λ offsets. slice_get offsets c.args.member) (offsets_of (slice_get es c.args.tag))) c.as_slice.ensures.value
    ∙ sym (offset-kept c.self.inside.entries.items c.self.invariant c.args.tag c.args.member)
    ∙ ap (λ tags. offset (tags_of tags) c.args.tag c.args.member) c.self.view_is
