use Rattle.std.proofs.Common.{false, unwrap_or, ap, ◌∙◌}
use Rattle.std.specs.Option.{option_flatten}
use Rattle.c_names.specs.Kept.{told_by}
use Rattle.c_names.specs.Names.{is_typedef_name}
use Rattle.c_names.proofs.Layers.{answer-is}
use Rattle.c_names.proofs.names.Names.is_typedef_name.Goals as goal

pub returns : goal.returns
returns c =
    c.unwrap_or.ensures ∙ ap (λ o. unwrap_or o false) (c.flatten.ensures ∙ ap option_flatten (c.copied.ensures ∙ c.get.ensures.value))
    ∙ answer-is (told_by c.self.inside.latest) c.self.inside.entries.items c.self.invariant c.args.name.now
    ∙ ap (λ declared. is_typedef_name declared c.args.name.now) c.self.view_is
