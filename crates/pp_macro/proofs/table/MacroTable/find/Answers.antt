use Rattle.std.proofs.Common.{ap, sym, ◌∙◌}
use Rattle.pp_macro.specs.Macros as spec
use Rattle.pp_macro.proofs.Tables.{find-shown, meaning_in}
use Rattle.pp_macro.proofs.table.MacroTable.find.Goals as goal

pub returns-in-Some : goal.returns-in-Some
returns-in-Some c =
    c.as_ref.ensures.value ∙ ap meaning_in c.in-Some.ensures.value
    ∙ sym (find-shown c.self.inside.macros.entries c.args.name.now) ∙ ap (λ t. spec.find t c.args.name.now) c.self.view_is

pub returns-in-None : goal.returns-in-None
returns-in-None c =
    ap meaning_in c.in-None.ensures.value
    ∙ sym (find-shown c.self.inside.macros.entries c.args.name.now) ∙ ap (λ t. spec.find t c.args.name.now) c.self.view_is
