use Rattle.std.proofs.Common.{◌≡◌, ap, sym, ◌∙◌, None}
use Rattle.std.specs.Option.{option_copied}
use Rattle.pp_macro.specs.Macros as spec
use Rattle.pp_macro.proofs.Tables.{defines}
use Rattle.pp_macro.proofs.table.MacroTable.define.Goals as goal

pub returns-clause-ok : goal.returns-clause-ok
returns-clause-ok c =
    let none : spec.find c.args.self.now c.args.new.name ≡ None = ap (spec.find c.args.self.now) (sym c.bytes.ensures) ∙ sym c.find.ensures ∙ ap option_copied c.in_default.is in
    c.in_ok-add.ensures.ok ∙ ap (λ t. spec.set_in t c.args.new) c.self.view_is ∙ sym (defines c.args.self.now c.args.new none)
