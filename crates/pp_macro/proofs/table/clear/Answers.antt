use Rattle.std.proofs.Common.{◌≡◌, ap, sym, ◌∙◌}
use Rattle.std.specs.Map.{set_value}
use Rattle.pp_macro.specs.Shown.{shown}
use Rattle.pp_macro.proofs.Tables.{cleared-shown, is_name, kept-shown}
use Rattle.pp_macro.proofs.table.clear.Goals as goal

pub returns-in-Some-clause-cleared : goal.returns-in-Some-clause-cleared
returns-in-Some-clause-cleared c =
    let written : (c.get_mut.follows.lender c.take.new.self).entries ≡ set_value (is_name c.args.name.now) c.args.macros.now.entries c.take.new.self = (c.get_mut.follows.holds c.take.new.self).0 in
    ap shown written ∙ ap (λ w. shown (set_value (is_name c.args.name.now) c.args.macros.now.entries w)) c.take.ensures.after
    ∙ cleared-shown c.args.macros.now.entries c.args.name.now

pub returns-in_default-clause-cleared : goal.returns-in_default-clause-cleared
returns-in_default-clause-cleared c =
    ap (λ m. shown m.entries) c.get_mut.follows.holds-at-none
    ∙ kept-shown c.args.macros.now.entries c.args.name.now (sym c.in_default.ensures.value)
