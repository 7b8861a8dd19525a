use Rattle.std.proofs.Common.{◌≡◌, ap, ◌∙◌, rules}
use Rattle.pp_macro.specs.Shown.{shown}
use Rattle.pp_macro.proofs.Tables.{set-shown}
use Rattle.pp_macro.proofs.table.add.Goals as goal

pub returns-clause-ok : goal.returns-clause-ok
returns-clause-ok c =
    let bytes : c.in_ok-name.name.items ≡ c.args.new.name = search rules in
    ap shown c.in_ok-insert.ensures.entries ∙ set-shown c.args.macros.now.entries c.in_ok-name.name c.args.new bytes
