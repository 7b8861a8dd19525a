use Rattle.std.proofs.Common.{◌≡◌, ap, sym, ◌∙◌}
use Rattle.std.specs.Map.{lookup, set_value}
use Rattle.std.specs.Option.{option_flatten}
use Rattle.std.specs.Str.{bytes_eq}
use Rattle.c_names.proofs.Tables.{flat, is_name, lookup-written}
use Rattle.c_names.proofs.names.put_back.Goals as goal

pub returns-in-Some : goal.returns-in-Some
returns-in-Some c other =
    let entries = c.args.latest.now.entries in
    let written : (c.get_mut.follows.lender c.args.hidden).entries ≡ set_value (is_name c.args.name.now) entries c.args.hidden = (c.get_mut.follows.holds c.args.hidden).0 in
    ap (λ es. option_flatten (lookup (is_name other) es)) written
    ∙ ap option_flatten (lookup-written other entries c.args.name.now c.in-Some.slot.now c.args.hidden (sym c.in-Some.ensures.value))
    ∙ flat (bytes_eq other c.args.name.now) c.args.hidden (lookup (is_name other) entries)
