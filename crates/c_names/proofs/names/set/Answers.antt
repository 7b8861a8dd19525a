use Rattle.std.proofs.Common.{◌≡◌, Some, cond, ap, ◌∙◌, rules}
use Rattle.std.specs.Map.{lookup}
use Rattle.std.specs.Option.{option_flatten}
use Rattle.std.specs.Str.{bytes_eq}
use Rattle.c_names.specs.Kept.{told_by}
use Rattle.c_names.proofs.Tables.{flat, is_name, lookup-inserted}
use Rattle.c_names.proofs.names.set.Goals as goal

pub returns-clause-ok : goal.returns-clause-ok
returns-clause-ok c other =
    let key = c.in_ok-name.name in
    let says = Some c.args.is_typedef in
    let entries = c.args.latest.now.entries in
    let bytes : key.items ≡ c.args.name.now = search rules in
    ap (λ es. option_flatten (lookup (is_name other) es)) c.in_ok-hidden.ensures.entries
    ∙ ap option_flatten (lookup-inserted other entries key says)
    ∙ flat (bytes_eq other key.items) says (lookup (is_name other) entries)
    ∙ ap (λ name. cond (bytes_eq other name) says (told_by c.args.latest.now other)) bytes
