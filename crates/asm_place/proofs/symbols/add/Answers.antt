use Rattle.std.proofs.Common.{◌≡◌, unwrap_or, ap, ◌∙◌, rules}
use Rattle.std.specs.FinMap as map
use Rattle.indexmap.specs.Entry.{map_with_value}
use Rattle.asm_place.proofs.Tables.{map_of-added, map_of-kept, same-map_of, same-unique}
use Rattle.asm_place.specs.Symbols.{map_of}
use Rattle.asm_place.proofs.symbols.add.Goals as goal

pub returns-clause-unique : goal.returns-clause-unique
returns-clause-unique c =
    let unique = c.in_ok-tables.ensures.update.2 c.insert.new.self in
    search (rules, same-unique)

pub returns-in_err-insert-clause-unique : goal.returns-in_err-insert-clause-unique
returns-in_err-insert-clause-unique c =
    let unique = c.in_ok-tables.ensures.update.2 c.insert.new.self in
    search (rules, same-unique)

pub returns-in_err-insert-clause-err : goal.returns-in_err-insert-clause-err
returns-in_err-insert-clause-err c =
    let table = c.insert.new.self in
    let update = c.in_ok-tables.ensures.update in
    let was = c.or_insert.ensures.value ∙ ap (λ o. unwrap_or o c.new.result) c.in_ok-tables.ensures.value in
    let kept : map_of (map_with_value c.in_ok-tables.field-0 table) ≡ map_of c.args.tables.now =
    map_of-kept c.args.tables.now (map_with_value c.in_ok-tables.field-0 table) c.requires.unique (update.2 table) c.args.owner c.new.result c.or_insert.result.now table c.new.ensures.empty was (update.0 table).0
    c.in_err-insert.ensures.err in
    search (rules, same-map_of)

pub returns-clause-ok : goal.returns-clause-ok
returns-clause-ok c =
    let table = c.insert.new.self in
    let update = c.in_ok-tables.ensures.update in
    let was = c.or_insert.ensures.value ∙ ap (λ o. unwrap_or o c.new.result) c.in_ok-tables.ensures.value in
    let bytes : c.in_ok-name.name.items ≡ c.args.name.now = search rules in
    let added : map_of (map_with_value c.in_ok-tables.field-0 table) ≡ map.insert (map_of c.args.tables.now) (c.args.owner, c.args.name.now) c.args.value =
    map_of-added c.args.tables.now (map_with_value c.in_ok-tables.field-0 table) c.requires.unique (update.2 table) c.args.owner c.new.result c.or_insert.result.now table c.new.ensures.empty was (update.0 table).0
    c.in_ok-name.name c.args.value c.in_ok-insert.ensures.entries (ap (λ name. map.get (map_of c.args.tables.now) (c.args.owner, name)) bytes ∙ c.requires.absent)
    ∙ ap (λ name. map.insert (map_of c.args.tables.now) (c.args.owner, name) c.args.value) bytes in
    search (rules, same-map_of)
