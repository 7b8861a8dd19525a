use Rattle.std.proofs.Common.{Some, None, ap, ◌∙◌}
use Rattle.std.specs.FinMap as map
use Rattle.indexmap.specs.IndexMap.{get}
use Rattle.asm_place.proofs.Tables.{get-in_table}
use Rattle.asm_place.specs.Symbols.{Key, key_of, same_owner}
use Rattle.asm_place.proofs.symbols.Symbols.find.Goals as goal

pub returns-in_err-table : goal.returns-in_err-table
returns-in_err-table c =
    let key : Key = key_of c.args.file c.args.name.now in
    c.from_residual.ensures
    ∙ get-in_table c.self.inside.tables c.self.invariant key None (c.in_err-table.ensures.value ∙ ap (get same_owner c.self.inside.tables) c.owner.ensures)
    ∙ ap (λ m. map.get m key) c.self.view_is

pub returns : goal.returns
returns c =
    let key : Key = key_of c.args.file c.args.name.now in
    c.copied.ensures ∙ c.get-2.ensures.value
    ∙ get-in_table c.self.inside.tables c.self.invariant key (Some c.in_ok-table.table.now) (c.in_ok-table.ensures.value ∙ ap (get same_owner c.self.inside.tables) c.owner.ensures)
    ∙ ap (λ m. map.get m key) c.self.view_is
