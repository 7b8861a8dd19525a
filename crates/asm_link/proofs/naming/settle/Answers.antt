use Rattle.std.proofs.Common.{rules, ◌≡◌, ◌++◌, ap, ◌∙◌, arith, drop, length, take, List}
use Rattle.std.specs.Prelude.{map}
use Rattle.std.specs.List.{list_all}
use Rattle.std.proofs.lemmas.List.{length-map, take-map}
use Rattle.asm_link.specs.Held.{is_settled, note_settled}
use Rattle.asm_link.specs.declared.noted.Noted.{Noted}
use Rattle.asm_link.proofs.Noting.{all_settled, written_over}
use Rattle.asm_link.proofs.naming.settle.Goals as goal

pub invariant_of-names : goal.invariant_of-names
invariant_of-names c =
    let items : List Noted = c.args.names.now.notes.items in
    let new : List Noted = c.settle_from.new.notes in
    let is : new ≡ map (note_settled c.args.address) items = c.settle_from.ensures ∙ ap (map (note_settled c.args.address)) c.deref_mut.ensures.value in
    let long : length new ≡ length items = ap length is ∙ length-map items (note_settled c.args.address) in
    let whole : take c.args.names.now.notes.len (new ++ drop (length new) items) ≡ new = written_over c.args.names.now.notes.len new items (search rules) long in
    rw whole (record {
      numbered = λ key n h. omega (arith, long, c.args.names.now.numbered key n h);
      settled = ap (λ xs. list_all is_settled (take c.len-names.result xs)) is ∙ ap (list_all is_settled) (take-map (note_settled c.args.address) c.len-names.result items) ∙ all_settled c.args.address (take c.len-names.result items);
      within = omega (arith, c.len-names.ensures);
    })
