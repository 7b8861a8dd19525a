use Rattle.std.proofs.Common.{rules, sym, ◌∙◌}
use Rattle.std.specs.Ordering.{nat_cmp}
use Rattle.std.specs.Cmp.{nat_cmp_total}
use Rattle.std.specs.FinMap.{get-from_entries}
use Rattle.qv_outside.proofs.Search.{found_at, not_found}
use Rattle.qv_outside.proofs.sigs.find.Goals as goal

pub returns-then-key-number : goal.returns-then-key-number
returns-then-key-number c =
    found_at nat_cmp c.args.number c.args.sigs.now c.loop-key.key-index c.loop-key-item.result c.loop-key-test.true c.loop-key-item.is (search rules) c.loop-key.invariant
    ∙ sym (get-from_entries nat_cmp_total _ _)

pub returns : goal.returns
returns c =
    not_found nat_cmp c.args.number c.args.sigs.now c.loop-key.key-index c.loop-key-test.false c.loop-key.invariant
    ∙ sym (get-from_entries nat_cmp_total _ _)
