use Rattle.std.proofs.Common.{◌≡◌, ◌-◌, ◌≤◌}
use Rattle.pp_macro.specs.Expand.{expand_in, walk, with_front, within}
use Rattle.pp_macro.proofs.expander.Expander.walk.Given as goal

abbrev pub invariant-loop-unread : goal.invariant-loop-unread
invariant-loop-unread g l =
    (walk l.self.table.now l.self.names.now (expand_in l.self.table.now l.self.names.now l.self.depth) (1000000 - l.fn.count) l.fn.count (within l.fn.outer l.tokens)
    ≡ with_front l.out (walk l.self.table.now l.self.names.now (expand_in l.self.table.now l.self.names.now l.self.depth) (1000000 - l.count) l.count l.unread))
    × (l.fn.count ≤ l.count)

abbrev pub decreases-loop-unread : goal.decreases-loop-unread
decreases-loop-unread g l = 1000000 - l.count
