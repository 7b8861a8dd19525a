use Rattle.std.proofs.Common.{◌≡◌, ◌≤◌, drop}
use Rattle.pp_macro.specs.Calls.{each}
use Rattle.pp_macro.specs.Expand.{expand_in}
use Rattle.pp_macro.proofs.Eaches.{with_done}
use Rattle.pp_macro.proofs.expander.Expander.each.Given as goal

abbrev pub invariant-loop-at : goal.invariant-loop-at
invariant-loop-at g l =
    (each (expand_in l.self.table.now l.self.names.now l.self.depth) l.place l.body 0 l.fn.count l.args
    ≡ with_done l.all (each (expand_in l.self.table.now l.self.names.now l.self.depth) l.place l.body l.at l.count (drop l.at l.args)))
    × (l.fn.count ≤ l.count)
