use Rattle.std.proofs.Common.{ap, ◌∙◌}
use Rattle.std.specs.Ordering.{nat_cmp}
use Rattle.std.specs.Cmp.{nat_cmp_total}
use Rattle.std.specs.FinMap as map
use Rattle.std.specs.FinMap.{get-from_entries}
use Rattle.qv_outside.specs.Hosts.{Table, sig_of}
use Rattle.qv_outside.proofs.tests.follows_its_script.Goals as goal

pub loop-bytes-init : goal.loop-bytes-init
loop-bytes-init g c =
    ap (λ (t : Table). sig_of t 2) c.in_ok-host.ensures.table
    ∙ get-from_entries nat_cmp_total c.in_ok-sigs.sigs.items 2
    ∙ ap (map.find nat_cmp 2) c.in_ok-sigs.ensures.items
