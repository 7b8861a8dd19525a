use Rattle.std.proofs.Common.{Some, ap, sym, ◌∙◌}
use Rattle.qv_adapt.specs.Clock.{with_clock}
use Rattle.qv_adapt.proofs.Clocked.{at_clock, elsewhere, is_clock_sig}
use Rattle.qv_outside.specs.Hosts.{sig_of}
use Rattle.trap_registry.specs.Registry.{table_of}
use Rattle.qv_adapt.proofs.real_clock_host.RealClockHostHost.sig.Goals as goal

pub returns-then-number-eq-MILLISECONDS : goal.returns-then-number-eq-MILLISECONDS
returns-then-number-eq-MILLISECONDS g c =
    let table = table_of c.args.self.now.registry in
    ap Some (is_clock_sig c.new.result c.new.ensures.count c.new.ensures.kinds)
    ∙ sym (ap (λ n. sig_of (with_clock table) n) c.if-number-eq-MILLISECONDS.true ∙ at_clock table)

pub returns-else-number-eq-MILLISECONDS : goal.returns-else-number-eq-MILLISECONDS
returns-else-number-eq-MILLISECONDS g c =
    c.sig.ensures ∙ sym (elsewhere (table_of c.args.self.now.registry) c.args.number c.if-number-eq-MILLISECONDS.false)
