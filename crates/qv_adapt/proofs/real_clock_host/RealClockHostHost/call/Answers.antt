use Rattle.std.proofs.Common.{Option, subst}
use Rattle.std.specs.Prelude.{IsSomeAnd}
use Rattle.qv_adapt.proofs.Clocked.{elsewhere}
use Rattle.qv_outside.specs.Hosts.{HasShape}
use Rattle.qv_outside.specs.declared.signature.Sig.{Sig}
use Rattle.trap_registry.specs.Registry.{table_of}
use Rattle.qv_adapt.proofs.real_clock_host.RealClockHostHost.call.Goals as goal

pub call-requires-clause-shape : goal.call-requires-clause-shape
call-requires-clause-shape g c =
    let P : Option Sig → Type 0 = λ o. IsSomeAnd o (HasShape c.args.call.now) in
    subst P (elsewhere (table_of c.args.self.now.registry) c.args.call.now.number c.if-call-eq-MILLISECONDS.false) c.requires.shape
