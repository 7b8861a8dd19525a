use Rattle.std.proofs.Common.{refl, arith}
use Rattle.qv_outside.specs.Hosts.{event_of}
use Rattle.trap_registry.proofs.Told.{asked_none, replied_none, not_failed}
use Rattle.qv_adapt.proofs.real_clock_host.RealClockHostHost.TheImpl.Goals as goal

pub call-tells : goal.call-tells
call-tells g c = record {
  asked = asked_none (event_of c.args.call.now) _ c.ensures.never;
  replied = replied_none c.new.out.now _ c.ensures.never;
  used = c.ensures.used;
  kept = refl;
  table = c.ensures.table;
  later = omega arith;
  cause = not_failed _ _ c.ensures.never;
}
