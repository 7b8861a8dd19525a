use Rattle.qv_outside.specs.Hosts.{HasShape}
use Rattle.trap_registry.proofs.Tables.{has_value, value_meets}
use Rattle.trap_registry.proofs.registry.RegistryHost.call.Goals as goal

pub index-registered-requires : goal.index-registered-requires
index-registered-requires g c = has_value (λ h. h.sig) c.args.self.now.handlers c.args.call.now.number (HasShape c.args.call.now) c.requires.shape

pub answer-requires-clause-shape : goal.answer-requires-clause-shape
answer-requires-clause-shape g c = value_meets (λ h. h.sig) c.args.self.now.handlers c.args.call.now.number c.index-registered.result.now (HasShape c.args.call.now) c.requires.shape c.index-registered.ensures
