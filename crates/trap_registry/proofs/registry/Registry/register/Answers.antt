use Rattle.trap_registry.proofs.Tables.{parts-insert}
use Rattle.trap_registry.proofs.registry.Registry.register.Goals as goal

pub returns-in-Ok-clause-grows : goal.returns-in-Ok-clause-grows
returns-in-Ok-clause-grows g c = parts-insert (λ h. h.sig) c.args.self.now.handlers c.insert.new.self _ _ c.in-Ok.ensures.updates
