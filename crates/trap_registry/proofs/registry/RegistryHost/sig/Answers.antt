use Rattle.std.proofs.Common.{ap, sym, ◌∙◌}
use Rattle.std.specs.Option.{option_map}
use Rattle.trap_registry.proofs.Tables.{found-parts}
use Rattle.trap_registry.proofs.registry.RegistryHost.sig.Goals as goal

pub returns : goal.returns
returns g c = ap (option_map (λ r. r.now.sig)) (sym c.in_ok-registered.was) ∙ found-parts (λ r. r.sig) c.args.self.now.handlers c.args.number c.get.result c.get.ensures.value

pub returns-in_err-registered : goal.returns-in_err-registered
returns-in_err-registered g c = c.from_residual.ensures ∙ ap (option_map (λ r. r.now.sig)) (sym c.in_err-registered.was) ∙ found-parts (λ r. r.sig) c.args.self.now.handlers c.args.number c.get.result c.get.ensures.value
