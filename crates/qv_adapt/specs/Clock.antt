-- The trap that the clock answers, beside those of a registry.
use Rattle.std.specs.Prelude.{refl, replicate}
use Rattle.trap_registry.specs.Registry.{with_trap}
use Rattle.qv_outside.specs.Hosts.{Table}
use Rattle.qv_outside.specs.declared.signature.Kind.TheVariants.{Int}
use Rattle.qv_outside.specs.declared.signature.Sig.{Sig}

-- a trap without arguments
abbrev pub clock_sig : Sig
clock_sig = record { count = 0; kinds = replicate 14 Int; well_formed = refl }

-- with a trap 2 of the clock in place of any other
abbrev pub with_clock : Table → Table
with_clock table = with_trap table 2 clock_sig
