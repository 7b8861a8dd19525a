-- What is known of a name while the lines are read.
use Rattle.std.specs.Prelude.{Bool, true, false}
use Rattle.asm_place.specs.declared.address.Address.{Address}
use Rattle.asm_link.specs.declared.known.Known.{Known}
use Rattle.asm_link.specs.declared.noted.Held.{Held}
use Rattle.asm_link.specs.declared.noted.Held.TheVariants.{Settled, Waiting}
use Rattle.asm_link.specs.declared.noted.Noted.{Noted}

-- a label that waits has this address, once it is settled
abbrev pub held_at : Address → Held → Address
held_at address (Settled other) = other
held_at address Waiting = address

abbrev pub noted_at : Address → Noted → Known
noted_at address n = record { at = n.at; address = held_at address n.held }

-- labels that wait are settled at this address
abbrev pub settle : Address → Held → Held
settle address (Settled other) = Settled other
settle address Waiting = Settled address

abbrev pub note_settled : Address → Noted → Noted
note_settled address n = record { at = n.at; held = settle address n.held }

abbrev pub is_fixed : Held → Bool
is_fixed (Settled address) = true
is_fixed Waiting = false

abbrev pub is_settled : Noted → Bool
is_settled n = is_fixed n.held
