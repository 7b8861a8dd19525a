-- The traps that a registry answers, and which it does not take.
use Rattle.std.specs.Prelude.{◌≡◌, ℕ, ◌==◌, ◌||◌, Bool, nat_lt, map as list_map, Option, Some, None, if◌then◌else◌}
use Rattle.std.specs.Ordering.{nat_cmp}
use Rattle.std.specs.FinMap as map
use Rattle.std.specs.BTreeMap as tree
use Rattle.qv_outside.specs.Hosts.{Table}
use Rattle.qv_outside.specs.declared.signature.Sig.{Sig}
use Rattle.trap_registry.specs.declared.handler.Registered.{Registered}
use Rattle.trap_registry.specs.declared.registry.Registry.{Registry}
use Rattle.trap_registry.specs.declared.registry.UnregisteredKind.{UnregisteredKind}
use Rattle.trap_registry.specs.declared.registry.UnregisteredKind.TheVariants.{OutOfRange, Reserved, Twice, NoMemory}

module _ {X : Type 0} {F : X → Type 0} {g : _} where
  -- the signatures of the traps that it answers
  abbrev pub table_of : Registry X F g → Table
  table_of r = map.from_entries (list_map (λ e. (e.0, e.1.sig)) r.handlers.entries)

  -- what is registered with a number
  abbrev pub registered_at : Registry X F g → ℕ → Option (Registered X F g)
  registered_at r number = tree.get nat_cmp r.handlers number

-- the table with one trap more
abbrev pub with_trap : Table → ℕ → Sig → Table
with_trap table number sig = map.insert table number sig

-- the traps of the console and of the machine itself
abbrev pub is_reserved : ℕ → Bool
is_reserved number = number == 0 || number == 1 || number == 100 || number == 101 || number == 102

-- why a trap of this number is not taken beside these, if there is a reason; the first that holds
abbrev pub refusal : Table → ℕ → Option UnregisteredKind
refusal table number = if nat_lt 1023 number then Some OutOfRange else (if is_reserved number then Some Reserved else (if map.contains_key table number then Some Twice else None))

-- memory is refused only to a trap that would be taken
abbrev pub IsRefusedAs : Table → ℕ → UnregisteredKind → Type 0
IsRefusedAs table number NoMemory = refusal table number ≡ None
IsRefusedAs table number OutOfRange = refusal table number ≡ Some OutOfRange
IsRefusedAs table number Reserved = refusal table number ≡ Some Reserved
IsRefusedAs table number Twice = refusal table number ≡ Some Twice
