-- What the table of names says of a name.
use Rattle.std.specs.Prelude.{ℕ, List, Option, Some, None, option_map, slice_get}
use Rattle.std.specs.FinMap as map
use Rattle.asm_place.specs.Symbols.{key_of}
use Rattle.asm_place.specs.declared.address.Address.{Address}
use Rattle.asm_link.specs.Held.{noted_at}
use Rattle.asm_link.specs.declared.known.Known.{Known}
use Rattle.asm_link.specs.declared.names.Names.{Names}
use Rattle.asm_link.specs.declared.noted.Noted.{Noted}

-- the definition with this number
abbrev pub numbered : List Noted → Option ℕ → Option Noted
numbered ds None = None
numbered ds (Some n) = slice_get ds n

-- what is known of a name in a file, where labels that wait have this address
abbrev pub lookup : Address → Names → ℕ → List ℕ → Option Known
lookup address names file name = option_map (noted_at address) (numbered names.notes.items (map.get names.symbols (key_of file name)))
