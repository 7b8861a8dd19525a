-- A table of macros as its entries.
use Rattle.std.specs.Prelude.{ℕ, Bool, List, map, Option}
use Rattle.std.specs.Str.{bytes_eq}
use Rattle.std.specs.declared.vec.Vec.{Vec}
use Rattle.pp_macro.specs.declared.macros.Macro.{Macro}
use Rattle.pp_macro.specs.Macros.{Entry}

module _ {Y : Type 0} where
  abbrev pub same_key : Vec ℕ Y → Vec ℕ Y → Bool
  same_key a b = bytes_eq a.items b.items

  abbrev pub entry_of : Vec ℕ Y × Option Macro → Entry
  entry_of e = record { name = e.0.items; meaning = e.1 }

  -- the entries as contracts see them
  abbrev pub shown : List (Vec ℕ Y × Option Macro) → List Entry
  shown entries = map entry_of entries
