-- What the code keeps of the declared names.
use Rattle.std.specs.Prelude.{◌≡◌, ℕ, Bool, List, [], ◌∷◌, map, Option, Some, None, if◌then◌else◌}
use Rattle.std.specs.Map.{lookup}
use Rattle.std.specs.Option.{option_flatten}
use Rattle.std.specs.Str.{bytes_eq}
use Rattle.std.specs.declared.vec.Vec.{Vec}
use Rattle.indexmap.specs.IndexMap.{IndexMap}
use Rattle.c_names.specs.declared.names.Declared.{Declared}
use Rattle.c_names.specs.declared.names.Entry.{Entry}

-- the declarations as contracts see them
abbrev pub shown : List Entry → List Declared
shown entries = map (λ e. e.declared) entries

-- how names are declared as latest, None where they aren't
abbrev pub Latest : Type 0
Latest = List ℕ → Option Bool

abbrev pub no_name : Latest
no_name name = None

-- the same with a declaration more
abbrev pub with_declared : Latest → Declared → Latest
with_declared latest d name = if bytes_eq name d.name then Some d.is_typedef else latest name

-- the same with those of entries
abbrev pub with_all : Latest → List Entry → Latest
with_all latest [] = latest
with_all latest (e ∷ es) = with_all (with_declared latest e.declared) es

-- each entry has how its name was declared as latest before it
abbrev pub HideEarlier : Latest → List Entry → Type 0
HideEarlier latest [] = Unit {0}
HideEarlier latest (e ∷ es) = (e.hidden ≡ latest e.declared.name) × HideEarlier (with_declared latest e.declared) es

-- the entries have what they hide, and of names is said what the entries come to
pub record IsKept (latest : Latest) (entries : List Entry) : Type 0 where
  pub hide : HideEarlier no_name entries
  pub tells : (name : List ℕ) → latest name ≡ with_all no_name entries name

-- of one name something new is said, of all others what was said before
abbrev pub Sets : Latest → List ℕ → Option Bool → Latest → Type 0
Sets old name says new = (other : List ℕ) → new other ≡ (if bytes_eq other name then says else old other)

module _ {Y S : Type 0} where
  -- what a table says of a name
  abbrev pub told_by : IndexMap (Vec ℕ Y) (Option Bool) S → Latest
  told_by table name = option_flatten (lookup (λ k. bytes_eq name k.items) table.entries)
