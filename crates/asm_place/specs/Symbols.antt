-- Names with the numbers that they stand for.
use Rattle.std.specs.Prelude.{ℕ, Bool, false, nat_eq, ◌==◌, ◌&&◌, ◌||◌, not, List, [], ◌∷◌, Option, Some, None, map as list_map, if◌then◌else◌}
use Rattle.std.specs.Coded.{Coded, coded_list, coded_option, coded_ℕ, coded×}
use Rattle.std.specs.Cmp.Lexicographic.{slice_cmp}
use Rattle.std.specs.FinMap as map
use Rattle.std.specs.List.{flat_map}
use Rattle.std.specs.Option.{option_cmp, option_eq}
use Rattle.std.specs.Ordering.{nat_cmp, ordering_then}
use Rattle.std.specs.Str.{bytes_eq}
use Rattle.std.specs.declared.cmp.Ordering.{Ordering}
use Rattle.std.specs.declared.vec.Vec.{Vec}
use Rattle.indexmap.specs.IndexMap.{IndexMap}

-- a name that begins with $ belongs to its file
abbrev pub is_local : List ℕ → Bool
is_local [] = false
is_local (c ∷ cs) = c == 36

-- whether two names, each of a file, are one
abbrev pub same_name : ℕ → List ℕ → ℕ → List ℕ → Bool
same_name file name other_file other = bytes_eq name other && (not (is_local name) || file == other_file)

-- a name with the file that it belongs to, if it belongs to one
abbrev pub Key : Type 0
Key = Option ℕ × List ℕ

-- the file that a name in a file belongs to
abbrev pub owner : ℕ → List ℕ → Option ℕ
owner file name = if is_local name then Some file else None

abbrev pub key_of : ℕ → List ℕ → Key
key_of file name = (owner file name, name)

-- by the file, and then by the bytes of the name
abbrev pub key_order : Key → Key → Ordering
key_order a b = ordering_then (option_cmp nat_cmp a.0 b.0) (slice_cmp nat_cmp a.1 b.1)

abbrev pub SymbolMap : Type 0
SymbolMap = map.FinMap key_order ℕ

abbrev pub symbol_map_code : Coded SymbolMap
symbol_map_code = map.code (coded× (coded_option coded_ℕ) (coded_list coded_ℕ)) coded_ℕ

-- the names of one owner, with their numbers
abbrev pub Table : Type 0 → Type 0 → Type 0
Table Y S = IndexMap (Vec ℕ Y) ℕ S

abbrev pub same_owner : Option ℕ → Option ℕ → Bool
same_owner a b = option_eq nat_eq a b

module _ {Y S : Type 0} where
  abbrev pub entries_of : Option ℕ → Table Y S → List (Key × ℕ)
  entries_of owner table = list_map (λ e. ((owner, e.0.items), e.1)) table.entries

  -- the map that the tables of the owners make
  abbrev pub map_of : {S' : Type 0} → IndexMap (Option ℕ) (Table Y S) S' → SymbolMap
  map_of tables = map.from_entries (flat_map (λ t. entries_of t.0 t.1) tables.entries)
