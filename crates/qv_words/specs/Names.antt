-- Names: files, units and the stems of units.
use Rattle.std.specs.Prelude.{ℕ, ◌-◌, Bool, true, false, ◌&&◌, ◌==◌, nat_lt, nat_le, not, List, [], ◌∷◌, length, drop, map, unwrap_or}
use Rattle.std.specs.List.{list_all, list_any}
use Rattle.std.specs.Path.{path_file_stem}
use Rattle.std.specs.Str.{bytes_eq}

abbrev pub begins_with_dash : List ℕ → Bool
begins_with_dash [] = false
begins_with_dash (b ∷ bs) = b == 45

-- a name isn't empty and doesn't begin with a dash
abbrev pub is_name : List ℕ → Bool
is_name name = nat_lt 0 (length name) && not (begins_with_dash name)

-- a character that is no slash, and `.c`
abbrev pub is_c_ending : List ℕ → Bool
is_c_ending (x ∷ dot ∷ c ∷ []) = not (x == 47) && dot == 46 && c == 99
is_c_ending bytes = false

-- a unit ends in `.c` with a character before it that is no slash
abbrev pub is_unit_name : List ℕ → Bool
is_unit_name name = not (begins_with_dash name) && is_c_ending (drop (length name - 3) name)

-- there are 1 to 4,096 of them
abbrev pub are_some : List (List ℕ) → Bool
are_some names = nat_lt 0 (length names) && nat_le (length names) 4096

abbrev pub are_files : List (List ℕ) → Bool
are_files names = are_some names && list_all is_name names

abbrev pub are_units : List (List ℕ) → Bool
are_units names = are_some names && list_all is_unit_name names

-- the stem of a unit: the name of its file without the ending
abbrev pub stem_of : List ℕ → List ℕ
stem_of unit = unwrap_or (path_file_stem unit) []

-- no two are alike
abbrev pub are_distinct : List (List ℕ) → Bool
are_distinct [] = true
are_distinct (x ∷ xs) = not (list_any (bytes_eq x) xs) && are_distinct xs

abbrev pub have_distinct_stems : List (List ℕ) → Bool
have_distinct_stems units = are_distinct (map stem_of units)
