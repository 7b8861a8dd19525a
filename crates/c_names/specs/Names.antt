-- The names that were declared so far, the latest last.
use Rattle.std.specs.Prelude.{ℕ, Bool, false, List, fold, if◌then◌else◌}
use Rattle.std.specs.Str.{bytes_eq}
use Rattle.c_names.specs.declared.names.Declared.{Declared}

-- whether a name is a typedef name: its latest declaration counts, and a name without one is none
unfoldable pub is_typedef_name : List Declared → List ℕ → Bool
is_typedef_name declared name = fold (λ known d. if bytes_eq name d.name then d.is_typedef else known) false declared
