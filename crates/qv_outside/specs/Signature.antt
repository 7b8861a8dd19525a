-- Signatures of traps, and which are well formed.
use Rattle.std.specs.Prelude.{ℕ, Bool, true, false, ◌&&◌, nat_le, List, length, slice_get, Some, None, count_by, take, drop}
use Rattle.std.specs.List.{list_all}
use Rattle.qv_outside.specs.declared.signature.Kind.{Kind}
use Rattle.qv_outside.specs.declared.signature.Kind.TheVariants.{Int, Text, InBytes, OutBytes}

abbrev pub is_int : Kind → Bool
is_int Int = true
is_int k = false

abbrev pub is_input : Kind → Bool
is_input Text = true
is_input (InBytes l) = true
is_input k = false

abbrev pub is_output : Kind → Bool
is_output (OutBytes l) = true
is_output k = false

-- an argument of kind Int stands there
abbrev pub int_at : List Kind → ℕ → Bool
int_at kinds place = elim (slice_get kinds place) [ Some k ↦ is_int k | None ↦ false ]

-- the place of the length names an Int
abbrev pub length_is_int : List Kind → Kind → Bool
length_is_int kinds Int = true
length_is_int kinds Text = true
length_is_int kinds (InBytes place) = int_at kinds place
length_is_int kinds (OutBytes place) = int_at kinds place

-- these kinds make a signature
abbrev pub fits : List Kind → Bool
fits kinds = nat_le (length kinds) 14 && list_all (length_is_int kinds) kinds && nat_le (count_by is_input kinds) 2 && nat_le (count_by is_output kinds) 1

abbrev pub well_formed : ℕ → List Kind → Bool
well_formed count kinds = nat_le count 14 && list_all is_int (drop count kinds) && fits (take count kinds)
