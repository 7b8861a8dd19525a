-- Size, alignment and offsets (ANSI C X3.159-1989, 3.1.2.5 and 3.5.2.1): each integer stands at a multiple of its size,
-- a pointer has 4 bytes.
use Rattle.std.specs.Prelude.{ℕ, zero, suc, ◌+◌, ◌*◌, ◌^◌, max, nat_le, Bool, true, false, ◌&&◌, not, if◌then◌else◌, List, [], ◌∷◌, ◌++◌, fold, length, slice_get, slice_set, Option, Some, None, is_some, option_map, option_and_then}
use Rattle.std.specs.Int.{next_multiple_of}
use Rattle.qv_base.specs.Place.{capped}
use Rattle.c_type.specs.declared.layout.Layout.{Layout}
use Rattle.c_type.specs.declared.tags.TagKind.{TagKind}
use Rattle.c_type.specs.declared.tags.TagKind.TheVariants.{Struct, Union, Enum}
use Rattle.c_type.specs.Kinds.{bytes}
use Rattle.c_type.specs.Types as ty
use Rattle.c_type.specs.Types.{CType, Member, Tag, Tags}

abbrev pub layout : ℕ → ℕ → Layout
layout size align = record { size = size; align = align }

-- a size that no word holds is told as the greatest word
abbrev pub told : Layout → Layout
told l = layout (capped l.size) l.align

abbrev pub repeated : Option ℕ → Option Layout → Option Layout
repeated (Some n) (Some l) = Some (layout (n * l.size) l.align)
repeated (Some _) None = None
repeated None _ = None

-- of a type, where records are laid out so: void, functions and incomplete types have no layout
abbrev pub layout_of : (ℕ → Option Layout) → CType → Option Layout
layout_of records ty.void = None
layout_of records (ty.int k) = Some (layout (bytes k) (bytes k))
layout_of records (ty.pointer _) = Some (layout 4 4)
layout_of records (ty.array t n) = repeated n (layout_of records t)
layout_of records (ty.function _) = None
layout_of records (ty.struct k) = records k
layout_of records (ty.enum _) = Some (layout 4 4)

-- where a member of an alignment stands behind others of a size: in a structure at the next multiple of the alignment, in
-- a union at the beginning
abbrev pub place : TagKind → ℕ → ℕ → ℕ
place Struct size align = next_multiple_of size align
place _ size align = 0

-- members, with where each stands
pub record Placed : Type 0 where
  pub together : Layout
  pub offsets : List ℕ

abbrev pub nothing : Placed
nothing = record { together = layout 0 1; offsets = [] }

-- others with one more behind them
abbrev pub joined : TagKind → Layout → Layout → Layout
joined k others m = layout (max others.size (place k others.size m.align + m.size)) (max others.align m.align)

abbrev pub with_member : TagKind → Placed → Layout → Placed
with_member k p m = record { together = joined k p.together m; offsets = p.offsets ++ place k p.together.size m.align ∷ [] }

abbrev pub with_next : (CType → Option Layout) → TagKind → Option Placed → Member → Option Placed
with_next lay k p m = option_and_then (λ q. option_map (with_member k q) (lay m.type_of)) p

-- all members of a record, if each has a layout
abbrev pub placed : (CType → Option Layout) → TagKind → List Member → Option Placed
placed lay k ms = fold (with_next lay k) (Some nothing) ms

-- a record's size is a multiple of its alignment
abbrev pub closed : Placed → Layout
closed p = layout (next_multiple_of p.together.size p.together.align) p.together.align

-- the members of a tag, where it is a complete record
abbrev pub tag_placed : (ℕ → Option Layout) → Option Tag → Option Placed
tag_placed records None = None
tag_placed records (Some t) = option_and_then (placed (layout_of records) t.kind) t.members

-- records that hold records no deeper than a number
abbrev pub records_within : Tags → ℕ → ℕ → Option Layout
records_within tags zero = λ k. None
records_within tags (suc depth) = λ k. option_map closed (tag_placed (records_within tags depth) (slice_get tags k))

-- no record holds others deeper than there are tags
abbrev pub records : Tags → ℕ → Option Layout
records tags = records_within tags (length tags)

abbrev pub layout_in : Tags → CType → Option Layout
layout_in tags = layout_of (records tags)

abbrev pub size : Tags → CType → Option ℕ
size tags t = option_map (λ l. l.size) (layout_in tags t)

abbrev pub align : Tags → CType → Option ℕ
align tags t = option_map (λ l. l.align) (layout_in tags t)

-- where the i-th member of a record stands in it
abbrev pub offset : Tags → ℕ → ℕ → Option ℕ
offset tags k i = option_and_then (λ p. slice_get p.offsets i) (tag_placed (records tags) (slice_get tags k))

-- the most bytes of an object
abbrev pub most_bytes : ℕ
most_bytes = 2 ^ 26

-- whether a record with members fits
abbrev pub fits : Option Placed → Bool
fits None = false
fits (Some p) = nat_le (closed p).size most_bytes

abbrev pub is_record : TagKind → Bool
is_record Struct = true
is_record Union = true
is_record Enum = false

-- whether a tag is that of an incomplete record
abbrev pub is_open : Tag → Bool
is_open t = is_record t.kind && not (is_some t.members)

-- the tags with one completed, if it is that of an incomplete record and the record, which doesn't hold itself, fits
abbrev pub completed : Tags → ℕ → List Member → Option Tags
completed tags k ms = option_and_then (λ t.
    if is_open t && fits (placed (layout_in tags) t.kind ms) then Some (slice_set tags k (record t { members = Some ms })) else None) (slice_get tags k)
