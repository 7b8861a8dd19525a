-- One step of laying a record out.
use Rattle.std.specs.Prelude.{ℕ, ◌<◌, ◌^◌, Option, Some, None, option_map}
use Rattle.c_type.specs.declared.layout.Layout.{Layout}
use Rattle.c_type.specs.declared.tags.TagKind.{TagKind}
use Rattle.c_type.specs.Layout.{joined, place}

-- others with a member more, and where it stands, if it has a layout
abbrev pub next : TagKind → Layout → Option Layout → Option (Layout × ℕ)
next k others m = option_map (λ l. (joined k others l, place k others.size l.align)) m

-- with it they don't fit
abbrev pub IsTooLarge : TagKind → Layout → Option Layout → Type 0
IsTooLarge k others None = Unit {0}
IsTooLarge k others (Some l) = 2 ^ 26 < (joined k others l).size
