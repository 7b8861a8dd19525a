-- What the code's types stand for.
use Rattle.std.specs.Prelude.{List, [], ◌∷◌, map, option_map}
use Rattle.c_type.specs.declared.ctype.CType.{CType, fold-CType}
use Rattle.c_type.specs.declared.ctype.CType.TheOpen.{CType-F, Shape-F}
use Rattle.c_type.specs.declared.ctype.Shape.{Shape, fold-Shape}
use Rattle.c_type.specs.declared.tags.Member.{Member}
use Rattle.c_type.specs.declared.tags.Tag.{Tag}
use Rattle.c_type.specs.Types as ty

abbrev pub listed : List ty.CType → ty.CTypes
listed [] = ty.no_types
listed (t ∷ ts) = ty.and_type t (listed ts)

abbrev pub in_type : CType-F ty.CType ty.Shape → ty.CType
in_type (CType-F.Void) = ty.void
in_type (CType-F.Int k) = ty.int k
in_type (CType-F.Pointer t) = ty.pointer t
in_type (CType-F.Array t n) = ty.array t n
in_type (CType-F.Function s) = ty.function s
in_type (CType-F.Record k) = ty.struct k
in_type (CType-F.Enum k) = ty.enum k

abbrev pub in_shape : Shape-F ty.CType ty.Shape → ty.Shape
in_shape s = ty.shape s.result (listed s.params) s.variadic

unfoldable pub type_of : CType → ty.CType
type_of = fold-CType ty.CType ty.Shape in_type in_shape

unfoldable pub shape_of : Shape → ty.Shape
shape_of = fold-Shape ty.CType ty.Shape in_type in_shape

abbrev pub types_of : List CType → ty.CTypes
types_of [] = ty.no_types
types_of (t ∷ ts) = ty.and_type (type_of t) (types_of ts)

abbrev pub member_of : Member → ty.Member
member_of m = record { name = m.name; type_of = type_of m.type_of }

abbrev pub members_of : List Member → List ty.Member
members_of ms = map member_of ms

abbrev pub tag_of : Tag → ty.Tag
tag_of t = record { kind = t.kind; name = t.name; members = option_map members_of t.members }

abbrev pub tags_of : List Tag → ty.Tags
tags_of ts = map tag_of ts
