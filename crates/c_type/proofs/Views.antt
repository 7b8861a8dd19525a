-- What each of the code's types stands for.
use Rattle.std.proofs.Common.{◌≡◌, ℕ, List, [], ◌∷◌, map, refl, ap, ◌∙◌, sym, Option}
use Rattle.c_type.specs.Types as ty
use Rattle.c_type.specs.View.{in_shape, in_type, listed, shape_of, type_of, types_of}
use Rattle.c_type.specs.declared.kind.IntKind.{IntKind}
use Rattle.c_type.specs.declared.ctype.CType.{CType, Void, Int, Pointer, Array, Function, Record, Enum, fold-roll-CType}
use Rattle.c_type.specs.declared.ctype.CType.TheVariants.{rolls-Void, rolls-Int, rolls-Pointer, rolls-Array, rolls-Function, rolls-Record, rolls-Enum}
use Rattle.c_type.specs.declared.ctype.CType.TheOpen.{CType-F}
use Rattle.c_type.specs.declared.ctype.Shape.{Shape, fold-roll-Shape}

pub type-Void : type_of Void ≡ ty.void
unfolding type_of
type-Void = ap type_of (sym rolls-Void) ∙ fold-roll-CType ty.CType ty.Shape in_type in_shape (CType-F.Void)

pub type-Int : (k : IntKind) → type_of (Int k) ≡ ty.int k
unfolding type_of
type-Int k = ap type_of (sym (rolls-Int k)) ∙ fold-roll-CType ty.CType ty.Shape in_type in_shape (CType-F.Int k)

pub type-Pointer : (t : CType) → type_of (Pointer t) ≡ ty.pointer (type_of t)
unfolding type_of
type-Pointer t = ap type_of (sym (rolls-Pointer t)) ∙ fold-roll-CType ty.CType ty.Shape in_type in_shape (CType-F.Pointer t)

pub type-Array : (t : CType) (n : Option ℕ) → type_of (Array t n) ≡ ty.array (type_of t) n
unfolding type_of
type-Array t n = ap type_of (sym (rolls-Array t n)) ∙ fold-roll-CType ty.CType ty.Shape in_type in_shape (CType-F.Array t n)

pub type-Function : (s : Shape) → type_of (Function s) ≡ ty.function (shape_of s)
unfolding type_of shape_of
type-Function s = ap type_of (sym (rolls-Function s)) ∙ fold-roll-CType ty.CType ty.Shape in_type in_shape (CType-F.Function s)

pub type-Record : (k : ℕ) → type_of (Record k) ≡ ty.struct k
unfolding type_of
type-Record k = ap type_of (sym (rolls-Record k)) ∙ fold-roll-CType ty.CType ty.Shape in_type in_shape (CType-F.Record k)

pub type-Enum : (k : ℕ) → type_of (Enum k) ≡ ty.enum k
unfolding type_of
type-Enum k = ap type_of (sym (rolls-Enum k)) ∙ fold-roll-CType ty.CType ty.Shape in_type in_shape (CType-F.Enum k)

listed-types : (ts : List CType) → listed (map type_of ts) ≡ types_of ts
listed-types [] = refl
listed-types (t ∷ ts) = ap (ty.and_type (type_of t)) (listed-types ts)

pub shape-fields : (s : Shape) → shape_of s ≡ ty.shape (type_of s.result) (types_of s.params) s.variadic
unfolding shape_of type_of
shape-fields s = fold-roll-Shape ty.CType ty.Shape in_type in_shape (record { result = s.result; params = s.params; variadic = s.variadic })
    ∙ ap (λ ts. ty.shape (type_of s.result) ts s.variadic) (listed-types s.params)

pub ruleset types = (type-Void, type-Int, type-Pointer, type-Array, type-Function, type-Record, type-Enum, shape-fields)
