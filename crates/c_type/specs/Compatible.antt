-- Compatible types (ANSI C X3.159-1989, 3.1.2.6, 3.5.2.2 and 3.5.4). Here every enumeration is compatible with `int`, and
-- so with each other.
use Rattle.std.specs.Prelude.{ℕ, ◌==◌, Bool, true, false, ◌&&◌, not, Option, Some, None}
use Rattle.c_type.specs.declared.kind.IntKind.{IntKind}
use Rattle.c_type.specs.declared.kind.IntKind.TheVariants.{Char, SignedChar, UnsignedChar, Short, UnsignedShort, Int, UnsignedInt, Long, UnsignedLong}
use Rattle.c_type.specs.Types as ty
use Rattle.c_type.specs.Types.{CType, CTypes, Shape, Tags}

-- types with the same range are types apart
abbrev pub same_kind : IntKind → IntKind → Bool
same_kind Char Char = true
same_kind SignedChar SignedChar = true
same_kind UnsignedChar UnsignedChar = true
same_kind Short Short = true
same_kind UnsignedShort UnsignedShort = true
same_kind Int Int = true
same_kind UnsignedInt UnsignedInt = true
same_kind Long Long = true
same_kind UnsignedLong UnsignedLong = true
same_kind _ _ = false

-- equal, or one isn't known
abbrev pub counts_agree : Option ℕ → Option ℕ → Bool
counts_agree (Some m) (Some n) = m == n
counts_agree (Some m) None = true
counts_agree None n = true

abbrev pub both_or_neither : Bool → Bool → Bool
both_or_neither true b = b
both_or_neither false b = not b

-- compatible, where it is known of records which of them are
abbrev mutual
  pub agree_by : (ℕ → ℕ → Bool) → CType → CType → Bool
  agree_by records ty.void ty.void = true
  agree_by records (ty.int j) (ty.int k) = same_kind j k
  agree_by records (ty.int j) (ty.enum _) = same_kind j Int
  agree_by records (ty.enum _) (ty.int k) = same_kind Int k
  agree_by records (ty.enum _) (ty.enum _) = true
  agree_by records (ty.pointer t) (ty.pointer u) = agree_by records t u
  agree_by records (ty.array t m) (ty.array u n) = counts_agree m n && agree_by records t u
  agree_by records (ty.function s) (ty.function r) = shapes_agree records s r
  agree_by records (ty.struct j) (ty.struct k) = records j k
  agree_by records _ _ = false

  pub shapes_agree : (ℕ → ℕ → Bool) → Shape → Shape → Bool
  shapes_agree records (ty.shape t ts v) (ty.shape u us w) = agree_by records t u && both_or_neither v w && all_agree records ts us

  -- as many, and each with the one at its place
  pub all_agree : (ℕ → ℕ → Bool) → CTypes → CTypes → Bool
  all_agree records ty.no_types ty.no_types = true
  all_agree records (ty.and_type t ts) (ty.and_type u us) = agree_by records t u && all_agree records ts us
  all_agree records _ _ = false

-- records of one unit are compatible where they have one tag
abbrev pub same_tag : ℕ → ℕ → Bool
same_tag j k = j == k

abbrev pub compatible : Tags → CType → CType → Bool
compatible tags = agree_by same_tag
