-- Conversions between integer types (ANSI C X3.159-1989, 3.2.1). A value is held as a word, a number below 2 ^ 32: a
-- negative one as the word that stands so far below 2 ^ 32.
use Rattle.std.specs.Prelude.{ℕ, ◌+◌, ◌-◌, ◌*◌, ◌%◌, ◌^◌, Bool, ◌&&◌, ◌||◌, nat_le, nat_lt, if◌then◌else◌}
use Rattle.c_type.specs.declared.kind.IntKind.{IntKind}
use Rattle.c_type.specs.declared.kind.IntKind.TheVariants.{Int, UnsignedInt, Long, UnsignedLong}
use Rattle.c_type.specs.Kinds.{bytes, greatest, is_signed}

-- whether a word is a value of a type: from 0 to the greatest, or from the least to -1
abbrev pub is_value : IntKind → ℕ → Bool
is_value k v = nat_le v (greatest k) || (is_signed k && nat_le (2 ^ 32 - 1 - greatest k) v && nat_lt v (2 ^ 32))

-- the low bytes of a word, as many as a type has
abbrev pub low : IntKind → ℕ → ℕ
low k v = v % 2 ^ (8 * bytes k)

-- conversion keeps the low bytes; past the greatest number of the type they stand for a negative one
abbrev pub convert : ℕ → IntKind → ℕ
convert v k = if nat_le (low k v) (greatest k) then low k v else low k v + (2 ^ 32 - 2 ^ (8 * bytes k))

-- a type all of whose values are numbers of `int`, and which isn't as wide, becomes `int`
abbrev pub promote : IntKind → IntKind
promote UnsignedInt = UnsignedInt
promote Long = Long
promote UnsignedLong = UnsignedLong
promote _ = Int

-- the common type of two promoted ones; `long` doesn't hold all values of `unsigned int`
abbrev pub common : IntKind → IntKind → IntKind
common UnsignedLong _ = UnsignedLong
common _ UnsignedLong = UnsignedLong
common Long UnsignedInt = UnsignedLong
common UnsignedInt Long = UnsignedLong
common Long _ = Long
common _ Long = Long
common UnsignedInt _ = UnsignedInt
common _ UnsignedInt = UnsignedInt
common _ _ = Int

-- the usual arithmetic conversions: the type to which both operands are converted
abbrev pub usual : IntKind → IntKind → IntKind
usual j k = common (promote j) (promote k)
