-- The ranges of the integer types: `char` is signed, `short` has 2 bytes, `int` and `long` have 4.
use Rattle.std.specs.Prelude.{ℕ, ◌-◌, ◌^◌, Bool, true, false}
use Rattle.c_type.specs.declared.kind.IntKind.{IntKind}
use Rattle.c_type.specs.declared.kind.IntKind.TheVariants.{Char, SignedChar, UnsignedChar, Short, UnsignedShort, Int, UnsignedInt, Long, UnsignedLong}

-- how many bytes a value of a type has
abbrev pub bytes : IntKind → ℕ
bytes Char = 1
bytes SignedChar = 1
bytes UnsignedChar = 1
bytes Short = 2
bytes UnsignedShort = 2
bytes Int = 4
bytes UnsignedInt = 4
bytes Long = 4
bytes UnsignedLong = 4

-- whether a type has negative values
abbrev pub is_signed : IntKind → Bool
is_signed Char = true
is_signed SignedChar = true
is_signed UnsignedChar = false
is_signed Short = true
is_signed UnsignedShort = false
is_signed Int = true
is_signed UnsignedInt = false
is_signed Long = true
is_signed UnsignedLong = false

-- the greatest number of a type
abbrev pub greatest : IntKind → ℕ
greatest Char = 2 ^ 7 - 1
greatest SignedChar = 2 ^ 7 - 1
greatest UnsignedChar = 2 ^ 8 - 1
greatest Short = 2 ^ 15 - 1
greatest UnsignedShort = 2 ^ 16 - 1
greatest Int = 2 ^ 31 - 1
greatest UnsignedInt = 2 ^ 32 - 1
greatest Long = 2 ^ 31 - 1
greatest UnsignedLong = 2 ^ 32 - 1
