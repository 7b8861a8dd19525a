-- Arithmetic on words of 32 bits: a word is a number below 2 ^ 32.
use Rattle.std.specs.Prelude.{ℕ, ◌+◌, ◌-◌, ◌*◌, ◌/◌, ◌%◌, ◌^◌, Bool, nat_lt, if◌then◌else◌, int_div, int_rem, int_lt}
use Rattle.std.specs.Int.{cast_signed, cast_unsigned, w32, int_shr}

-- sums, differences and products wrap
abbrev pub plus : ℕ → ℕ → ℕ
plus a b = (a + b) % 2 ^ 32

abbrev pub minus : ℕ → ℕ → ℕ
minus a b = (a + (2 ^ 32 - b)) % 2 ^ 32

abbrev pub times : ℕ → ℕ → ℕ
times a b = a * b % 2 ^ 32

abbrev pub negated : ℕ → ℕ
negated a = (2 ^ 32 - a) % 2 ^ 32

-- a shift's count is cut to five bits
abbrev pub shifted_left : ℕ → ℕ → ℕ
shifted_left a count = a * 2 ^ (count % 32) % 2 ^ 32

abbrev pub shifted_right : ℕ → ℕ → ℕ
shifted_right a count = a / 2 ^ (count % 32)

-- a right shift that keeps the sign
abbrev pub shifted_signed : ℕ → ℕ → ℕ
shifted_signed a count = cast_unsigned w32 (int_shr (cast_signed w32 a) (count % 32))

-- order, quotient and remainder of words read as two's complement; division cuts toward zero
abbrev pub is_less_signed : ℕ → ℕ → Bool
is_less_signed a b = int_lt (cast_signed w32 a) (cast_signed w32 b)

abbrev pub quotient_signed : ℕ → ℕ → ℕ
quotient_signed a b = cast_unsigned w32 (int_div (cast_signed w32 a) (cast_signed w32 b))

abbrev pub remainder_signed : ℕ → ℕ → ℕ
remainder_signed a b = cast_unsigned w32 (int_rem (cast_signed w32 a) (cast_signed w32 b))

-- the low byte, and the low half word, with its sign
abbrev pub sign_extended_8 : ℕ → ℕ
sign_extended_8 a = if nat_lt (a % 256) 128 then a % 256 else a % 256 + (2 ^ 32 - 256)

abbrev pub sign_extended_16 : ℕ → ℕ
sign_extended_16 a = if nat_lt (a % 65536) 32768 then a % 65536 else a % 65536 + (2 ^ 32 - 65536)
