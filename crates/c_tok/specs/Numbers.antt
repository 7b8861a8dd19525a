-- Numbers as constants (ANSI C X3.159-1989, 3.1.3.1 and 3.1.3.2).
use Rattle.std.specs.Prelude.{ℕ, Bool, false, ◌&&◌, ◌||◌, ◌==◌, nat_le, List, [], ◌∷◌, take, drop, find, Option, Some, None, option_map, Result, Err, if◌then◌else◌}
use Rattle.std.specs.Option.{ok_or}
use Rattle.std.specs.List.{list_any}
use Rattle.qv_base.specs.declared.place.Place.{Place}
use Rattle.qv_base.specs.Decimal.{is_digit}
use Rattle.pp_tok.specs.Chars.{starts_with}
use Rattle.c_type.specs.declared.kind.IntKind.{IntKind}
use Rattle.c_type.specs.declared.kind.IntKind.TheVariants.{Int, UnsignedInt, Long, UnsignedLong}
use Rattle.c_type.specs.Kinds.{greatest}
use Rattle.c_tok.specs.declared.constant.Constant.{Constant}
use Rattle.c_tok.specs.declared.fault.TokFault.{TokFault}
use Rattle.c_tok.specs.declared.fault.TokFault.TheVariants.{BadConstant, FloatConstant, ConstantTooLarge}
use Rattle.c_tok.specs.declared.number.Suffix.{Suffix}
use Rattle.c_tok.specs.declared.number.Suffix.TheVariants as suffix
use Rattle.c_tok.specs.Digits.{digits_length, number_of}

-- floating constants: a number with a dot, or decimal digits with an exponent

abbrev pub has_digit_first : List ℕ → Bool
has_digit_first [] = false
has_digit_first (b ∷ bs) = is_digit b

-- a digit, or a sign and a digit
abbrev pub is_power : List ℕ → Bool
is_power [] = false
is_power (b ∷ bs) = is_digit b || (((b == 43) || (b == 45)) && has_digit_first bs)

abbrev pub is_exponent : List ℕ → Bool
is_exponent [] = false
is_exponent (b ∷ bs) = ((b == 101) || (b == 69)) && is_power bs

abbrev pub is_floating : List ℕ → Bool
is_floating s = list_any (λ b. b == 46) s || is_exponent (drop (digits_length 10 s) s)

-- integers: an octal one begins with 0, a hexadecimal one with `0x` or `0X`

abbrev pub is_x : ℕ → Bool
is_x b = (b == 120) || (b == 88)

abbrev pub is_hexadecimal : List ℕ → Bool
is_hexadecimal [] = false
is_hexadecimal (a ∷ []) = false
is_hexadecimal (a ∷ b ∷ bs) = (a == 48) && is_x b

abbrev pub base_of : List ℕ → ℕ
base_of s = if is_hexadecimal s then 16 else (if starts_with 48 s then 8 else 10)

-- the digits and what is behind them
abbrev pub behind_prefix : List ℕ → List ℕ
behind_prefix s = if is_hexadecimal s then drop 2 s else s

abbrev pub is_u : ℕ → Bool
is_u b = (b == 117) || (b == 85)

abbrev pub is_l : ℕ → Bool
is_l b = (b == 108) || (b == 76)

abbrev pub suffix_of : List ℕ → Option Suffix
suffix_of [] = Some suffix.Plain
suffix_of (a ∷ []) = if is_u a then Some suffix.Unsigned else (if is_l a then Some suffix.Long else None)
suffix_of (a ∷ b ∷ []) = if (is_u a && is_l b) || (is_l a && is_u b) then Some suffix.UnsignedLong else None
suffix_of s = None

-- the types that a constant may have
abbrev pub kinds_of : Suffix → Bool → List IntKind
kinds_of suffix.Plain decimal = if decimal then Int ∷ Long ∷ UnsignedLong ∷ [] else Int ∷ UnsignedInt ∷ Long ∷ UnsignedLong ∷ []
kinds_of suffix.Unsigned decimal = UnsignedInt ∷ UnsignedLong ∷ []
kinds_of suffix.Long decimal = Long ∷ UnsignedLong ∷ []
kinds_of suffix.UnsignedLong decimal = UnsignedLong ∷ []

-- the first of them that holds the number
abbrev pub constant_among : List IntKind → ℕ → Option Constant
constant_among kinds n = option_map (λ kind. record { value = n; kind = kind }) (find (λ kind. nat_le n (greatest kind)) kinds)

-- a number in this base, by its digits and its suffix
abbrev pub suffixed : Place → ℕ → ℕ → Option Suffix → Result Constant TokFault
suffixed place base n None = Err (BadConstant place)
suffixed place base n (Some s) = ok_or (constant_among (kinds_of s (base == 10)) n) (ConstantTooLarge place)

-- so many digits in this base, one or more, and then a suffix
abbrev pub integer_with : Place → ℕ → List ℕ → ℕ → Result Constant TokFault
integer_with place base s count = if count == 0 then Err (BadConstant place) else suffixed place base (number_of base (take count s)) (suffix_of (drop count s))

abbrev pub integer_in : Place → ℕ → List ℕ → Result Constant TokFault
integer_in place base s = integer_with place base s (digits_length base s)

-- the constant that a number with this spelling is
unfoldable pub number_constant : Place → List ℕ → Result Constant TokFault
number_constant place s = if is_floating s then Err (FloatConstant place) else integer_in place (base_of s) (behind_prefix s)
