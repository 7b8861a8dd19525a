-- Operators on two integers (ANSI C X3.159-1989, 3.3.5 to 3.3.12): sums, differences and products wrap, division cuts
-- toward zero, and a right shift of a negative number keeps its sign.
use Rattle.std.specs.Prelude.{ℕ, ◌-◌, ◌/◌, ◌%◌, ◌^◌, ◌==◌, Bool, true, false, ◌&&◌, not, nat_lt, if◌then◌else◌, bit_and, bit_or, bit_xor, Option, Some, None}
use Rattle.qv_base.specs.Word.{plus, minus, times, shifted_left, shifted_right, shifted_signed, is_less_signed, quotient_signed, remainder_signed}
use Rattle.c_type.specs.declared.kind.IntKind.{IntKind}
use Rattle.c_type.specs.declared.kind.IntKind.TheVariants.{Int}
use Rattle.c_type.specs.declared.operator.BinOp.{BinOp}
use Rattle.c_type.specs.declared.operator.BinOp.TheVariants.{Multiply, Divide, Remainder, Add, Subtract, ShiftLeft, ShiftRight, Less, Greater, AtMost, AtLeast, Equal, NotEqual, And, Xor, Or}
use Rattle.c_type.specs.Kinds.{is_signed}
use Rattle.c_conv.specs.Conversions.{promote, usual}

-- what C leaves undefined of them
pub data Undefined : Type 0 where
  division_by_zero quotient_too_large shift_too_far : Undefined

-- a quotient and a remainder: by zero, and the least number by -1
abbrev pub undefined_quotient : IntKind → ℕ → ℕ → Option Undefined
undefined_quotient k a b = if b == 0 then Some division_by_zero
    else if is_signed k && a == 2 ^ 31 && b == 2 ^ 32 - 1 then Some quotient_too_large
    else None

-- a shift by as many bits as a word has, or more; a negative count is more
abbrev pub undefined_shift : ℕ → Option Undefined
undefined_shift b = if nat_lt b 32 then None else Some shift_too_far

abbrev pub undefined : BinOp → IntKind → ℕ → ℕ → Option Undefined
undefined Divide k a b = undefined_quotient k a b
undefined Remainder k a b = undefined_quotient k a b
undefined ShiftLeft k a b = undefined_shift b
undefined ShiftRight k a b = undefined_shift b
undefined _ k a b = None

abbrev pub is_less : IntKind → ℕ → ℕ → Bool
is_less k a b = if is_signed k then is_less_signed a b else nat_lt a b

-- a comparison gives 1 or 0
abbrev pub truth : Bool → ℕ
truth true = 1
truth false = 0

-- what an operator gives where it isn't undefined
abbrev pub value : BinOp → IntKind → ℕ → ℕ → ℕ
value Multiply k a b = times a b
value Divide k a b = if is_signed k then quotient_signed a b else a / b
value Remainder k a b = if is_signed k then remainder_signed a b else a % b
value Add k a b = plus a b
value Subtract k a b = minus a b
value ShiftLeft k a b = shifted_left a b
value ShiftRight k a b = if is_signed k then shifted_signed a b else shifted_right a b
value Less k a b = truth (is_less k a b)
value Greater k a b = truth (is_less k b a)
value AtMost k a b = truth (not (is_less k b a))
value AtLeast k a b = truth (not (is_less k a b))
value Equal k a b = truth (a == b)
value NotEqual k a b = truth (not (a == b))
value And k a b = bit_and a b
value Xor k a b = bit_xor a b
value Or k a b = bit_or a b

abbrev pub unless : Option Undefined → ℕ → Option ℕ
unless None v = Some v
unless (Some _) v = None

-- an operator on two values of the type in which it works, if it is defined; of a shift's count the type doesn't matter
abbrev pub binary : BinOp → IntKind → ℕ → ℕ → Option ℕ
binary op k a b = unless (undefined op k a b) (value op k a b)

-- the type in which an operator works on operands of two types: a shift in the promoted left one, any other in the one
-- to which both are converted
abbrev pub working : BinOp → IntKind → IntKind → IntKind
working ShiftLeft j k = promote j
working ShiftRight j k = promote j
working _ j k = usual j k

-- the type of what it gives: a comparison gives an `int`
abbrev pub given : BinOp → IntKind → IntKind → IntKind
given Less j k = Int
given Greater j k = Int
given AtMost j k = Int
given AtLeast j k = Int
given Equal j k = Int
given NotEqual j k = Int
given op j k = working op j k
