-- Conditions as trees, and what they come to (ANSI C X3.159-1989, 3.3 and 3.8.1).
use Rattle.std.specs.Prelude.{ℕ, ◌+◌, ◌-◌, ◌/◌, ◌%◌, ◌^◌, Bool, false, ◌&&◌, ◌||◌, ◌==◌, nat_lt, not, max, bit_and, bit_or, bit_xor, Option, Some, None, option_map, option_and_then, if◌then◌else◌}
use Rattle.qv_base.specs.Word.{plus, minus, times, negated, shifted_left, shifted_right, shifted_signed, is_less_signed, quotient_signed, remainder_signed}
use Rattle.pp_dir.specs.declared.value.Value.{Value}
use Rattle.pp_dir.specs.declared.operator.UnaryOp.{UnaryOp}
use Rattle.pp_dir.specs.declared.operator.UnaryOp.TheVariants.{Plus, Minus, Complement, Not}
use Rattle.pp_dir.specs.declared.operator.BinaryOp.{BinaryOp}
use Rattle.pp_dir.specs.declared.operator.BinaryOp.TheVariants.{Multiply, Divide, Remainder, Add, Subtract, ShiftLeft, ShiftRight, Less, Greater, LessEqual, GreaterEqual, Equal, NotEqual, BitAnd, BitXor, BitOr, And, Or}

pub data Expr : Type 0 where
  Constant : Value → Expr
  -- an expression in parentheses
  Grouped : Expr → Expr
  Unary : UnaryOp → Expr → Expr
  Binary : BinaryOp → Expr → Expr → Expr
  -- `a ? b : c`
  Choice : Expr → Expr → Expr → Expr

-- a constant has depth 1, any other expression one more than its deepest part
unfoldable pub depth_of : Expr → ℕ
depth_of (Constant v) = 1
depth_of (Grouped e) = 1 + depth_of e
depth_of (Unary op e) = 1 + depth_of e
depth_of (Binary op a b) = 1 + max (depth_of a) (depth_of b)
depth_of (Choice c a b) = 1 + max (depth_of c) (max (depth_of a) (depth_of b))

-- truth as a word
abbrev pub truth : Bool → ℕ
truth b = if b then 1 else 0

abbrev pub is_true : ℕ → Bool
is_true w = not (w == 0)

abbrev pub unary_unsigned : UnaryOp → Bool → Bool
unary_unsigned Not u = false
unary_unsigned op u = u

abbrev pub unary_word : UnaryOp → ℕ → ℕ
unary_word Plus w = w
unary_word Minus w = negated w
unary_word Complement w = 2 ^ 32 - 1 - w
unary_word Not w = truth (w == 0)

-- comparisons and logic are int, a shift has the type of its left operand, all else is unsigned where an
-- operand is
abbrev pub binary_unsigned : BinaryOp → Bool → Bool → Bool
binary_unsigned Less u v = false
binary_unsigned Greater u v = false
binary_unsigned LessEqual u v = false
binary_unsigned GreaterEqual u v = false
binary_unsigned Equal u v = false
binary_unsigned NotEqual u v = false
binary_unsigned And u v = false
binary_unsigned Or u v = false
binary_unsigned ShiftLeft u v = u
binary_unsigned ShiftRight u v = u
binary_unsigned op u v = u || v

abbrev pub is_less : Bool → ℕ → ℕ → Bool
is_less unsigned a b = if unsigned then nat_lt a b else is_less_signed a b

-- division by zero and the one quotient that int doesn't hold have no value
abbrev pub divides : Bool → ℕ → ℕ → Bool
divides unsigned a b = not (b == 0) && (unsigned || not ((a == 2 ^ 31) && (b == 2 ^ 32 - 1)))

abbrev pub quotient : Bool → ℕ → ℕ → ℕ
quotient unsigned a b = if unsigned then a / b else quotient_signed a b

abbrev pub remainder : Bool → ℕ → ℕ → ℕ
remainder unsigned a b = if unsigned then a % b else remainder_signed a b

-- a shift by 32 or more has no value
abbrev pub shifted : ℕ → ℕ → Option ℕ
shifted count w = if nat_lt count 32 then Some w else None

-- the word of an operator whose operands have both a value; u says whether the left one is unsigned, v the same
-- of one of them
abbrev pub binary_word : BinaryOp → Bool → Bool → ℕ → ℕ → Option ℕ
binary_word Multiply u v a b = Some (times a b)
binary_word Divide u v a b = if divides v a b then Some (quotient v a b) else None
binary_word Remainder u v a b = if divides v a b then Some (remainder v a b) else None
binary_word Add u v a b = Some (plus a b)
binary_word Subtract u v a b = Some (minus a b)
binary_word ShiftLeft u v a b = shifted b (shifted_left a b)
binary_word ShiftRight u v a b = shifted b (if u then shifted_right a b else shifted_signed a b)
binary_word Less u v a b = Some (truth (is_less v a b))
binary_word Greater u v a b = Some (truth (is_less v b a))
binary_word LessEqual u v a b = Some (truth (not (is_less v b a)))
binary_word GreaterEqual u v a b = Some (truth (not (is_less v a b)))
binary_word Equal u v a b = Some (truth (a == b))
binary_word NotEqual u v a b = Some (truth (not (a == b)))
binary_word BitAnd u v a b = Some (bit_and a b)
binary_word BitXor u v a b = Some (bit_xor a b)
binary_word BitOr u v a b = Some (bit_or a b)
binary_word And u v a b = Some (truth (is_true a && is_true b))
binary_word Or u v a b = Some (truth (is_true a || is_true b))

-- the word of an operator: `&&` and `||` don't look at the right operand where the left one decides
abbrev pub lazy_word : BinaryOp → Bool → Bool → ℕ → Option ℕ → Option ℕ
lazy_word And u v a b = if is_true a then option_and_then (λ b. binary_word And u v a b) b else Some 0
lazy_word Or u v a b = if is_true a then Some 1 else option_and_then (λ b. binary_word Or u v a b) b
lazy_word op u v a b = option_and_then (λ b. binary_word op u v a b) b

unfoldable pub is_unsigned : Expr → Bool
is_unsigned (Constant v) = v.unsigned
is_unsigned (Grouped e) = is_unsigned e
is_unsigned (Unary op e) = unary_unsigned op (is_unsigned e)
is_unsigned (Binary op a b) = binary_unsigned op (is_unsigned a) (is_unsigned b)
is_unsigned (Choice c a b) = is_unsigned a || is_unsigned b

-- the word; none where a part that is evaluated has none
unfoldable pub word_of : Expr → Option ℕ
word_of (Constant v) = Some v.word
word_of (Grouped e) = word_of e
word_of (Unary op e) = option_map (unary_word op) (word_of e)
word_of (Binary op a b) = option_and_then (λ w. lazy_word op (is_unsigned a) (is_unsigned a || is_unsigned b) w (word_of b)) (word_of a)
word_of (Choice c a b) = option_and_then (λ w. if is_true w then word_of a else word_of b) (word_of c)
