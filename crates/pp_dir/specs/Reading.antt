-- How tokens are read as a condition (ANSI C X3.159-1989, 3.3 and 3.8.1): without assignments, commas, casts and
-- sizeof. Names are 0.
use Rattle.std.specs.Prelude.{ℕ, zero, suc, Bool, false, ◌==◌, nat_le, List, [], ◌∷◌, codes, find, Option, Some, None, option_map, option_and_then, if◌then◌else◌}
use Rattle.std.specs.Str.{bytes_eq}
use Rattle.pp_tok.specs.declared.token.PpTok.{PpTok}
use Rattle.pp_tok.specs.declared.token.PpKind.{PpKind}
use Rattle.pp_tok.specs.declared.token.PpKind.TheVariants.{Ident, Number, Char}
use Rattle.pp_macro.specs.Tokens.{is_mark, is_punct}
use Rattle.pp_dir.specs.declared.value.Value.{Value}
use Rattle.pp_dir.specs.declared.part.Part.{Part}
use Rattle.pp_dir.specs.declared.part.Part.TheVariants.{Operand, Whole}
use Rattle.pp_dir.specs.declared.operator.UnaryOp.{UnaryOp}
use Rattle.pp_dir.specs.declared.operator.UnaryOp.TheVariants.{Plus, Minus, Complement, Not}
use Rattle.pp_dir.specs.declared.operator.BinaryOp.{BinaryOp}
use Rattle.pp_dir.specs.declared.operator.BinaryOp.TheVariants.{Multiply, Divide, Remainder, Add, Subtract, ShiftLeft, ShiftRight, Less, Greater, LessEqual, GreaterEqual, Equal, NotEqual, BitAnd, BitXor, BitOr, And, Or}
use Rattle.pp_dir.specs.Constants.{number_value, character_value}
use Rattle.pp_dir.specs.Tree.{Expr, Constant, Grouped, Unary, Binary, Choice, depth_of, word_of, is_true}

-- an expression that begins a list, and the tokens behind it
abbrev pub Found : Type 0
Found = Option (Expr × List PpTok)

abbrev pub unary_ops : List (List ℕ × UnaryOp)
unary_ops = (codes "+", Plus) ∷ (codes "-", Minus) ∷ (codes "~", Complement) ∷ (codes "!", Not) ∷ []

abbrev pub binary_ops : List (List ℕ × BinaryOp)
binary_ops =
    (codes "*", Multiply) ∷ (codes "/", Divide) ∷ (codes "%", Remainder) ∷ (codes "+", Add) ∷ (codes "-", Subtract) ∷
    (codes "<<", ShiftLeft) ∷ (codes ">>", ShiftRight) ∷ (codes "<", Less) ∷ (codes ">", Greater) ∷ (codes "<=", LessEqual) ∷
    (codes ">=", GreaterEqual) ∷ (codes "==", Equal) ∷ (codes "!=", NotEqual) ∷ (codes "&", BitAnd) ∷ (codes "^", BitXor) ∷
    (codes "|", BitOr) ∷ (codes "&&", And) ∷ (codes "||", Or) ∷ []

-- operators of a lower rank bind tighter
abbrev pub rank_of : BinaryOp → ℕ
rank_of Multiply = 1
rank_of Divide = 1
rank_of Remainder = 1
rank_of Add = 2
rank_of Subtract = 2
rank_of ShiftLeft = 3
rank_of ShiftRight = 3
rank_of Less = 4
rank_of Greater = 4
rank_of LessEqual = 4
rank_of GreaterEqual = 4
rank_of Equal = 5
rank_of NotEqual = 5
rank_of BitAnd = 6
rank_of BitXor = 7
rank_of BitOr = 8
rank_of And = 9
rank_of Or = 10

-- what a punctuator stands for in a list of operators
abbrev pub named_in : {A : Type 0} → List (List ℕ × A) → List ℕ → Option A
named_in ops spelling = option_map (λ op. op.1) (find (λ op. bytes_eq spelling op.0) ops)

abbrev pub unary_op : PpTok → Option UnaryOp
unary_op t = if is_punct t.kind then named_in unary_ops t.spelling else None

abbrev pub binary_op : PpTok → Option BinaryOp
binary_op t = if is_punct t.kind then named_in binary_ops t.spelling else None

abbrev pub value_by : PpKind → List ℕ → Option Value
value_by Ident spelling = Some (record { word = 0; unsigned = false })
value_by Number spelling = number_value spelling
value_by Char spelling = character_value spelling
value_by kind spelling = None

abbrev pub value_of : PpTok → Option Value
value_of t = value_by t.kind t.spelling

-- the tokens behind this punctuator, where it stands first
abbrev pub behind : List ℕ → List PpTok → Option (List PpTok)
behind text [] = None
behind text (t ∷ ts) = if is_mark text t then Some ts else None

-- the operator of this rank that stands first
abbrev pub ranked_op : ℕ → List PpTok → Option BinaryOp
ranked_op rank [] = None
ranked_op rank (t ∷ ts) = option_and_then (λ op. if rank_of op == rank then Some op else None) (binary_op t)

abbrev pub tail_of : List PpTok → List PpTok
tail_of [] = []
tail_of (t ∷ ts) = ts

module _ (whole : List PpTok → Found) where
  abbrev pub grouped : Expr × List PpTok → Found
  grouped p = option_map (λ ts. (Grouped p.0, ts)) (behind (codes ")") p.1)

  -- behind an opening parenthesis
  abbrev pub grouped_at : List PpTok → Found
  grouped_at ts = option_and_then grouped (whole ts)

  abbrev pub primary : PpTok → List PpTok → Found
  primary t ts = if is_mark (codes "(") t then grouped_at ts else option_map (λ v. (Constant v, ts)) (value_of t)

module _ (operand whole : List PpTok → Found) where
  abbrev pub operand_by : PpTok → List PpTok → Option UnaryOp → Found
  operand_by t ts None = primary whole t ts
  operand_by t ts (Some op) = option_map (λ p. (Unary op p.0, p.1)) (operand ts)

  abbrev pub operand_at : List PpTok → Found
  operand_at [] = None
  operand_at (t ∷ ts) = operand_by t ts (unary_op t)

-- more operands with operators of one rank between them, from the left; none where there are more than n
module _ (higher : List PpTok → Found) (rank : ℕ) where
  abbrev pub chained : (Expr × List PpTok → Found) → Expr × List PpTok → Option BinaryOp → Found
  chained more p None = Some p
  chained more p (Some op) = option_and_then (λ q. more (Binary op p.0 q.0, q.1)) (higher (tail_of p.1))

  abbrev pub chain_ends : Expr × List PpTok → Option BinaryOp → Found
  chain_ends p None = Some p
  chain_ends p (Some op) = None

  unfoldable pub chain : ℕ → Expr × List PpTok → Found
  chain zero p = chain_ends p (ranked_op rank p.1)
  chain (suc n) p = chained (chain n) p (ranked_op rank p.1)

-- operands with operators of at most this rank between them
unfoldable pub ranked : (List PpTok → Found) → ℕ → ℕ → List PpTok → Found
ranked operand n zero ts = operand ts
ranked operand n (suc rank) ts = option_and_then (chain (ranked operand n rank) (suc rank) n) (ranked operand n rank ts)

module _ (whole : List PpTok → Found) where
  abbrev pub otherwise : Expr → Expr × List PpTok → Found
  otherwise c a = option_and_then (λ ts. option_map (λ b. (Choice c a.0 b.0, b.1)) (whole ts)) (behind (codes ":") a.1)

  -- behind the question mark
  abbrev pub choice_at : Expr → List PpTok → Found
  choice_at c ts = option_and_then (otherwise c) (whole ts)

  abbrev pub chosen : Expr × List PpTok → Option (List PpTok) → Found
  chosen p None = Some p
  chosen p (Some ts) = choice_at p.0 ts

  abbrev pub choice : Expr × List PpTok → Found
  choice p = chosen p (behind (codes "?") p.1)

abbrev pub whole_at : ℕ → (List PpTok → Found) → (List PpTok → Found) → List PpTok → Found
whole_at n operand whole ts = option_and_then (choice whole) (ranked (operand_at operand whole) n 10 ts)

abbrev pub part_at : ℕ → (List PpTok → Found) → (List PpTok → Found) → Part → List PpTok → Found
part_at n operand whole Operand ts = operand_at operand whole ts
part_at n operand whole Whole ts = whole_at n operand whole ts

-- what is at most n deep
unfoldable pub part : ℕ → Part → List PpTok → Found
part zero p ts = None
part (suc n) p ts = part_at n (part n Operand) (part n Whole) p ts

-- how deep a condition may be
abbrev pub limit : ℕ
limit = 200

abbrev pub decided : Expr × List PpTok → Option Bool
decided (e, []) = if nat_le (depth_of e) limit then option_map is_true (word_of e) else None
decided (e, t ∷ ts) = None

-- whether a condition of these tokens holds; none where they are no condition, too deep, or without a value
unfoldable pub condition_of : List PpTok → Option Bool
condition_of ts = option_and_then decided (part limit Whole ts)
