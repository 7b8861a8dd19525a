-- What is kept of an expression while a condition is read. No public clause names it.
use denote.Ref.{Bor}
use Rattle.std.specs.Prelude.{◌≡◌, ◌≢◌, ℕ, ◌+◌, Bool, true, false, ◌||◌, List, [], ◌∷◌, max, min, Option, Some, None, option_map, option_and_then, if◌then◌else◌}
use Rattle.pp_tok.specs.declared.token.PpTok.{PpTok}
use Rattle.pp_dir.specs.declared.value.Value.{Value}
use Rattle.pp_dir.specs.declared.operator.UnaryOp.{UnaryOp}
use Rattle.pp_dir.specs.declared.operator.BinaryOp.{BinaryOp}
use Rattle.pp_dir.specs.declared.worth.Worth.{Worth}
use Rattle.pp_dir.specs.Tree.{Expr, depth_of, is_unsigned, word_of, is_true, unary_unsigned, unary_word, binary_unsigned, lazy_word}
use Rattle.pp_dir.specs.Reading.{Found, choice_at}

-- a depth, told up to 201
abbrev pub cut : ℕ → ℕ
cut n = min n 201

abbrev pub worth_of : Expr → Worth
worth_of e = record { depth = cut (depth_of e); unsigned = is_unsigned e; word = word_of e }

abbrev pub constant_worth : Value → Worth
constant_worth v = record { depth = 1; unsigned = v.unsigned; word = Some v.word }

abbrev pub grouped_worth : Worth → Worth
grouped_worth w = record { depth = cut (1 + w.depth); unsigned = w.unsigned; word = w.word }

abbrev pub unary_worth : UnaryOp → Worth → Worth
unary_worth op w = record { depth = cut (1 + w.depth); unsigned = unary_unsigned op w.unsigned; word = option_map (unary_word op) w.word }

abbrev pub binary_worth : BinaryOp → Worth → Worth → Worth
binary_worth op a b = record {
  depth = cut (1 + max a.depth b.depth);
  unsigned = binary_unsigned op a.unsigned b.unsigned;
  word = option_and_then (λ w. lazy_word op a.unsigned (a.unsigned || b.unsigned) w b.word) a.word;
}

abbrev pub choice_worth : Worth → Worth → Worth → Worth
choice_worth c a b = record {
  depth = cut (1 + max c.depth (max a.depth b.depth));
  unsigned = a.unsigned || b.unsigned;
  word = option_and_then (λ w. if is_true w then a.word else b.word) c.word;
}

-- what is read, by its worth
abbrev pub worth_read : Found → Option (Worth × List PpTok)
worth_read found = option_map (λ p. (worth_of p.0, p.1)) found

-- what a function that reads answers
abbrev pub Reads : Found → Option Worth → List PpTok → Type 0
Reads found None rest = found ≡ None
Reads found (Some w) rest = worth_read found ≡ Some (w, rest)

-- whether this text came next, and was passed
abbrev pub Eats : Option (List PpTok) → Bool → List PpTok → List PpTok → Type 0
Eats behind true old new = behind ≡ Some new
Eats behind false old new = (behind ≡ None) × (new ≡ old)

-- the next token was taken, or there was none
abbrev pub Takes : Option (Bor PpTok) → List PpTok → List PpTok → Type 0
Takes None old new = old ≡ []
Takes (Some tok) old new = old ≡ tok.now ∷ new

abbrev pub Ends : Bool → List PpTok → Type 0
Ends true rest = rest ≡ []
Ends false rest = rest ≢ []

-- the rest of a choice is read, for any test of this worth
abbrev pub ReadsChoice : (List PpTok → Found) → Worth → List PpTok → Option Worth → List PpTok → Type 0
ReadsChoice whole test old result new = (c : Expr) → worth_of c ≡ test → Reads (choice_at whole c old) result new
