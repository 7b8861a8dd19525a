-- The first form of a unit: `int vmMain(int command) { return E; }`, where E is 1 to 200 terms joined by
-- signs, and a term is `command` or a decimal constant of int.
use Rattle.std.specs.Prelude.{ℕ, ◌-◌, ◌^◌, Bool, true, false, ◌==◌, nat_lt, List, [], ◌∷◌, length, map, codes, if◌then◌else◌, Option, Some, None, option_map, option_and_then, not}
use Rattle.std.specs.Str.{bytes_eq}
use Rattle.qv_base.specs.Decimal.{decimal_up_to}
use Rattle.pp_tok.specs.declared.token.PpTok.{PpTok}
use Rattle.qcc_front.specs.declared.sum.Term.{Term}
use Rattle.qcc_front.specs.declared.sum.Term.TheVariants.{Command, Number}
use Rattle.qcc_front.specs.declared.sum.Sign.{Sign}
use Rattle.qcc_front.specs.declared.sum.Sign.TheVariants.{Plus, Minus}
use Rattle.qcc_front.specs.declared.sum.SignedTerm.{SignedTerm}
use Rattle.qcc_front.specs.Sum.{Sum}

-- what tokens say
abbrev pub spellings : List PpTok → List (List ℕ)
spellings toks = map (λ (t : PpTok). t.spelling) toks

-- a zero stands before no other digit
abbrev pub is_plain : List ℕ → Bool
is_plain [] = false
is_plain (b ∷ []) = true
is_plain (b ∷ bs) = not (b == 48)

-- a decimal constant from 0 to 2,147,483,647
abbrev pub number_of : List ℕ → Option ℕ
number_of t = if is_plain t then decimal_up_to (2 ^ 31 - 1) t else None

abbrev pub term_of : List ℕ → Option Term
term_of t = if bytes_eq t (codes "command") then Some Command else option_map Number (number_of t)

abbrev pub sign_of : List ℕ → Option Sign
sign_of t = if bytes_eq t (codes "+") then Some Plus else (if bytes_eq t (codes "-") then Some Minus else None)

-- the closing brace and nothing more
abbrev pub closed : List (List ℕ) → Option (List SignedTerm)
closed (t ∷ []) = if bytes_eq t (codes "}") then Some [] else None
closed ts = None

-- a sign, a term and those behind them, where each stands
abbrev pub signed_and : Option Sign → Option Term → Option (List SignedTerm) → Option (List SignedTerm)
signed_and (Some sign) (Some term) (Some rest) = Some (record { sign = sign; term = term } ∷ rest)
signed_and sign term rest = None

-- signs and terms, then the semicolon, the closing brace and nothing more
abbrev pub rest_of : List (List ℕ) → Option (List SignedTerm)
rest_of [] = None
rest_of (s ∷ []) = None
rest_of (s ∷ t ∷ ts) = if bytes_eq s (codes ";") then closed (t ∷ ts) else signed_and (sign_of s) (term_of t) (rest_of ts)

abbrev pub sum_and : Option Term → Option (List SignedTerm) → Option Sum
sum_and (Some first) (Some rest) = Some (record { first = first; rest = rest })
sum_and first rest = None

abbrev pub sum_of_tokens : List (List ℕ) → Option Sum
sum_of_tokens [] = None
sum_of_tokens (t ∷ ts) = sum_and (term_of t) (rest_of ts)

-- the tokens behind these words
abbrev pub behind : List (List ℕ) → List (List ℕ) → Option (List (List ℕ))
behind [] ts = Some ts
behind (w ∷ ws) [] = None
behind (w ∷ ws) (t ∷ ts) = if bytes_eq t w then behind ws ts else None

abbrev pub header_end : List (List ℕ)
header_end = codes "command" ∷ codes ")" ∷ codes "{" ∷ codes "return" ∷ []

abbrev pub header : List (List ℕ)
header = codes "int" ∷ codes "vmMain" ∷ codes "(" ∷ codes "int" ∷ header_end

-- at most 200 terms
abbrev pub limited : Sum → Option Sum
limited e = if nat_lt (length e.rest) 200 then Some e else None

-- the sum that a unit of the first form returns; none where these tokens aren't one
unfoldable pub unit_of : List (List ℕ) → Option Sum
unit_of toks = option_and_then limited (option_and_then sum_of_tokens (behind header toks))
