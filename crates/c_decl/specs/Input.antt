-- What a parser reads from, and the steps that every rule is made of.
use Rattle.std.specs.Prelude.{◌≡◌, ◌≢◌, ℕ, zero, suc, Bool, false, if◌then◌else◌, List, length, Option, Some, Result, Ok, Err}
use Rattle.c_tok.specs.declared.mark.Mark.{Mark}
use Rattle.c_tok.specs.declared.token.CTokKind.{CTokKind}
use Rattle.c_tok.specs.declared.token.CTokKind.TheVariants as c
use Rattle.c_tree.specs.declared.at.At.{At}
use Rattle.c_decl.specs.declared.fault.Halt.{Halt}
use Rattle.c_decl.specs.declared.fault.Halt.TheVariants.{NoMemory, Syntax}
use Rattle.c_decl.specs.Tokens.{Token, head_of, tail_of, at_of, same_mark}
use Rattle.c_decl.specs.State.{State}

-- the tokens that are left, and what is known before them
pub record Input : Type 0 where
  pub rest : List Token
  pub state : State

-- what comes next
unfoldable pub head : Input → Option CTokKind
head i = head_of i.rest

-- where it stands
unfoldable pub here : Input → At
here i = at_of i.rest

unfoldable pub next : Input → Input
next i = record i { rest = tail_of i.rest }

unfoldable pub left : Input → ℕ
left i = length i.rest

-- ---- parsers

abbrev pub Outcome : Type 0 → Type 0
Outcome A = Result (A × Input) Halt

abbrev pub Parser : Type 0 → Type 0
Parser A = Input → Outcome A

abbrev pub and_then : {A B : Type 0} → Outcome A → (A → Parser B) → Outcome B
and_then (Ok p) f = f p.0 p.1
and_then (Err e) f = Err e

infixl 10 ◌>>=◌
abbrev pub ◌>>=◌ : {A B : Type 0} → Parser A → (A → Parser B) → Parser B
p >>= f = λ i. and_then (p i) f

infixl 10 ◌>>◌
abbrev pub ◌>>◌ : {A B : Type 0} → Parser A → Parser B → Parser B
p >> q = p >>= (λ _. q)

abbrev pub pure : {A : Type 0} → A → Parser A
pure a = λ i. Ok (a, i)

unfoldable pub refusal : Input → Halt
refusal i = Syntax (left i)

abbrev pub refuse : {A : Type 0} → Parser A
refuse = λ i. Err (refusal i)

abbrev pub peek : Parser (Option CTokKind)
peek = λ i. Ok (head i, i)

abbrev pub ask : {A : Type 0} → (Input → A) → Parser A
ask f = λ i. Ok (f i, i)

-- what is known changes
abbrev pub change : (State → State) → Parser (Unit {0})
change f = λ i. Ok (tt, record i { state = f i.state })

abbrev pub skip : Parser (Unit {0})
skip = λ i. Ok (tt, next i)

abbrev pub is_mark : Mark → Option CTokKind → Bool
is_mark m (Some (c.Mark k)) = same_mark k m
is_mark m _ = false

unfoldable pub sees : Mark → Input → Bool
sees m i = is_mark m (head i)

unfoldable pub after : Mark → Input → Input
after m i = if sees m i then next i else i

-- takes the mark, if it comes next
abbrev pub eat : Mark → Parser Bool
eat m = λ i. Ok (sees m i, after m i)

unfoldable pub expect : Mark → Parser (Unit {0})
expect m = λ i. if sees m i then Ok (tt, next i) else refuse i

abbrev pub a_name : Option CTokKind → Parser (List ℕ)
a_name (Some (c.Ident n)) = skip >> pure n
a_name _ = refuse

-- goes on while `more` holds. The number bounds the turns; a turn takes a token, so the count of tokens is enough.
unfoldable pub turns : {A : Type 0} → (A → Input → Bool) → (A → Parser A) → ℕ → A → Parser A
turns more step zero a = λ i. Ok (a, i)
turns more step (suc n) a = λ i. if more a i then and_then (step a i) (turns more step n) else Ok (a, i)

-- goes on while `more` holds
unfoldable pub looped : {A : Type 0} → (A → Input → Bool) → (A → Parser A) → A → Parser A
looped more step a = λ i. turns more step (left i) a i

-- what a function that parses ensures: the parser's outcome, unless memory fails
abbrev pub Reads : {A : Type 0} → Outcome A → Result A Halt → Input → Type 0
Reads outcome (Ok a) new = outcome ≡ Ok (a, new)
Reads outcome (Err e) new = e ≢ NoMemory → outcome ≡ Err e
