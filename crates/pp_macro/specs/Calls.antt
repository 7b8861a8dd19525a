-- The call of a function-like macro, and what a name is replaced by.
use Rattle.std.specs.Prelude.{ℕ, ◌+◌, ◌-◌, Bool, true, false, ◌==◌, nat_le, codes, unwrap_or, if◌then◌else◌, List, [], ◌∷◌, ◌++◌, map, length, Option, Some, None, Result, Ok, Err}
use Rattle.qv_base.specs.declared.place.Place.{Place}
use Rattle.pp_tok.specs.declared.token.PpTok.{PpTok}
use Rattle.pp_macro.specs.declared.macros.Macro.{Macro}
use Rattle.pp_macro.specs.declared.pending.Pending.{Pending}
use Rattle.pp_macro.specs.declared.pieces.Piece.{Piece}
use Rattle.pp_macro.specs.declared.fault.ExpandFault.{ExpandFault}
use Rattle.pp_macro.specs.declared.fault.ExpandFault.TheVariants.{ArgCount, OpenCall, MacroLimit}
use Rattle.pp_macro.specs.Tokens.{common, hiding, is_mark}
use Rattle.pp_macro.specs.Pieces.{pieces, wants}
use Rattle.pp_macro.specs.Fill.{Filled, filled}

infixl 10 ◌>>=◌
abbrev pub ◌>>=◌ : {A B : Type 0} → Result A ExpandFault → (A → Result B ExpandFault) → Result B ExpandFault
(Ok x) >>= f = f x
(Err e) >>= f = Err e

-- the most replacements of a unit
abbrev pub limit : ℕ
limit = 1000000

-- the tokens, and the count of replacements so far
abbrev pub Outcome : Type 0
Outcome = Result (List PpTok × ℕ) ExpandFault

-- the place of the name with which the outermost replacement around a token began, or its own
abbrev pub began : Pending → Place
began t = unwrap_or t.outer t.token.place

-- the arguments, the closing parenthesis, and what comes after it
pub record Taken : Type 0 where
  pub args : List (List PpTok)
  pub close : PpTok
  pub after : List Pending

-- Behind the opening parenthesis, within so many open ones: the arguments so far, and the last one so far.
abbrev pub take_next : (ℕ → List (List PpTok) → List PpTok → Option Taken) → ℕ → List (List PpTok) → List PpTok → PpTok → List Pending → Option Taken
take_next go depth args arg t ts =
    if is_mark (codes "(") t then go (depth + 1) args (arg ++ t ∷ [])
    else if is_mark (codes ")") t then
    (if depth == 0 then Some (record { args = args ++ arg ∷ []; close = t; after = ts }) else go (depth - 1) args (arg ++ t ∷ []))
    else if is_mark (codes ",") t then
    (if depth == 0 then go depth (args ++ arg ∷ []) [] else go depth args (arg ++ t ∷ []))
    else go depth args (arg ++ t ∷ [])

unfoldable pub call_at : List Pending → ℕ → List (List PpTok) → List PpTok → Option Taken
call_at [] depth args arg = None
call_at (t ∷ ts) depth args arg = take_next (call_at ts) depth args arg t.token ts

abbrev pub opens : List Pending → Bool
opens [] = false
opens (t ∷ ts) = is_mark (codes "(") t.token

abbrev pub tail_of : List Pending → List Pending
tail_of [] = []
tail_of (t ∷ ts) = ts

-- a macro of no parameters takes one empty list
abbrev pub counts : List (List ℕ) → List (List PpTok) → Bool
counts [] ([] ∷ []) = true
counts params args = length params == length args

-- a token that a replacement brings, hiding these names too
abbrev pub from_macro : Place → List (List ℕ) → PpTok → Pending
from_macro place names t = record { token = hiding names t; outer = Some place }

abbrev pub all_from : Place → List (List ℕ) → List PpTok → List Pending
all_from place names ts = map (from_macro place names) ts

-- what a name is replaced by, the count of replacements so far, and what comes behind it
pub record Change : Type 0 where
  pub tokens : List Pending
  pub count : ℕ
  pub rest : List Pending

abbrev pub changed : Place → List (List ℕ) → ℕ → List Pending → Filled → Result Change ExpandFault
changed place names count rest (Ok ts) = Ok (record { tokens = all_from place names ts; count = count; rest = rest })
changed place names count rest (Err e) = Err e

-- `inner` expands an argument, for the place where the outermost replacement began.
module _ (inner : Place → ℕ → List PpTok → Outcome) where
  abbrev pub one_of : Place → ℕ → Bool → List PpTok → Outcome
  one_of place count wanted a = if wanted then inner place count a else Ok ([], count)

  -- the arguments that the body asks for expanded, in order, from the one of this number on
  unfoldable pub each : Place → List Piece → ℕ → ℕ → List (List PpTok) → Result (List (List PpTok) × ℕ) ExpandFault
  each place body at count [] = Ok ([], count)
  each place body at count (a ∷ more) = one_of place count (wants at body) a >>= λ x. each place body (at + 1) x.1 more >>= λ xs. Ok (x.0 ∷ xs.0, xs.1)

  -- a call with its arguments
  abbrev pub called : ℕ → Pending → List Piece → Taken → Result Change ExpandFault
  called count t body c =
      each (began t) body 0 count c.args
      >>= λ x. changed (began t) (common t.token.hidden c.close.hidden ++ t.token.spelling ∷ []) x.1 c.after (filled c.args x.0 (began t) body)

  abbrev pub if_taken : ℕ → Pending → List (List ℕ) → List PpTok → Option Taken → Result Change ExpandFault
  if_taken count t params body None = Err (OpenCall (began t))
  if_taken count t params body (Some c) = if counts params c.args then called count t (pieces params None false body) c else Err (ArgCount (began t))

  abbrev pub by_params : ℕ → Pending → List PpTok → List Pending → Option (List (List ℕ)) → Result Change ExpandFault
  by_params count t body ts None = changed (began t) (t.token.hidden ++ t.token.spelling ∷ []) count ts (filled [] [] (began t) (pieces [] None false body))
  by_params count t body ts (Some params) = if_taken count t params body (call_at (tail_of ts) 0 [] [])

  unfoldable pub change : ℕ → Pending → Macro → List Pending → Result Change ExpandFault
  change count t m ts = if nat_le limit count then Err (MacroLimit (began t)) else by_params (count + 1) t m.body ts m.params
