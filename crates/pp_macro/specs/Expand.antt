-- Expansion of a list from the left.
use Rattle.std.specs.Prelude.{ℕ, zero, suc, ◌-◌, not, ◌&&◌, codes, decimal, slice_index_or, if◌then◌else◌, List, [], ◌∷◌, ◌++◌, map, Option, Some, None, Ok, Err}
use Rattle.std.specs.Str.{bytes_eq}
use Rattle.qv_base.specs.declared.place.Place.{Place}
use Rattle.pp_tok.specs.declared.token.PpTok.{PpTok}
use Rattle.pp_tok.specs.declared.token.PpKind.{PpKind}
use Rattle.pp_tok.specs.declared.token.PpKind.TheVariants as k
use Rattle.pp_macro.specs.declared.macros.Macro.{Macro}
use Rattle.pp_macro.specs.declared.pending.Pending.{Pending}
use Rattle.pp_macro.specs.declared.fault.ExpandFault.TheVariants.{MacroLimit}
use Rattle.pp_macro.specs.Tokens.{escaped, hides_itself, is_ident, made, quoted}
use Rattle.pp_macro.specs.Macros.{Entry, find}
use Rattle.pp_macro.specs.Calls.{Outcome, began, change, limit, opens, ◌>>=◌}

abbrev pub with_front : List PpTok → Outcome → Outcome
with_front front (Ok p) = Ok (front ++ p.0, p.1)
with_front front (Err e) = Err e

-- an object-like macro whose body is one token with the place and the blanks of the name
abbrev pub standing_for : PpTok → PpKind → List ℕ → Macro
standing_for name kind spelling = record { name = name.spelling; params = None; body = made kind spelling name ∷ [] }

abbrev pub file_name : List (List ℕ) → ℕ → List ℕ
file_name names file = slice_index_or names file []

abbrev pub if_called : List Pending → Macro → Option (List (List ℕ)) → Option Macro
if_called ts m None = Some m
if_called ts m (Some params) = if opens ts then Some m else None

abbrev pub if_found : List Pending → Option Macro → Option Macro
if_found ts None = None
if_found ts (Some m) = if_called ts m m.params

abbrev pub within : Option Place → List PpTok → List Pending
within outer ts = map (λ t. record { token = t; outer = outer }) ts

-- the tables of the expansion: the macros, and the names of the files
module _ (table : List Entry) (names : List (List ℕ)) where
  -- the macro that a name stands for, the predefined ones first
  abbrev pub meaning_of : Pending → Option Macro
  meaning_of t =
      if bytes_eq t.token.spelling (codes "__LINE__") then Some (standing_for t.token k.Number (decimal (began t).line))
      else if bytes_eq t.token.spelling (codes "__FILE__") then Some (standing_for t.token k.Text (quoted (escaped (file_name names (began t).file))))
      else if bytes_eq t.token.spelling (codes "__STDC__") then Some (standing_for t.token k.Number (codes "1"))
      else find table t.token.spelling

  -- the macro that the first token is to be replaced by: none for a name that hides itself
  unfoldable pub due : Pending → List Pending → Option Macro
  due t ts = if is_ident t.token.kind && not (hides_itself t.token) then if_found ts (meaning_of t) else None

  -- `inner` expands an argument.
  module _ (inner : Place → ℕ → List PpTok → Outcome) where
    -- `again` reads a result and what comes behind it again.
    module _ (again : ℕ → List Pending → Outcome) where
      abbrev pub replaced : ℕ → Pending → List Pending → Outcome → Option Macro → Outcome
      replaced count t ts stays None = stays
      replaced count t ts stays (Some m) = change inner count t m ts >>= λ c. again c.count (c.tokens ++ c.rest)

      unfoldable pub pass : ℕ → List Pending → Outcome
      pass count [] = Ok ([], count)
      pass count (t ∷ ts) = replaced count t ts (with_front (t.token ∷ []) (pass count ts)) (due t ts)

    -- with at most so many replacements more
    unfoldable pub walk : ℕ → ℕ → List Pending → Outcome
    -- only to be total: as the bound is `limit - count`, `change` refuses where none is left, and nothing is read again
    walk zero = pass (λ count ts. Err (MacroLimit (record { file = 0; line = 0 })))
    walk (suc n) = pass (walk n)

  -- an argument, with arguments within arguments less deep than the number
  unfoldable pub expand_in : ℕ → Place → ℕ → List PpTok → Outcome
  expand_in zero place count ts = Err (MacroLimit place)
  expand_in (suc depth) place count ts = walk (expand_in depth) (limit - count) count (within (Some place) ts)

-- the expansion of a list, from a count of replacements on: the tokens and the new count
unfoldable pub expand_list : List Entry → List (List ℕ) → ℕ → List PpTok → Outcome
expand_list table names count ts = walk table names (expand_in table names 200) (limit - count) count (within None ts)
