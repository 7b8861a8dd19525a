-- The table of macros: the names that were ever defined, in order, with what they stand for now.
use Rattle.std.specs.Prelude.{ℕ, Bool, true, false, ◌&&◌, not, if◌then◌else◌, List, [], ◌∷◌, Option, Some, None}
use Rattle.std.specs.Str.{bytes_eq}
use Rattle.pp_tok.specs.declared.token.PpTok.{PpTok}
use Rattle.pp_macro.specs.declared.macros.Macro.{Macro}

-- a name with the macro that it stands for, None where it was undefined
pub record Entry : Type 0 where
  pub name : List ℕ
  pub meaning : Option Macro

-- the macro that a name stands for
abbrev pub find : List Entry → List ℕ → Option Macro
find [] name = None
find (e ∷ es) name = if bytes_eq name e.name then e.meaning else find es name

-- a macro takes the place of its name's entry, or is added at the end
abbrev pub set_in : List Entry → Macro → List Entry
set_in [] m = record { name = m.name; meaning = Some m } ∷ []
set_in (e ∷ es) m = if bytes_eq m.name e.name then record { name = e.name; meaning = Some m } ∷ es else e ∷ set_in es m

abbrev pub unless_found : List Entry → Macro → Option Macro → List Entry
unless_found table m (Some n) = table
unless_found table m None = set_in table m

-- the table with a macro more: one whose name stands for a macro leaves it as it is
abbrev pub defined_in : List Entry → Macro → List Entry
defined_in table m = unless_found table m (find table m.name)

-- a name stands for no macro any more
abbrev pub undefined_in : List Entry → List ℕ → List Entry
undefined_in [] name = []
undefined_in (e ∷ es) name = if bytes_eq name e.name then record { name = e.name; meaning = None } ∷ es else e ∷ undefined_in es name

abbrev pub same_token : PpTok → PpTok → Bool
same_token a b = bytes_eq a.spelling b.spelling && (if a.space then b.space else not b.space)

-- the same spellings, with blanks at the same places
abbrev pub same_tail : List PpTok → List PpTok → Bool
same_tail [] [] = true
same_tail (a ∷ as') (b ∷ bs) = same_token a b && same_tail as' bs
same_tail _ _ = false

-- the blank before the first token doesn't count
abbrev pub same_body : List PpTok → List PpTok → Bool
same_body [] [] = true
same_body (a ∷ as') (b ∷ bs) = bytes_eq a.spelling b.spelling && same_tail as' bs
same_body _ _ = false

abbrev pub same_names : List (List ℕ) → List (List ℕ) → Bool
same_names [] [] = true
same_names (a ∷ as') (b ∷ bs) = bytes_eq a b && same_names as' bs
same_names _ _ = false

abbrev pub same_params : Option (List (List ℕ)) → Option (List (List ℕ)) → Bool
same_params None None = true
same_params (Some a) (Some b) = same_names a b
same_params _ _ = false

-- a macro that may be defined again as the other one
abbrev pub same_macro : Macro → Macro → Bool
same_macro m n = same_params m.params n.params && same_body m.body n.body

abbrev pub differs : Macro → Option Macro → Bool
differs m None = false
differs m (Some n) = not (same_macro n m)

-- whether the name stands for another macro
abbrev pub redefines : List Entry → Macro → Bool
redefines table m = differs m (find table m.name)
