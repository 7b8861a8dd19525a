-- Definitions of macros: `name=text`, or `name` for `name=1`.
use Rattle.std.specs.Prelude.{ℕ, Bool, ◌&&◌, ◌==◌, not, List, [], ◌∷◌, codes, Option, Some, None, if◌then◌else◌}
use Rattle.std.specs.List.{list_any, before_first, after_first}
use Rattle.std.specs.Str.{bytes_eq}
use Rattle.pp_tok.specs.Sole.{is_identifier}
use Rattle.qv_words.specs.Text.{is_definition_text}

-- names that can't be defined
abbrev pub reserved : List (List ℕ)
reserved = codes "defined" ∷ codes "__STDC__" ∷ codes "__FILE__" ∷ codes "__LINE__" ∷ codes "__DATE__" ∷ codes "__TIME__" ∷ []

abbrev pub is_macro_name : List ℕ → Bool
is_macro_name name = is_identifier name && not (list_any (bytes_eq name) reserved)

abbrev pub defined_as : List ℕ → List ℕ → Option (List ℕ × List ℕ)
defined_as name text = if is_macro_name name && is_definition_text text then Some (name, text) else None

abbrev pub is_equals : ℕ → Bool
is_equals b = b == 61

-- the name and the text, which is all behind the first `=`
abbrev pub definition_of : List ℕ → Option (List ℕ × List ℕ)
definition_of value = if list_any is_equals value then defined_as (before_first is_equals value) (after_first is_equals value) else defined_as value (codes "1")

-- a later definition of a name takes the place of an earlier one
abbrev pub with_definition : List ℕ × List ℕ → List (List ℕ × List ℕ) → List (List ℕ × List ℕ)
with_definition d [] = d ∷ []
with_definition d (e ∷ es) = if bytes_eq e.0 d.0 then d ∷ es else e ∷ with_definition d es
