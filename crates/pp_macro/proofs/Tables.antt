-- The table of macros and the list that contracts see of it.
use Rattle.std.proofs.Common.{◌≡◌, ℕ, Bool, true, false, List, [], ◌∷◌, Option, Some, None, cond, refl, ap, ◌∙◌}
use Rattle.std.specs.Map.{lookup, set_value}
use Rattle.std.specs.Str.{bytes_eq}
use Rattle.std.specs.declared.vec.Vec.{Vec}
use Rattle.indexmap.specs.IndexMap.{insert_entry}
use Rattle.pp_macro.specs.declared.macros.Macro.{Macro}
use Rattle.pp_macro.specs.Macros.{Entry, defined_in, find, set_in, undefined_in, unless_found}
use Rattle.pp_macro.specs.Shown.{entry_of, same_key, shown}

-- whether the bytes of a key are these
abbrev pub is_name : {Y : Type 0} → List ℕ → Vec ℕ Y → Bool
is_name name k = bytes_eq name k.items

abbrev pub meaning_in : Option (Option Macro) → Option Macro
meaning_in None = None
meaning_in (Some m) = m

module _ {Y : Type 0} where
  pub find-shown : (es : List (Vec ℕ Y × Option Macro)) (name : List ℕ) → find (shown es) name ≡ meaning_in (lookup (is_name name) es)
  find-shown [] name = refl
  find-shown (e ∷ es) name = ap (cond (bytes_eq name e.0.items) e.1) (find-shown es name) ∙ either (bytes_eq name e.0.items) (lookup (is_name name) es)
    where
      either : (b : Bool) (o : Option (Option Macro)) → cond b e.1 (meaning_in o) ≡ meaning_in (cond b (Some e.1) o)
      either true o = refl
      either false o = refl

  pub set-shown : (es : List (Vec ℕ Y × Option Macro)) (k : Vec ℕ Y) (m : Macro) → k.items ≡ m.name → shown (insert_entry same_key es k (Some m)) ≡ set_in (shown es) m
  set-shown [] k m is = ap (λ (n : List ℕ). record { name = n; meaning = Some m } ∷ []) is
  set-shown (e ∷ es) k m is =
      ap (λ (n : List ℕ). shown (cond (bytes_eq n e.0.items) ((e.0, Some m) ∷ es) (e ∷ insert_entry same_key es k (Some m)))) is
      ∙ either (bytes_eq m.name e.0.items) (insert_entry same_key es k (Some m)) (set_in (shown es) m) (set-shown es k m is)
    where
      either : (b : Bool) (fs : List (Vec ℕ Y × Option Macro)) (gs : List Entry) → shown fs ≡ gs
          → shown (cond b ((e.0, Some m) ∷ es) (e ∷ fs)) ≡ cond b (record { name = e.0.items; meaning = Some m } ∷ shown es) (entry_of e ∷ gs)
      either true fs gs same = refl
      either false fs gs same = ap (λ (rest : List Entry). entry_of e ∷ rest) same

module _ {Y : Type 0} where
  pub cleared-shown : (es : List (Vec ℕ Y × Option Macro)) (name : List ℕ) → shown (set_value (is_name name) es None) ≡ undefined_in (shown es) name
  cleared-shown [] name = refl
  cleared-shown (e ∷ es) name = either (bytes_eq name e.0.items) (set_value (is_name name) es None) (undefined_in (shown es) name) (cleared-shown es name)
    where
      either : (b : Bool) (fs : List (Vec ℕ Y × Option Macro)) (gs : List Entry) → shown fs ≡ gs
          → shown (cond b ((e.0, None) ∷ es) (e ∷ fs)) ≡ cond b (record { name = e.0.items; meaning = None } ∷ shown es) (entry_of e ∷ gs)
      either true fs gs same = refl
      either false fs gs same = ap (λ (rest : List Entry). entry_of e ∷ rest) same

  -- a name that isn't there
  pub kept-shown : (es : List (Vec ℕ Y × Option Macro)) (name : List ℕ) → lookup (is_name name) es ≡ None → shown es ≡ undefined_in (shown es) name
  kept-shown [] name none = refl
  kept-shown (e ∷ es) name none = either (bytes_eq name e.0.items) none (kept-shown es name)
    where
      either : (b : Bool) → cond b (Some e.1) (lookup (is_name name) es) ≡ None → (lookup (is_name name) es ≡ None → shown es ≡ undefined_in (shown es) name)
          → shown (e ∷ es) ≡ cond b (record { name = e.0.items; meaning = None } ∷ shown es) (entry_of e ∷ undefined_in (shown es) name)
      either true none more = absurd cc
      either false none more = ap (λ (rest : List Entry). entry_of e ∷ rest) (more none)

-- a name that stands for no macro is set
pub defines : (table : List Entry) (m : Macro) → find table m.name ≡ None → defined_in table m ≡ set_in table m
defines table m none = ap (unless_found table m) none
