-- A macro takes the place of an earlier one of its name, or stands last.
use Rattle.std.proofs.Common.{◌≡◌, ℕ, ◌+◌, Bool, true, false, not, ◌||◌, cond, List, [], ◌∷◌, length, map, string_bytes, String, refl, sym, ap, ◌∙◌, arith}
use Rattle.std.specs.Prelude.{if◌then◌else◌}
use Rattle.std.specs.declared.alloc.Global.{Global}
use Rattle.std.specs.List.{list_any, position_or_len}
use Rattle.std.specs.Str.{bytes_eq}
use Rattle.std.specs.String.{string_eq}
use Rattle.std.proofs.lemmas.Cmp.{nat_list_eq_equiv}
use Rattle.std.proofs.lemmas.Slice.Eq.{bytes_eq-Decides}
use Rattle.indexmap.specs.IndexMap.{insert_entry}
use Rattle.qv_words.specs.Define.{with_definition}
use Rattle.qv_words.specs.Shown.{define_shown}

abbrev pub Pair : Type 0
Pair = List ℕ × List ℕ

-- the macros of a map, one more of which is inserted
module _ (name text : String Global) where
  inserted_step : (k : Bool) (e : String Global × String Global) (es : List (String Global × String Global)) → bytes_eq (string_bytes name) (string_bytes e.0) ≡ k →
      map define_shown (insert_entry string_eq es name text) ≡ with_definition (string_bytes name, string_bytes text) (map define_shown es) →
      map define_shown (if k then (e.0, text) ∷ es else e ∷ insert_entry string_eq es name text)
      ≡ (if k then (string_bytes name, string_bytes text) ∷ map define_shown es else define_shown e ∷ with_definition (string_bytes name, string_bytes text) (map define_shown es))
  inserted_step true e es is rest = ap (λ n. (n, string_bytes text) ∷ map define_shown es) (sym ((bytes_eq-Decides (string_bytes name) (string_bytes e.0)).0 is))
  inserted_step false e es is rest = ap (λ l. define_shown e ∷ l) rest

  pub inserted : (es : List (String Global × String Global)) → map define_shown (insert_entry string_eq es name text) ≡ with_definition (string_bytes name, string_bytes text) (map define_shown es)
  inserted [] = refl
  inserted (e ∷ es) =
      inserted_step (bytes_eq (string_bytes name) (string_bytes e.0)) e es refl (inserted es)
      ∙ ap (λ k. if k then (string_bytes name, string_bytes text) ∷ map define_shown es else define_shown e ∷ with_definition (string_bytes name, string_bytes text) (map define_shown es)) (nat_list_eq_equiv.symm (string_bytes name) (string_bytes e.0))

lacking_step : (k a : Bool) (n m : ℕ) → (n ≡ m → a ≡ false) → cond (not k) (1 + n) 0 ≡ 1 + m → (k || a) ≡ false
lacking_step true a n m rest e = absurd (omega arith)
lacking_step false a n m rest e = let same : n ≡ m = omega arith in rest same

-- where the first place is the end, none passes
pub lacking : (p : ℕ → Bool) (xs : List ℕ) → position_or_len p xs ≡ length xs → list_any p xs ≡ false
lacking p [] e = refl
lacking p (x ∷ xs) e =
    let more : cond (not (p x)) (1 + position_or_len p xs) 0 ≡ 1 + length xs = omega (arith, e) in
    lacking_step (p x) (list_any p xs) (position_or_len p xs) (length xs) (lacking p xs) more
