-- What a table says of names, after a write.
use Rattle.std.proofs.Common.{◌≡◌, ℕ, Bool, true, false, List, [], ◌∷◌, Option, Some, cond, refl, sym, ap, ◌∙◌, true≢false}
use Rattle.std.specs.Cmp.Lexicographic.{bytes_decides}
use Rattle.std.specs.Map.{lookup, set_value}
use Rattle.std.specs.Option.{option_flatten}
use Rattle.std.specs.Str.{bytes_eq}
use Rattle.std.specs.declared.vec.Vec.{Vec}
use Rattle.indexmap.specs.IndexMap.{insert_entry}

-- whether the bytes of a key are these
abbrev pub is_name : {Y : Type 0} → List ℕ → Vec ℕ Y → Bool
is_name name k = bytes_eq name k.items

module _ {X : Type 0} (q n m : List ℕ) (w v : X) (rest : Option X) where
  -- a first key that has the name
  here : bytes_eq n m ≡ true → cond (bytes_eq q m) (Some w) rest ≡ cond (bytes_eq q n) (Some w) (cond (bytes_eq q m) (Some v) rest)
  here e = either (bytes_eq q m) ∙ ap (λ k. cond (bytes_eq q k) (Some w) (cond (bytes_eq q m) (Some v) rest)) (sym ((bytes_decides n m).0 e))
    where
      either : (b : Bool) → cond b (Some w) rest ≡ cond b (Some w) (cond b (Some v) rest)
      either true = refl
      either false = refl

  -- one that has another name
  there : bytes_eq n m ≡ false → cond (bytes_eq q m) (Some v) (cond (bytes_eq q n) (Some w) rest) ≡ cond (bytes_eq q n) (Some w) (cond (bytes_eq q m) (Some v) rest)
  there e = either (bytes_eq q m) (bytes_eq q n) refl refl
    where
      either : (a b : Bool) → bytes_eq q m ≡ a → bytes_eq q n ≡ b → cond a (Some v) (cond b (Some w) rest) ≡ cond b (Some w) (cond a (Some v) rest)
      either true true is_m is_n = absurd (true≢false (sym ((bytes_decides n m).1 (sym ((bytes_decides q n).0 is_n) ∙ (bytes_decides q m).0 is_m)) ∙ e))
      either true false is_m is_n = refl
      either false b is_m is_n = refl

module _ {X Y : Type 0} (q : List ℕ) where
  pub lookup-inserted : (es : List (Vec ℕ Y × X)) (k : Vec ℕ Y) (w : X) → lookup (is_name q) (insert_entry (λ a b. bytes_eq a.items b.items) es k w) ≡ cond (bytes_eq q k.items) (Some w) (lookup (is_name q) es)
  lookup-inserted [] k w = refl
  lookup-inserted (e ∷ es) k w = either (bytes_eq k.items e.0.items) refl (lookup-inserted es k w)
    where
      either : (b : Bool) → bytes_eq k.items e.0.items ≡ b
          → lookup (is_name q) (insert_entry (λ a b. bytes_eq a.items b.items) es k w) ≡ cond (bytes_eq q k.items) (Some w) (lookup (is_name q) es)
          → lookup (is_name q) (cond b ((e.0, w) ∷ es) (e ∷ insert_entry (λ a b. bytes_eq a.items b.items) es k w)) ≡ cond (bytes_eq q k.items) (Some w) (lookup (is_name q) (e ∷ es))
      either true is rest = here q k.items e.0.items w e.1 (lookup (is_name q) es) is
      either false is rest = ap (cond (bytes_eq q e.0.items) (Some e.1)) rest ∙ there q k.items e.0.items w e.1 (lookup (is_name q) es) is

  -- where the name is there
  pub lookup-written : (es : List (Vec ℕ Y × X)) (n : List ℕ) (v w : X) → lookup (is_name n) es ≡ Some v → lookup (is_name q) (set_value (is_name n) es w) ≡ cond (bytes_eq q n) (Some w) (lookup (is_name q) es)
  lookup-written [] n v w is = cc
  lookup-written (e ∷ es) n v w is = either (bytes_eq n e.0.items) refl (lookup-written es n v w)
    where
      either : (b : Bool) → bytes_eq n e.0.items ≡ b
          → (lookup (is_name n) es ≡ Some v → lookup (is_name q) (set_value (is_name n) es w) ≡ cond (bytes_eq q n) (Some w) (lookup (is_name q) es))
          → lookup (is_name q) (cond b ((e.0, w) ∷ es) (e ∷ set_value (is_name n) es w)) ≡ cond (bytes_eq q n) (Some w) (lookup (is_name q) (e ∷ es))
      either true first rest = here q n e.0.items w e.1 (lookup (is_name q) es) first
      either false first rest =
          let found : lookup (is_name n) es ≡ Some v = sym (ap (λ b. cond b (Some e.1) (lookup (is_name n) es)) first) ∙ is in
          ap (cond (bytes_eq q e.0.items) (Some e.1)) (rest found) ∙ there q n e.0.items w e.1 (lookup (is_name q) es) first

-- of an answer that may be none
pub flat : {X : Type 0} (b : Bool) (w : Option X) (o : Option (Option X)) → option_flatten (cond b (Some w) o) ≡ cond b w (option_flatten o)
flat true w o = refl
flat false w o = refl
