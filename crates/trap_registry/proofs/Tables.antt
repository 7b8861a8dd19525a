-- The table of the parts of a map's values: what is found in it, and one value more.
use Rattle.std.proofs.Common.{◌≡◌, ℕ, List, [], ◌∷◌, Option, Some, None, Bool, true, false, cond, refl, ap, sym, subst, ◌∙◌}
use Rattle.std.specs.Prelude.{map as list_map, IsSome, IsSomeAnd}
use Rattle.std.specs.Ordering.{nat_cmp, is_eq, eq_by_cmp}
use Rattle.std.specs.Option.{option_map, option_copied}
use Rattle.std.specs.Cmp.{nat_cmp_total, eq_by_cmp_equiv}
use Rattle.std.specs.FinMap as map
use Rattle.std.specs.FinMap.{FinMap, get-from_entries, get-insert, same_map, nat_cmp-IsAntisymmetric}
use Rattle.std.specs.Map.{lookup}
use denote.Ref.{Bor}
use Rattle.std.specs.BTreeMap as tree
use Rattle.std.specs.BTreeMap.{BTreeMap}

module _ {V X : Type 0} (part : V → X) where
  -- the part of each value, by the value's key
  abbrev pub parts : List (ℕ × V) → FinMap nat_cmp X
  parts es = map.from_entries (list_map (λ e. (e.0, part e.1)) es)

  map-cond : (b : Bool) (v : V) (o : Option V) → cond b (Some (part v)) (option_map part o) ≡ option_map part (cond b (Some v) o)
  map-cond true v o = refl
  map-cond false v o = refl

  copied-map : (o : Option (Bor V)) → option_map (λ (v : Bor V). part v.now) o ≡ option_map part (option_copied o)
  copied-map None = refl
  copied-map (Some v) = refl

  find-map : (q : ℕ) (es : List (ℕ × V)) → map.find nat_cmp q (list_map (λ e. (e.0, part e.1)) es) ≡ option_map part (lookup (λ k. is_eq (nat_cmp q k)) es)
  find-map q [] = refl
  find-map q (e ∷ es) = ap (cond (eq_by_cmp nat_cmp q e.0) (Some (part e.1))) (find-map q es) ∙ map-cond (eq_by_cmp nat_cmp q e.0) e.1 _

  -- what is found under a number
  pub get-parts : (m : BTreeMap ℕ V) (q : ℕ) → map.get (parts m.entries) q ≡ option_map part (tree.get nat_cmp m q)
  get-parts m q = get-from_entries nat_cmp_total _ q ∙ find-map q m.entries

  -- what a look-up in the map has found is what the table has
  pub found-parts : (m : BTreeMap ℕ V) (q : ℕ) (found : Option (Bor V)) → option_copied found ≡ tree.get nat_cmp m q → option_map (λ (v : Bor V). part v.now) found ≡ map.get (parts m.entries) q
  found-parts m q found e = copied-map found ∙ ap (option_map part) e ∙ sym (get-parts m q)

  -- one value more
  pub parts-insert : (m n : BTreeMap ℕ V) (k : ℕ) (v : V) → tree.Updates nat_cmp m n k (Some v) → parts n.entries ≡ map.insert (parts m.entries) k (part v)
  parts-insert m n k v h = same_map nat_cmp_total nat_cmp-IsAntisymmetric _ _ (λ q.
      get-parts n q ∙ ap (option_map part) (h.0 q) ∙ sym (map-cond (is_eq (nat_cmp k q)) v (tree.get nat_cmp m q))
      ∙ ap (λ b. cond b (Some (part v)) (option_map part (tree.get nat_cmp m q))) ((eq_by_cmp_equiv nat_cmp_total).symm k q)
      ∙ ap (cond (eq_by_cmp nat_cmp q k) (Some (part v))) (sym (get-parts m q))
      ∙ sym (get-insert nat_cmp_total (parts m.entries) k (part v) q))

  is_some-map : (o : Option V) (P : X → Type 0) → IsSomeAnd (option_map part o) P → IsSome o
  is_some-map None P h = absurd h
  is_some-map (Some v) P h = refl

  -- a number with a part has a value
  pub has_value : (m : BTreeMap ℕ V) (q : ℕ) (P : X → Type 0) → IsSomeAnd (map.get (parts m.entries) q) P → IsSome (tree.get nat_cmp m q)
  has_value m q P h = let Q : Option X → Type 0 = λ o. IsSomeAnd o P in is_some-map _ P (subst Q (get-parts m q) h)

  -- what holds of the part holds of the value's
  pub value_meets : (m : BTreeMap ℕ V) (q : ℕ) (v : V) (P : X → Type 0) → IsSomeAnd (map.get (parts m.entries) q) P → tree.get nat_cmp m q ≡ Some v → P (part v)
  value_meets m q v P h e = let Q : Option X → Type 0 = λ o. IsSomeAnd o P in subst Q (get-parts m q ∙ ap (option_map part) e) h
