-- Names one after another, none of which came before.
use Rattle.std.proofs.Common.{◌≡◌, ℕ, ◌+◌, ◌<◌, Bool, true, false, not, ◌&&◌, ◌||◌, List, [], ◌∷◌, ◌++◌, length, get_or, take, drop, map, refl, sym, ap, ◌∙◌}
use denote.Ref.{Bor}
use Rattle.std.specs.List.{list_any}
use Rattle.std.specs.Str.{bytes_eq}
use Rattle.std.proofs.lemmas.Cmp.{nat_list_eq_equiv}
use Rattle.std.proofs.lemmas.List.{drop_more, take_more, take-append-drop}
use Rattle.std.proofs.lemmas.List.Folds.{list_any-append}
use Rattle.qv_words.specs.Names.{are_distinct}

-- one more name
joined : (a d e f : Bool) → (not (a || (e || false)) && (d && not f)) ≡ ((not a && d) && not (e || f))
joined true d e f = refl
joined false true true f = refl
joined false false true f = refl
joined false true false f = refl
joined false false false f = refl

are_distinct-push : (xs : List (List ℕ)) (y : List ℕ) → are_distinct (xs ++ y ∷ []) ≡ (are_distinct xs && not (list_any (bytes_eq y) xs))
are_distinct-push [] y = refl
are_distinct-push (x ∷ xs) y =
    ap (λ a. not a && are_distinct (xs ++ y ∷ [])) (list_any-append (bytes_eq x) xs (y ∷ []))
    ∙ ap (λ d. not (list_any (bytes_eq x) xs || (bytes_eq x y || false)) && d) (are_distinct-push xs y)
    ∙ ap (λ e. not (list_any (bytes_eq x) xs || (e || false)) && (are_distinct xs && not (list_any (bytes_eq y) xs))) (nat_list_eq_equiv.symm x y)
    ∙ joined (list_any (bytes_eq x) xs) (are_distinct xs) (bytes_eq y x) (list_any (bytes_eq y) xs)

-- or one that came before
or_true : (a b c : Bool) → b ≡ true → not (a || (b || c)) ≡ false
or_true true b c is = refl
or_true false b c is = ap (λ k. not (k || c)) is

and_no : (a b : Bool) → b ≡ false → (a && b) ≡ false
and_no true b is = is
and_no false b is = refl

are_distinct-again_step : (k : Bool) (x y : List ℕ) (xs ys : List (List ℕ)) → bytes_eq y x ≡ k → (list_any (bytes_eq y) xs ≡ true → are_distinct (xs ++ y ∷ ys) ≡ false) → (k || list_any (bytes_eq y) xs) ≡ true →
    (not (list_any (bytes_eq x) (xs ++ y ∷ ys)) && are_distinct (xs ++ y ∷ ys)) ≡ false
are_distinct-again_step true x y xs ys is rest came =
    ap (λ k. k && are_distinct (xs ++ y ∷ ys))
    (ap not (list_any-append (bytes_eq x) xs (y ∷ ys)) ∙ or_true (list_any (bytes_eq x) xs) (bytes_eq x y) (list_any (bytes_eq x) ys) (nat_list_eq_equiv.symm x y ∙ is))
are_distinct-again_step false x y xs ys is rest came = and_no (not (list_any (bytes_eq x) (xs ++ y ∷ ys))) (are_distinct (xs ++ y ∷ ys)) (rest came)

are_distinct-again : (xs : List (List ℕ)) (y : List ℕ) (ys : List (List ℕ)) → list_any (bytes_eq y) xs ≡ true → are_distinct (xs ++ y ∷ ys) ≡ false
are_distinct-again [] y ys came = cc
are_distinct-again (x ∷ xs) y ys came = are_distinct-again_step (bytes_eq y x) x y xs ys refl (are_distinct-again xs y ys) came

-- what isn't new came before
pub came_before : (new came : Bool) → new ≡ not came → new ≡ false → came ≡ true
came_before new true is not_new = refl
came_before new false is not_new = sym (sym is ∙ not_new)

pub not_before : (new came : Bool) → new ≡ not came → new ≡ true → came ≡ false
not_before new false is is_new = refl
not_before new true is is_new = sym is_new ∙ is

-- names that are lent
pub any_lent : (name : List ℕ) (lent : List (Bor (List ℕ))) → list_any (λ k. bytes_eq name k.now) lent ≡ list_any (bytes_eq name) (map (λ k. k.now) lent)
any_lent name [] = refl
any_lent name (k ∷ ks) = ap (λ r. bytes_eq name k.now || r) (any_lent name ks)

module _ (names : List (List ℕ)) (i : ℕ) (y : List ℕ) where
  pub more_distinct : i < length names → get_or names i [] ≡ y → list_any (bytes_eq y) (take i names) ≡ false → are_distinct (take i names) ≡ true → are_distinct (take (i + 1) names) ≡ true
  more_distinct lt is other before =
      ap are_distinct (take_more names i [] lt ∙ ap (λ z. take i names ++ z ∷ []) is) ∙ are_distinct-push (take i names) y
      ∙ ap (λ d. d && not (list_any (bytes_eq y) (take i names))) before ∙ ap not other

  pub not_distinct : i < length names → get_or names i [] ≡ y → list_any (bytes_eq y) (take i names) ≡ true → are_distinct names ≡ false
  not_distinct lt is came =
      ap are_distinct (sym (take-append-drop i names) ∙ ap (λ l. take i names ++ l) (drop_more names i [] lt ∙ ap (λ z. z ∷ drop (i + 1) names) is))
      ∙ are_distinct-again (take i names) y (drop (i + 1) names) came
