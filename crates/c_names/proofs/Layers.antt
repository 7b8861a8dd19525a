-- What is said of names, and the declarations that it belongs to.
use Rattle.std.proofs.Common.{◌≡◌, ℕ, Bool, true, false, List, [], ◌∷◌, ◌++◌, length, drop, Option, Some, cond, refl, sym, ap, ◌∙◌}
use Rattle.std.specs.Prelude.{fold, min, unwrap_or}
use Rattle.std.specs.Cmp.Lexicographic.{bytes_decides}
use Rattle.std.specs.Str.{bytes_eq}
use Rattle.std.proofs.lemmas.List.{drop-map, drop_min}
use Rattle.c_names.specs.declared.names.Entry.{Entry}
use Rattle.c_names.specs.Kept.{HideEarlier, IsKept, Latest, Sets, no_name, shown, with_all, with_declared}
use Rattle.c_names.specs.Names.{is_typedef_name}

-- the definition's answer
answers : (latest : Latest) (entries : List Entry) (name : List ℕ)
    → unwrap_or (with_all latest entries name) false ≡ fold (λ known d. cond (bytes_eq name d.name) d.is_typedef known) (unwrap_or (latest name) false) (shown entries)
answers latest [] name = refl
answers latest (e ∷ es) name =
    answers (with_declared latest e.declared) es name
    ∙ ap (λ known. fold (λ known d. cond (bytes_eq name d.name) d.is_typedef known) known (shown es)) (either (bytes_eq name e.declared.name) (latest name))
  where
    either : (b : Bool) (o : Option Bool) → unwrap_or (cond b (Some e.declared.is_typedef) o) false ≡ cond b e.declared.is_typedef (unwrap_or o false)
    either true o = refl
    either false o = refl

pub answer-is : (latest : Latest) (entries : List Entry) → IsKept latest entries → (name : List ℕ) → unwrap_or (latest name) false ≡ is_typedef_name (shown entries) name
unfolding is_typedef_name
answer-is latest entries kept name = ap (λ o. unwrap_or o false) (kept.tells name) ∙ answers no_name entries name

pub shown-push : (entries : List Entry) (e : Entry) → shown (entries ++ e ∷ []) ≡ shown entries ++ e.declared ∷ []
shown-push [] e = refl
shown-push (d ∷ entries) e = ap (λ rest. d.declared ∷ rest) (shown-push entries e)

-- the declarations behind the first ones
pub shown-since : (entries : List Entry) (n : ℕ) → shown (drop (min n (length entries)) entries) ≡ drop n (shown entries)
shown-since entries n = ap shown (drop_min n entries) ∙ sym (drop-map (λ (e : Entry). e.declared) n entries)

with_all-push : (latest : Latest) (entries : List Entry) (e : Entry) → with_all latest (entries ++ e ∷ []) ≡ with_declared (with_all latest entries) e.declared
with_all-push latest [] e = refl
with_all-push latest (d ∷ entries) e = with_all-push (with_declared latest d.declared) entries e

hide-push : (latest : Latest) (entries : List Entry) (e : Entry) → HideEarlier latest entries → e.hidden ≡ with_all latest entries e.declared.name → HideEarlier latest (entries ++ e ∷ [])
hide-push latest [] e hide is = (is, tt)
hide-push latest (d ∷ entries) e hide is = (hide.0, hide-push (with_declared latest d.declared) entries e hide.1 is)

hide-pop : (latest : Latest) (entries : List Entry) (e : Entry) → HideEarlier latest (entries ++ e ∷ []) → HideEarlier latest entries × (e.hidden ≡ with_all latest entries e.declared.name)
hide-pop latest [] e hide = (tt, hide.0)
hide-pop latest (d ∷ entries) e hide =
    let rest = hide-pop (with_declared latest d.declared) entries e hide.1 in
    ((hide.0, rest.0), rest.1)

-- what was said before is said again
again : (b : Bool) (says hidden : Option Bool) (o : Option Bool) → (b ≡ true → hidden ≡ o) → cond b hidden (cond b says o) ≡ o
again true says hidden o is = is refl
again false says hidden o is = refl

module _ (old new : Latest) (entries : List Entry) where
  -- a declaration more
  pub kept-push : (e : Entry) → IsKept old entries → e.hidden ≡ old e.declared.name → Sets old e.declared.name (Some e.declared.is_typedef) new → IsKept new (entries ++ e ∷ [])
  kept-push e kept is sets = record {
    hide = hide-push no_name entries e kept.hide (is ∙ kept.tells e.declared.name);
    tells = λ name. sets name ∙ ap (cond (bytes_eq name e.declared.name) (Some e.declared.is_typedef)) (kept.tells name) ∙ ap (λ latest. latest name) (sym (with_all-push no_name entries e));
  }

  -- the latest declaration is taken away
  pub kept-pop : (e : Entry) → IsKept old (entries ++ e ∷ []) → Sets old e.declared.name e.hidden new → IsKept new entries
  kept-pop e kept sets =
      let hide = hide-pop no_name entries e kept.hide in
      let latest : Latest = with_all no_name entries in
      record {
        hide = hide.0;
        tells = λ name.
            sets name
            ∙ ap (cond (bytes_eq name e.declared.name) e.hidden) (kept.tells name ∙ ap (λ l. l name) (with_all-push no_name entries e))
            ∙ again (bytes_eq name e.declared.name) (Some e.declared.is_typedef) e.hidden (latest name) (λ same. hide.1 ∙ ap latest (sym ((bytes_decides name e.declared.name).0 same)));
      }

  pub known-pop : (e : Entry) → IsKept old (entries ++ e ∷ []) → old e.declared.name ≡ Some e.declared.is_typedef
  known-pop e kept =
      kept.tells e.declared.name ∙ ap (λ l. l e.declared.name) (with_all-push no_name entries e)
      ∙ ap (λ b. cond b (Some e.declared.is_typedef) (with_all no_name entries e.declared.name)) ((bytes_decides e.declared.name e.declared.name).1 refl)

  -- what is said alike
  pub kept-same : IsKept old entries → new ≡ old → IsKept new entries
  kept-same kept same = record {
    hide = kept.hide;
    tells = λ name. ap (λ l. l name) same ∙ kept.tells name;
  }

-- a declaration that isn't added is taken back
pub kept-back : (old between new : Latest) (entries : List Entry) (name : List ℕ) (says hidden : Option Bool) → IsKept old entries → hidden ≡ old name → Sets old name says between → Sets between name hidden new → IsKept new entries
kept-back old between new entries name says hidden kept is sets back = record {
  hide = kept.hide;
  tells = λ other.
      back other ∙ ap (cond (bytes_eq other name) hidden) (sets other)
      ∙ again (bytes_eq other name) says hidden (old other) (λ same. is ∙ ap old (sym ((bytes_decides other name).0 same)))
      ∙ kept.tells other;
}
