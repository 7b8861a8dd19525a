-- What a key finds in the tables of the owners.
use Rattle.std.proofs.Common.{◌≡◌, ℕ, Bool, true, false, ◌&&◌, List, [], ◌∷◌, ◌++◌, Option, Some, None, cond, refl, sym, ap, ◌∙◌}
use Rattle.std.specs.Prelude.{unwrap_or, map as list_map}
use Rattle.std.specs.Cmp.{IsEquivalence, nat_eq_equiv}
use Rattle.std.specs.Cmp.Lexicographic.{bytes_decides, options_equiv}
use Rattle.std.specs.FinMap as map
use Rattle.std.specs.FinMap.{get-from_entries, get-insert, same_map}
use Rattle.std.specs.List.{flat_map, IsDistinct}
use Rattle.std.specs.Map.{keys_of, lookup}
use Rattle.std.specs.Option.{option_map_or, option_or}
use Rattle.std.specs.Ordering.{eq_by_cmp}
use Rattle.std.specs.Str.{bytes_eq}
use Rattle.std.specs.declared.vec.Vec.{Vec}
use Rattle.std.proofs.lemmas.Map.{lookup-none}
use Rattle.std.proofs.lemmas.Map.Entries.{none_past_head}
use Rattle.std.proofs.lemmas.Map.Keys.{IsDistinct-tail}
use Rattle.std.proofs.lemmas.Map.Views.{exact_unsigned_eq}
use Rattle.indexmap.specs.IndexMap.{IndexMap, IsUnique, get, insert_entry}
use Rattle.indexmap.proofs.CallerLemmas.{insert_entry-new}
use Rattle.asm_place.proofs.Keys.{exact_keys, keys_total, same_key}
use Rattle.asm_place.specs.Symbols.{Key, SymbolMap, Table, entries_of, key_order, map_of, same_owner}

owners_equiv : IsEquivalence same_owner
owners_equiv = options_equiv nat_eq_equiv

exact_owners : (a b : Option ℕ) → same_owner a b ≡ true → a ≡ b
exact_owners None None h = refl
exact_owners None (Some b) h = cc
exact_owners (Some a) None h = cc
exact_owners (Some a) (Some b) h = ap (λ n. Some n) (exact_unsigned_eq a b h)

-- look-ups in lists of entries

option_or-none : (o : Option ℕ) → option_or o None ≡ o
option_or-none None = refl
option_or-none (Some n) = refl

lookup-append : {K : Type 0} (test : K → Bool) (es fs : List (K × ℕ)) → lookup test (es ++ fs) ≡ option_or (lookup test es) (lookup test fs)
lookup-append test [] fs = refl
lookup-append test (e ∷ es) fs =
    ap (cond (test e.0) (Some e.1)) (lookup-append test es fs)
    ∙ onto (test e.0) (lookup test es)
  where
    onto : (b : Bool) (o : Option ℕ) → cond b (Some e.1) (option_or o (lookup test fs)) ≡ option_or (cond b (Some e.1) o) (lookup test fs)
    onto true o = refl
    onto false o = refl

-- a key that isn't there is added at the end
lookup-push : {K : Type 0} (test : K → Bool) (es : List (K × ℕ)) (k : K) (v : ℕ) → (test k ≡ true → lookup test es ≡ None) → lookup test (es ++ (k, v) ∷ []) ≡ cond (test k) (Some v) (lookup test es)
lookup-push test es k v none = lookup-append test es ((k, v) ∷ []) ∙ later (test k) none
  where
    later : (b : Bool) → (b ≡ true → lookup test es ≡ None) → option_or (lookup test es) (cond b (Some v) None) ≡ cond b (Some v) (lookup test es)
    later true none = ap (λ o. option_or o (Some v)) (none refl)
    later false none = option_or-none (lookup test es)

find-lookup : (q : Key) (es : List (Key × ℕ)) → map.find key_order q es ≡ lookup (eq_by_cmp key_order q) es
find-lookup q [] = refl
find-lookup q (e ∷ es) = ap (cond (eq_by_cmp key_order q e.0) (Some e.1)) (find-lookup q es)

-- what a key finds

-- whether the bytes of a name are these
abbrev pub is_name : {Y : Type 0} → List ℕ → Vec ℕ Y → Bool
is_name name k = bytes_eq name k.items

-- among the names of one owner
lookup-owner : {Y : Type 0} (q : Key) (owner : Option ℕ) (es : List (Vec ℕ Y × ℕ)) → lookup (eq_by_cmp key_order q) (list_map (λ e. ((owner, e.0.items), e.1)) es) ≡ cond (same_owner q.0 owner) (lookup (is_name q.1) es) None
lookup-owner q owner [] = nothing (same_owner q.0 owner)
  where
    nothing : (b : Bool) → None ≡ cond {A = Option ℕ} b None None
    nothing true = refl
    nothing false = refl
lookup-owner q owner (e ∷ es) =
    ap (λ b. cond b (Some e.1) (lookup (eq_by_cmp key_order q) (list_map (λ e. ((owner, e.0.items), e.1)) es))) (same_key q (owner, e.0.items))
    ∙ ap (cond (same_owner q.0 owner && is_name q.1 e.0) (Some e.1)) (lookup-owner q owner es)
    ∙ both (same_owner q.0 owner) (is_name q.1 e.0)
  where
    both : (a b : Bool) → cond (a && b) (Some e.1) (cond a (lookup (is_name q.1) es) None) ≡ cond a (cond b (Some e.1) (lookup (is_name q.1) es)) None
    both true b = refl
    both false b = refl

module _ {Y S : Type 0} where
  -- the names of an owner with their numbers
  abbrev pub names_of : Option ℕ → List (Option ℕ × Table Y S) → List (Vec ℕ Y × ℕ)
  names_of owner ts = option_map_or (λ t. t.entries) (lookup (same_owner owner) ts) []

  lookup-all : (q : Key) (ts : List (Option ℕ × Table Y S)) → IsDistinct same_owner (keys_of ts) → lookup (eq_by_cmp key_order q) (flat_map (λ t. entries_of t.0 t.1) ts) ≡ lookup (is_name q.1) (names_of q.0 ts)
  lookup-all q [] distinct = refl
  lookup-all q (t ∷ ts) distinct =
      lookup-append (eq_by_cmp key_order q) (entries_of t.0 t.1) (flat_map (λ t. entries_of t.0 t.1) ts)
      ∙ ap (λ o. option_or o (lookup (eq_by_cmp key_order q) (flat_map (λ t. entries_of t.0 t.1) ts))) (lookup-owner q t.0 t.1.entries)
      ∙ ap (option_or (cond (same_owner q.0 t.0) (lookup (is_name q.1) t.1.entries) None)) (lookup-all q ts (IsDistinct-tail same_owner t.0 (keys_of ts) distinct))
      ∙ first (same_owner q.0 t.0) refl
    where
      first : (b : Bool) → same_owner q.0 t.0 ≡ b
          → option_or (cond b (lookup (is_name q.1) t.1.entries) None) (lookup (is_name q.1) (names_of q.0 ts))
          ≡ lookup (is_name q.1) (option_map_or (λ t. t.entries) (cond b (Some t.1) (lookup (same_owner q.0) ts)) [])
      first true e =
          let none : lookup (same_owner q.0) ts ≡ None = lookup-none (same_owner q.0) ts (none_past_head owners_equiv q.0 t ts distinct e) in
          ap (λ o. option_or (lookup (is_name q.1) t.1.entries) (lookup (is_name q.1) (option_map_or (λ t. t.entries) o []))) none
          ∙ option_or-none (lookup (is_name q.1) t.1.entries)
      first false e = refl

module _ {Y S S' : Type 0} where
  -- a key finds what its name finds in the table of its owner
  pub get-map_of : (tables : IndexMap (Option ℕ) (Table Y S) S') → IsUnique same_owner tables → (q : Key) → map.get (map_of tables) q ≡ lookup (is_name q.1) (names_of q.0 tables.entries)
  get-map_of tables unique q =
      let es : List (Key × ℕ) = flat_map (λ t. entries_of t.0 t.1) tables.entries in
      get-from_entries keys_total es q ∙ find-lookup q es ∙ lookup-all q tables.entries unique

  -- the same where a look-up of the table answered `found`
  pub get-in_table : (tables : IndexMap (Option ℕ) (Table Y S) S') → IsUnique same_owner tables → (q : Key) (found : Option (Table Y S)) → found ≡ get same_owner tables q.0 → lookup (is_name q.1) (option_map_or (λ t. t.entries) found []) ≡ map.get (map_of tables) q
  get-in_table tables unique q found is = ap (λ o. lookup (is_name q.1) (option_map_or (λ t. t.entries) o [])) is ∙ sym (get-map_of tables unique q)

  -- an owner's table, which was `was`, or `fresh` where it had none, becomes `table`
  module _ (old new : IndexMap (Option ℕ) (Table Y S) S') (old_unique : IsUnique same_owner old) (new_unique : IsUnique same_owner new)
      (owner : Option ℕ) (fresh was table : Table Y S) (empty : fresh.entries ≡ []) (is : was ≡ unwrap_or (get same_owner old owner) fresh)
      (updates : (q : Option ℕ) → get same_owner new q ≡ cond (same_owner owner q) (Some table) (get same_owner old q)) where
    names_before : was.entries ≡ names_of owner old.entries
    names_before = ap (λ t. t.entries) is ∙ either (get same_owner old owner)
      where
        either : (o : Option (Table Y S)) → (unwrap_or o fresh).entries ≡ option_map_or (λ t. t.entries) o []
        either None = empty
        either (Some t) = refl

    get-new : (q : Key) → map.get (map_of new) q ≡ lookup (is_name q.1) (cond (same_owner owner q.0) table.entries (names_of q.0 old.entries))
    get-new q =
        get-map_of new new_unique q
        ∙ ap (λ o. lookup (is_name q.1) (option_map_or (λ t. t.entries) o [])) (updates q.0)
        ∙ ap (lookup (is_name q.1)) (entries (same_owner owner q.0))
      where
        entries : (b : Bool) → option_map_or (λ t. t.entries) (cond b (Some table) (get same_owner old q.0)) [] ≡ cond b table.entries (names_of q.0 old.entries)
        entries true = refl
        entries false = refl

    pub map_of-kept : table.entries ≡ was.entries → map_of new ≡ map_of old
    map_of-kept kept = same_map keys_total exact_keys _ _ (λ q. get-new q ∙ ap (lookup (is_name q.1)) (either q (same_owner owner q.0) refl) ∙ sym (get-map_of old old_unique q))
      where
        either : (q : Key) (b : Bool) → same_owner owner q.0 ≡ b → cond b table.entries (names_of q.0 old.entries) ≡ names_of q.0 old.entries
        either q true e = kept ∙ names_before ∙ ap (λ o. names_of o old.entries) (exact_owners owner q.0 e)
        either q false e = refl

    -- with one name more, which it lacked
    pub map_of-added : (key : Vec ℕ Y) (value : ℕ) → table.entries ≡ insert_entry (λ x. is_name x.items) was.entries key value → map.get (map_of old) (owner, key.items) ≡ None → map_of new ≡ map.insert (map_of old) (owner, key.items) value
    map_of-added key value inserted absent = same_map keys_total exact_keys _ _ (λ q. get-new q ∙ either q (same_owner owner q.0) refl ∙ sym (after q))
      where
        missing : lookup (is_name key.items) was.entries ≡ None
        missing = ap (lookup (is_name key.items)) names_before ∙ sym (get-map_of old old_unique (owner, key.items)) ∙ absent

        pushed : table.entries ≡ was.entries ++ (key, value) ∷ []
        pushed = inserted ∙ insert_entry-new (λ x. is_name x.items) was key value missing

        after : (q : Key) → map.get (map.insert (map_of old) (owner, key.items) value) q ≡ cond (same_owner q.0 owner && is_name q.1 key) (Some value) (lookup (is_name q.1) (names_of q.0 old.entries))
        after q =
            get-insert keys_total (map_of old) (owner, key.items) value q
            ∙ ap (λ b. cond b (Some value) (map.get (map_of old) q)) (same_key q (owner, key.items))
            ∙ ap (cond (same_owner q.0 owner && is_name q.1 key) (Some value)) (get-map_of old old_unique q)

        none : (q : Key) → is_name q.1 key ≡ true → lookup (is_name q.1) was.entries ≡ None
        none q e = ap (λ name. lookup (is_name name) was.entries) ((bytes_decides q.1 key.items).0 e) ∙ missing

        turned : (q : Key) (b : Bool) → same_owner owner q.0 ≡ b → same_owner q.0 owner ≡ b
        turned q b e = owners_equiv.symm q.0 owner ∙ e

        either : (q : Key) (b : Bool) → same_owner owner q.0 ≡ b → lookup (is_name q.1) (cond b table.entries (names_of q.0 old.entries)) ≡ cond (same_owner q.0 owner && is_name q.1 key) (Some value) (lookup (is_name q.1) (names_of q.0 old.entries))
        either q true e =
            ap (lookup (is_name q.1)) pushed
            ∙ lookup-push (is_name q.1) was.entries key value (none q)
            ∙ ap (λ es. cond (is_name q.1 key) (Some value) (lookup (is_name q.1) es)) (names_before ∙ ap (λ o. names_of o old.entries) (exact_owners owner q.0 e))
            ∙ sym (ap (λ b. cond (b && is_name q.1 key) (Some value) (lookup (is_name q.1) (names_of q.0 old.entries))) (turned q true e))
        either q false e = sym (ap (λ b. cond (b && is_name q.1 key) (Some value) (lookup (is_name q.1) (names_of q.0 old.entries))) (turned q false e))

-- what is known of tables is known of those that are equal to them
module _ {Y S S' : Type 0} (m n : IndexMap (Option ℕ) (Table Y S) S') (same : n ≡ m) where
  pub same-unique : IsUnique same_owner m → IsUnique same_owner n
  same-unique unique = rw same unique

  pub same-map_of : (x : SymbolMap) → map_of m ≡ x → map_of n ≡ x
  same-map_of x is = rw same is
