-- A definition more in the table of names.
use Rattle.std.proofs.Common.{◌≡◌, ℕ, ◌+◌, ◌<◌, ◌≤◌, Bool, true, false, ◌&&◌, take, drop, List, [], ◌∷◌, ◌++◌, append-nil, length, Option, Some, None, cond, refl, sym, ap, ◌∙◌, arith}
use Rattle.std.specs.Prelude.{IsErrOf, IsSome, OnErr, OnOk, Result, Ok, Err, is_some, map as list_map, option_map, slice_get, if◌then◌else◌}
use Rattle.std.specs.FinMap as map
use Rattle.std.specs.FinMap.{get-insert}
use Rattle.std.specs.Option.{option_or}
use Rattle.std.specs.Ordering.{eq_by_cmp}
use Rattle.std.specs.List.{list_all}
use Rattle.std.proofs.lemmas.List.{get_or_append_left, get_or_push, length_push, take-append-drop, take-append-le, take_all}
use Rattle.std.proofs.lemmas.Option.{slice_get-get_or, slice_get-map}
use Rattle.asm_place.proofs.Keys.{equal_is, exact_keys, keys_total, same_key-name}
use Rattle.asm_place.specs.Symbols.{Key, SymbolMap, key_of, key_order, same_name}
use Rattle.asm_place.specs.declared.address.Address.{Address}
use Rattle.asm_place.specs.declared.symbols.SymbolFault.{SymbolFault}
use Rattle.asm_place.specs.declared.symbols.SymbolFault.TheVariants.{Redefined}
use Rattle.asm_link.specs.Held.{held_at, is_fixed, is_settled, noted_at, note_settled, settle}
use Rattle.asm_link.specs.Lookup.{numbered}
use Rattle.asm_link.specs.declared.noted.Held.{Held}
use Rattle.asm_link.specs.declared.noted.Held.TheVariants.{Settled, Waiting}
use Rattle.asm_link.specs.declared.noted.Noted.{Noted}

kept_get : (ds : List Noted) (k : Noted) (n : ℕ) → n < length ds → slice_get (ds ++ k ∷ []) n ≡ slice_get ds n
kept_get ds k n h =
    let longer : n < length (ds ++ k ∷ []) = omega (arith, length_push ds k) in
    slice_get-get_or (ds ++ k ∷ []) n k longer ∙ ap (λ x. Some x) (get_or_append_left ds (k ∷ []) k n h) ∙ sym (slice_get-get_or ds n k h)

new_get : (ds : List Noted) (k : Noted) → slice_get (ds ++ k ∷ []) (length ds) ≡ Some k
new_get ds k =
    let longer : length ds < length (ds ++ k ∷ []) = omega (arith, length_push ds k) in
    slice_get-get_or (ds ++ k ∷ []) (length ds) k longer ∙ ap (λ x. Some x) (get_or_push ds k k (length ds) refl)

-- a number that stands is kept
kept_number : (ds : List Noted) (k : Noted) (o : Option ℕ) → ((n : ℕ) → o ≡ Some n → n < length ds) → numbered (ds ++ k ∷ []) o ≡ numbered ds o
kept_number ds k None h = refl
kept_number ds k (Some n) h = kept_get ds k n (h n refl)

pub or_none : {A : Type 0} (o : Option A) → option_or o None ≡ o
or_none None = refl
or_none (Some x) = refl

pub or_or : {A : Type 0} (o p q : Option A) → option_or (option_or o p) q ≡ option_or o (option_or p q)
or_or None p q = refl
or_or (Some x) p q = refl

-- one that stands hides one behind it
hidden : (ds : List Noted) (k : Noted) (b : Bool) (o : Option ℕ) → ((n : ℕ) → o ≡ Some n → n < length ds) → (b ≡ true → is_some o ≡ true) → numbered ds o ≡ option_or (numbered ds o) (if b then Some k else None)
hidden ds k false o short there = sym (or_none (numbered ds o))
hidden ds k true None short there = cc (there refl)
hidden ds k true (Some n) short there = cc (slice_get-get_or ds n k (short n refl))

-- one that doesn't stand is found
shown : (ds : List Noted) (k : Noted) (b : Bool) (o : Option ℕ) → ((n : ℕ) → o ≡ Some n → n < length ds) → (b ≡ true → o ≡ None) → numbered (ds ++ k ∷ []) (cond b (Some (length ds)) o) ≡ option_or (numbered ds o) (if b then Some k else None)
shown ds k true o short absent = new_get ds k ∙ ap (λ x. option_or (numbered ds x) (Some k)) (sym (absent refl))
shown ds k false o short absent = kept_number ds k o short ∙ sym (or_none (numbered ds o))

mapped : (address : Address) (k : Noted) (b : Bool) (o : Option Noted) → option_map (noted_at address) (option_or o (if b then Some k else None)) ≡ option_or (option_map (noted_at address) o) (if b then Some (noted_at address k) else None)
mapped address k true None = refl
mapped address k false None = refl
mapped address k b (Some n) = refl

module _ (m : SymbolMap) (ds : List Noted) (k : Noted) (short : (key : Key) (n : ℕ) → map.get m key ≡ Some n → n < length ds) (file : ℕ) (name : List ℕ) where
  one_key : (other_file : ℕ) (other : List ℕ) → same_name other_file other file name ≡ true → key_of other_file other ≡ key_of file name
  one_key other_file other h = exact_keys (key_of other_file other) (key_of file name) (equal_is _ (same_key-name other_file other file name ∙ h))

  new_there : map.get m (key_of file name) ≡ None → (other_file : ℕ) (other : List ℕ) → numbered (ds ++ k ∷ []) (map.get (map.insert m (key_of file name) (length ds)) (key_of other_file other)) ≡ option_or (numbered ds (map.get m (key_of other_file other))) (if same_name other_file other file name then Some k else None)
  new_there absent other_file other =
      ap (numbered (ds ++ k ∷ [])) (get-insert keys_total m (key_of file name) (length ds) (key_of other_file other) ∙ ap (λ b. cond b (Some (length ds)) (map.get m (key_of other_file other))) (same_key-name other_file other file name))
      ∙ shown ds k (same_name other_file other file name) (map.get m (key_of other_file other)) (short (key_of other_file other)) (λ h. ap (map.get m) (one_key other_file other h) ∙ absent)

  old_there : is_some (map.get m (key_of file name)) ≡ true → (other_file : ℕ) (other : List ℕ) → numbered (ds ++ k ∷ []) (map.get m (key_of other_file other)) ≡ option_or (numbered ds (map.get m (key_of other_file other))) (if same_name other_file other file name then Some k else None)
  old_there there other_file other =
      kept_number ds k (map.get m (key_of other_file other)) (short (key_of other_file other))
      ∙ hidden ds k (same_name other_file other file name) (map.get m (key_of other_file other)) (short (key_of other_file other)) (λ h. ap (λ q. is_some (map.get m q)) (one_key other_file other h) ∙ there)

  -- what is known of a name, behind the definition of one that isn't there
  pub lookup_new : map.get m (key_of file name) ≡ None → (address : Address) (other_file : ℕ) (other : List ℕ) → option_map (noted_at address) (numbered (ds ++ k ∷ []) (map.get (map.insert m (key_of file name) (length ds)) (key_of other_file other))) ≡ option_or (option_map (noted_at address) (numbered ds (map.get m (key_of other_file other)))) (if same_name other_file other file name then Some (noted_at address k) else None)
  lookup_new absent address other_file other =
      ap (option_map (noted_at address)) (new_there absent other_file other) ∙ mapped address k (same_name other_file other file name) (numbered ds (map.get m (key_of other_file other)))

  -- and behind that of one that is there
  pub lookup_old : is_some (map.get m (key_of file name)) ≡ true → (address : Address) (other_file : ℕ) (other : List ℕ) → option_map (noted_at address) (numbered (ds ++ k ∷ []) (map.get m (key_of other_file other))) ≡ option_or (option_map (noted_at address) (numbered ds (map.get m (key_of other_file other)))) (if same_name other_file other file name then Some (noted_at address k) else None)
  lookup_old there address other_file other =
      ap (option_map (noted_at address)) (old_there there other_file other) ∙ mapped address k (same_name other_file other file name) (numbered ds (map.get m (key_of other_file other)))

  more_numbered : (b : Bool) (o : Option ℕ) (n : ℕ) → ((n : ℕ) → o ≡ Some n → n < length ds) → cond b (Some (length ds)) o ≡ Some n → n < length ds + 1
  more_numbered true o n h e = let same : length ds ≡ n = cc in omega arith
  more_numbered false o n h e = omega (arith, h n e)

  pub still_numbered : (key : Key) (n : ℕ) → map.get (map.insert m (key_of file name) (length ds)) key ≡ Some n → n < length (ds ++ k ∷ [])
  still_numbered key n h =
      omega (arith, length_push ds k, more_numbered (eq_by_cmp key_order key (key_of file name)) (map.get m key) n (short key) (sym (get-insert keys_total m (key_of file name) (length ds) key) ∙ h))

pub longer_numbered : (m : SymbolMap) (ds : List Noted) (k : Noted) (short : (key : Key) (n : ℕ) → map.get m key ≡ Some n → n < length ds) (key : Key) (n : ℕ) → map.get m key ≡ Some n → n < length (ds ++ k ∷ [])
longer_numbered m ds k short key n h = omega (arith, length_push ds k, short key n h)

-- after a definition, taken or not
pub numbered_after : (m new : SymbolMap) (ds : List Noted) (k : Noted) (short : (key : Key) (n : ℕ) → map.get m key ≡ Some n → n < length ds) (file : ℕ) (name : List ℕ) (result : Result (Unit {0}) SymbolFault) → OnOk result (new ≡ map.insert m (key_of file name) (length ds)) → OnErr result (new ≡ m) → (key : Key) (n : ℕ) → map.get new key ≡ Some n → n < length (ds ++ k ∷ [])
numbered_after m new ds k short file name (Ok done) ok err key n h = still_numbered m ds k short file name key n (ap (λ t. map.get t key) (sym ok) ∙ h)
numbered_after m new ds k short file name (Err fault) ok err key n h = longer_numbered m ds k short key n (ap (λ t. map.get t key) (sym err) ∙ h)

pub not_there : (o : Option ℕ) (result : Result (Unit {0}) SymbolFault) (done : Unit {0}) → result ≡ Ok done → (IsSome o → IsErrOf result Redefined) → o ≡ None
not_there None result done is h = refl
not_there (Some n) result done is h = let refused : result ≡ Err Redefined = h refl in cc

-- labels that are settled

held_settled : (other address : Address) (h : Held) → held_at other (settle address h) ≡ held_at address h
held_settled other address (Settled a) = refl
held_settled other address Waiting = refl

noted_settled : (other address : Address) (o : Option Noted) → option_map (noted_at other) (option_map (note_settled address) o) ≡ option_map (noted_at address) o
noted_settled other address None = refl
noted_settled other address (Some n) = ap (λ a. Some (record { at = n.at; address = a })) (held_settled other address n.held)

numbered-map : (f : Noted → Noted) (ds : List Noted) (o : Option ℕ) → numbered (list_map f ds) o ≡ option_map f (numbered ds o)
numbered-map f ds None = refl
numbered-map f ds (Some n) = slice_get-map f ds n

-- once labels are settled at an address, they have it whatever the others get
pub lookup_settled : (other address : Address) (ds : List Noted) (o : Option ℕ) → option_map (noted_at other) (numbered (list_map (note_settled address) ds) o) ≡ option_map (noted_at address) (numbered ds o)
lookup_settled other address ds o = ap (option_map (noted_at other)) (numbered-map (note_settled address) ds o) ∙ noted_settled other address (numbered ds o)

-- those before the first that may wait are settled

pub settled_push : (k : ℕ) (ds : List Noted) (d : Noted) → k ≤ length ds → list_all is_settled (take k ds) ≡ true → list_all is_settled (take k (ds ++ d ∷ [])) ≡ true
settled_push k ds d le h = ap (list_all is_settled) (take-append-le k ds (d ∷ []) le) ∙ h

settled_stays : (address : Address) (d : Noted) → is_settled d ≡ true → note_settled address d ≡ d
settled_stays address d h = ap (λ x. record { at = d.at; held = x }) (stays d.held h)
  where
    stays : (x : Held) → is_fixed x ≡ true → settle address x ≡ x
    stays (Settled a) h = refl
    stays Waiting h = absurd (cc)

settled_all : (address : Address) (ds : List Noted) → list_all is_settled ds ≡ true → list_map (note_settled address) ds ≡ ds
settled_all address [] h = refl
settled_all address (d ∷ ds) h =
    let k = and_both (is_settled d) (list_all is_settled ds) h in
    ap (λ x. x ∷ list_map (note_settled address) ds) (settled_stays address d k.0) ∙ ap (λ xs. d ∷ xs) (settled_all address ds k.1)
  where
    and_both : (a b : Bool) → (a && b) ≡ true → (a ≡ true) × (b ≡ true)
    and_both true b h = (refl, h)
    and_both false b h = absurd (cc)

-- settling changes none of them
pub settled_front : (address : Address) (k : ℕ) (ds : List Noted) → list_all is_settled (take k ds) ≡ true → ds ≡ list_map (note_settled address) (take k ds) ++ drop k ds
settled_front address k ds h = sym (ap (λ xs. xs ++ drop k ds) (settled_all address (take k ds) h) ∙ take-append-drop k ds)

-- all of a list that is written over one of its length
pub written_over : (n : ℕ) (xs ds : List Noted) → n ≡ length ds → length xs ≡ length ds → take n (xs ++ drop (length xs) ds) ≡ xs
written_over n xs ds is same =
    ap (λ k. take n (xs ++ drop k ds)) same ∙ ap (λ ys. take n (xs ++ ys)) (drop-all ds) ∙ ap (take n) (append-nil xs) ∙ take_all n xs (omega (arith, is, same))
  where
    drop-all : (ys : List Noted) → drop (length ys) ys ≡ []
    drop-all [] = refl
    drop-all (y ∷ ys) = drop-all ys

is_settled_now : (address : Address) (d : Noted) → is_settled (note_settled address d) ≡ true
is_settled_now address d = fixed d.held
  where
    fixed : (x : Held) → is_fixed (settle address x) ≡ true
    fixed (Settled a) = refl
    fixed Waiting = refl

pub all_settled : (address : Address) (ds : List Noted) → list_all is_settled (list_map (note_settled address) ds) ≡ true
all_settled address [] = refl
all_settled address (d ∷ ds) = ap (λ b. b && list_all is_settled (list_map (note_settled address) ds)) (is_settled_now address d) ∙ all_settled address ds
