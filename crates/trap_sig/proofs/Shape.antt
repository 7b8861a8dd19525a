-- A gathered call has the shape of its signature.
use Rattle.std.proofs.Common.{◌≡◌, ℕ, zero, suc, ◌+◌, ◌<◌, ◌≤◌, Bool, true, false, cond, leb, eqb, List, [], ◌∷◌, ◌++◌, length, take, drop, get_or, replicate, Option, Some, None, refl, sym, ap, ◌∙◌, arith, ⊎_elim}
use Rattle.std.specs.Prelude.{count_by, Contains}
use Rattle.std.specs.Option.{unwrap_or, option_map, is_some}
use Rattle.std.specs.List.{zip, filter, position, position_or_len, list_all, All}
use Rattle.std.proofs.lemmas.Bool.{false≢true, and_parts, not-false, leb-true, eqb-false, cases_lt, lt-ltb}
use Rattle.std.proofs.lemmas.Option.{none-some}
use Rattle.std.proofs.lemmas.List.{get_or-take, length-take, length-take-le, length-drop, length-map}
use Rattle.std.proofs.lemmas.List.Elements.{All-head, All-tail}
use Rattle.std.proofs.lemmas.List.Quantifiers.{position-Some}
use Rattle.std.proofs.lemmas.List.Sums.{sum_by-cons, length-filter, fails_before_first}
use Rattle.masked_mem.specs.Memory.{bytes_at}
use Rattle.qv_outside.specs.declared.signature.Kind.{Kind}
use Rattle.qv_outside.specs.declared.signature.Kind.TheVariants.{Int, Text, InBytes, OutBytes}
use Rattle.qv_outside.specs.Signature.{is_int, is_input, int_at, length_is_int}
use Rattle.qv_outside.specs.Hosts.{int_at_place, AreInputs, asked_len}
use Rattle.trap_sig.specs.Gather.{text_at, leaves, leaving, ints_of, inputs_of, output_of, length_asked, room_asked}
use Rattle.trap_sig.proofs.Args.{count_zip}

-- where none is the first, none passes
none_passes : {X : Type 0} (p : X → Bool) (xs : List X) → position p xs ≡ None → All (λ x. p x ≡ false) xs
none_passes p xs e =
    let P : Type 0 = length xs ≤ position_or_len p xs in
    let past : length xs ≤ position_or_len p xs = ⊎_elim {C = P} (λ lt. absurd (none-some _ (sym e ∙ ap (λ b. cond b (Some (position_or_len p xs)) None) (lt-ltb _ _ lt)))) (λ le. le) (cases_lt (position_or_len p xs) (length xs)) in
    λ k d lt. fails_before_first p xs k d (omega arith)

pub all_stay : (memory : List ℕ) (kinds : List Kind) (words : List ℕ) → leaving memory kinds words ≡ None → All (λ a. leaves memory words a ≡ false) (zip kinds words)
all_stay memory kinds words e = none_passes (leaves memory words) (zip kinds words) e

-- an Int stands among the Ints at the count of those before it

abbrev before : List Kind → ℕ → ℕ
before kinds place = count_by is_int (take place kinds)

int_first : (x : ℕ) (ints : List ℕ) (n m w : ℕ) → m ≡ 1 + n → (n < length ints) × (get_or ints n 0 ≡ w) → (m < length (x ∷ ints)) × (get_or (x ∷ ints) m 0 ≡ w)
int_first x ints n m w e h = (omega (arith, h.0), ap (λ k. get_or (x ∷ ints) k 0) (let s : m ≡ suc n = omega arith in s) ∙ h.1)

int_past : (ints : List ℕ) (n m w : ℕ) → m ≡ 0 + n → (n < length ints) × (get_or ints n 0 ≡ w) → (m < length ints) × (get_or ints m 0 ≡ w)
int_past ints n m w e h = (omega (arith, h.0), ap (λ k. get_or ints k 0) (let s : m ≡ n = omega arith in s) ∙ h.1)

before_more : (k : Kind) (kinds : List Kind) (place : ℕ) → before (k ∷ kinds) (suc place) ≡ cond (is_int k) 1 0 + before kinds place
before_more k kinds place = sum_by-cons (λ x. cond (is_int x) 1 0) k (take place kinds)

int_found : (kinds : List Kind) (words : List ℕ) (place : ℕ) → length words ≡ length kinds → int_at kinds place ≡ true → (before kinds place < length (ints_of (zip kinds words))) × (get_or (ints_of (zip kinds words)) (before kinds place) 0 ≡ get_or words place 0)
int_found [] words place same h = absurd (false≢true h)
int_found (k ∷ ks) [] place same h = absurd (omega (arith, same))
int_found (Int ∷ ks) (w ∷ ws) zero same h = (omega arith, refl)
int_found (Text ∷ ks) (w ∷ ws) zero same h = absurd (false≢true h)
int_found (InBytes l ∷ ks) (w ∷ ws) zero same h = absurd (false≢true h)
int_found (OutBytes l ∷ ks) (w ∷ ws) zero same h = absurd (false≢true h)
int_found (Int ∷ ks) (w ∷ ws) (suc place) same h = int_first w _ _ _ _ (before_more Int ks place) (int_found ks ws place (omega (arith, same)) h)
int_found (Text ∷ ks) (w ∷ ws) (suc place) same h = int_past _ _ _ _ (before_more Text ks place) (int_found ks ws place (omega (arith, same)) h)
int_found (InBytes l ∷ ks) (w ∷ ws) (suc place) same h = int_past _ _ _ _ (before_more (InBytes l) ks place) (int_found ks ws place (omega (arith, same)) h)
int_found (OutBytes l ∷ ks) (w ∷ ws) (suc place) same h = int_past _ _ _ _ (before_more (OutBytes l) ks place) (int_found ks ws place (omega (arith, same)) h)

-- so a length is the word of its argument
pub length_found : (kinds : List Kind) (words ints : List ℕ) (n : ℕ) → length words ≡ length kinds → take n ints ≡ ints_of (zip kinds words) → (place : ℕ) → int_at kinds place ≡ true → int_at_place kinds ints place ≡ get_or words place 0
length_found kinds words ints n same taken place h =
    let f = int_found kinds words place same h in
    let lt : before kinds place < n = omega (arith, f.0, ap length taken, length-take n ints) in
    sym (get_or-take n ints (before kinds place) 0 lt) ∙ ap (λ x. get_or x (before kinds place) 0) taken ∙ f.1

-- a text has no NUL
no_nul : (xs : List ℕ) (r : Option ℕ) → position (λ b. eqb b 0) xs ≡ r → Contains (unwrap_or (option_map (λ n. take n xs) r) []) 0 → ⊥
no_nul xs None e h = omega (arith, h.1)
no_nul xs (Some n) e h =
    let lt : h.0 < n = omega (arith, h.1, length-take n xs) in
    eqb-false _ _ ((position-Some (λ b. eqb b 0) xs n 0 e).2 h.0 lt) (sym (get_or-take n xs h.0 0 lt) ∙ h.2)

text_clean : (memory : List ℕ) (at : ℕ) → Contains (unwrap_or (text_at memory at) []) 0 → ⊥
text_clean memory at h = no_nul (drop at memory) (position (λ b. eqb b 0) (drop at memory)) refl h

-- a range within the memory is as long as it says
range_long : (memory : List ℕ) (at len : ℕ) (b : Bool) → leb (at + len) (length memory) ≡ b → is_some (cond b (Some (bytes_at memory at len)) None) ≡ true → length (unwrap_or (cond b (Some (bytes_at memory at len)) None) []) ≡ len
range_long memory at len true e h = length-take-le len (drop at memory) (omega (arith, leb-true _ _ e, length-drop at memory))
range_long memory at len false e h = absurd (false≢true h)

range_within : (memory : List ℕ) (at len : ℕ) (b : Bool) → leb (at + len) (length memory) ≡ b → is_some (cond b (Some (bytes_at memory at len)) None) ≡ true → at + len ≤ length memory
range_within memory at len true e h = leb-true _ _ e
range_within memory at len false e h = absurd (false≢true h)

absent : (all : List Kind) (ints : List ℕ) (m : ℕ) → AreInputs all ints [] (replicate m [])
absent all ints zero = tt
absent all ints (suc m) = (refl, absent all ints m)

module _ (all : List Kind) (memory words ints : List ℕ) (found : (place : ℕ) → int_at all place ≡ true → int_at_place all ints place ≡ get_or words place 0) where
  pub inputs_fit : (kinds : List Kind) (ws : List ℕ) (m : ℕ) → list_all (length_is_int all) kinds ≡ true → length ws ≡ length kinds → All (λ a. leaves memory words a ≡ false) (zip kinds ws) → AreInputs all ints (filter is_input kinds) (inputs_of memory words (zip kinds ws) ++ replicate m [])
  inputs_fit [] ws m l same stay = absent all ints m
  inputs_fit (k ∷ ks) [] m l same stay = absurd (omega (arith, same))
  inputs_fit (Int ∷ ks) (w ∷ ws) m l same stay = inputs_fit ks ws m l (omega (arith, same)) (All-tail (λ a. leaves memory words a ≡ false) (Int, w) (zip ks ws) stay)
  inputs_fit (Text ∷ ks) (w ∷ ws) m l same stay = (text_clean memory w, inputs_fit ks ws m l (omega (arith, same)) (All-tail (λ a. leaves memory words a ≡ false) (Text, w) (zip ks ws) stay))
  inputs_fit (InBytes place ∷ ks) (w ∷ ws) m l same stay =
      let parts = and_parts (int_at all place) (list_all (length_is_int all) ks) l in
      let here = All-head (λ a. leaves memory words a ≡ false) (InBytes place, w) (zip ks ws) stay in
      let len = get_or words place 0 in (
        range_long memory w len (leb (w + len) (length memory)) refl (not-false _ here) ∙ sym (found place parts.0),
        inputs_fit ks ws m parts.1 (omega (arith, same)) (All-tail (λ a. leaves memory words a ≡ false) (InBytes place, w) (zip ks ws) stay),
      )
  inputs_fit (OutBytes place ∷ ks) (w ∷ ws) m l same stay =
      let parts = and_parts (int_at all place) (list_all (length_is_int all) ks) l in
      inputs_fit ks ws m parts.1 (omega (arith, same)) (All-tail (λ a. leaves memory words a ≡ false) (OutBytes place, w) (zip ks ws) stay)

  pub length_fits : (kinds : List Kind) (ws : List ℕ) → list_all (length_is_int all) kinds ≡ true → length ws ≡ length kinds → length_asked words (output_of (zip kinds ws)) ≡ asked_len all ints kinds
  length_fits [] ws l same = refl
  length_fits (k ∷ ks) [] l same = absurd (omega (arith, same))
  length_fits (Int ∷ ks) (w ∷ ws) l same = length_fits ks ws l (omega (arith, same))
  length_fits (Text ∷ ks) (w ∷ ws) l same = length_fits ks ws l (omega (arith, same))
  length_fits (InBytes place ∷ ks) (w ∷ ws) l same = length_fits ks ws (and_parts (int_at all place) (list_all (length_is_int all) ks) l).1 (omega (arith, same))
  length_fits (OutBytes place ∷ ks) (w ∷ ws) l same = sym (found place (and_parts (int_at all place) (list_all (length_is_int all) ks) l).0)

-- the room that is asked for lies within the memory
pub room_within : (memory words : List ℕ) (args : List (Kind × ℕ)) → All (λ a. leaves memory words a ≡ false) args → room_asked (output_of args) + length_asked words (output_of args) ≤ length memory
room_within memory words [] stay = omega arith
room_within memory words ((Int, w) ∷ args) stay = room_within memory words args (All-tail (λ a. leaves memory words a ≡ false) (Int, w) args stay)
room_within memory words ((Text, w) ∷ args) stay = room_within memory words args (All-tail (λ a. leaves memory words a ≡ false) (Text, w) args stay)
room_within memory words ((InBytes place, w) ∷ args) stay = room_within memory words args (All-tail (λ a. leaves memory words a ≡ false) (InBytes place, w) args stay)
room_within memory words ((OutBytes place, w) ∷ args) stay =
    let len = get_or words place 0 in
    range_within memory w len (leb (w + len) (length memory)) refl (not-false _ (All-head (λ a. leaves memory words a ≡ false) (OutBytes place, w) args stay))

-- as many words as there are Ints
pub int_count : (kinds : List Kind) (words ints : List ℕ) (n : ℕ) → length words ≡ length kinds → take n ints ≡ ints_of (zip kinds words) → n ≤ length ints → n ≡ count_by is_int kinds
int_count kinds words ints n same taken le =
    let e : length (ints_of (zip kinds words)) ≡ count_by is_int kinds = length-map _ _ ∙ length-filter (λ (a : Kind × ℕ). is_int a.0) (zip kinds words) ∙ count_zip is_int kinds words same in
    omega (arith, e, ap length taken, length-take n ints)
