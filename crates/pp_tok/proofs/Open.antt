-- Where a constant has no end, none of the same quote behind it on its line has.
use Rattle.std.proofs.Common.{◌≡◌, ℕ, zero, suc, ◌+◌, ◌-◌, ◌<◌, ◌≤◌, Bool, true, false, not, ◌&&◌, ◌⊎◌, inl, inr, List, [], ◌∷◌, length, drop, Option, Some, None, refl, sym, ap, ◌∙◌, subst, arith}
use Rattle.std.specs.Prelude.{option_map, if◌then◌else◌, ◌==◌, slice_index}
use Rattle.std.proofs.lemmas.Bool.Decides.{nat_tests}
use Rattle.std.proofs.lemmas.List.{drop-drop}
use Rattle.pp_tok.specs.declared.unclosed.Unclosed.{Unclosed}
use Rattle.pp_tok.specs.Lengths.{constant_length}
use Rattle.pp_tok.specs.Unclosed.{until, AreUnclosed}

none_mapped : (f : ℕ → ℕ) (o : Option ℕ) → option_map f o ≡ None → o ≡ None
none_mapped f None e = refl
none_mapped f (Some n) e = cc

open_on : (k : Bool) (o : Option ℕ) → (if k then Some 1 else option_map (λ n. 1 + n) o) ≡ None → (k ≡ false) × (o ≡ None)
open_on true o e = cc
open_on false o e = (refl, none_mapped (λ n. 1 + n) o e)

constant_length-cons : (quote : ℕ) (escaped : Bool) (b : ℕ) (bs : List ℕ) →
    constant_length quote escaped (b ∷ bs) ≡ (if b == 10 then None else (if not escaped && b == quote then Some 1 else option_map (λ n. 1 + n) (constant_length quote (not escaped && b == 92) bs)))
unfolding constant_length
constant_length-cons quote escaped b bs = refl

-- one step of a constant that has no end
open_step : (quote : ℕ) (escaped : Bool) (b : ℕ) (bs : List ℕ) → constant_length quote escaped (b ∷ bs) ≡ None → (b ≡ 10 → ⊥) → ((not escaped && b == quote) ≡ false) × (constant_length quote (not escaped && b == 92) bs ≡ None)
open_step quote escaped b bs none inside =
    let on : Option ℕ = if not escaped && b == quote then Some 1 else option_map (λ n. 1 + n) (constant_length quote (not escaped && b == 92) bs) in
    let on_line : (b == 10) ≡ false = grind (arith, nat_tests) in
    open_on (not escaped && b == quote) (constant_length quote (not escaped && b == 92) bs) (sym (constant_length-cons quote escaped b bs ∙ ap (λ k. if k then None else on) on_line) ∙ none)

still_open : (quote : ℕ) (escaped : Bool) (bs : List ℕ) (k : ℕ) → constant_length quote escaped bs ≡ None → ((j : ℕ) → j ≤ k → slice_index bs j ≡ 10 → ⊥) → k < length bs → slice_index bs k ≡ quote →
    constant_length quote false (drop (suc k) bs) ≡ None
still_open quote escaped [] k none inside lt is = absurd (omega arith)
still_open quote true (b ∷ bs) zero none inside lt is = (open_step quote true b bs none (inside 0 (omega arith))).1
still_open quote false (b ∷ bs) zero none inside lt is =
    let other : (b == quote) ≡ false = (open_step quote false b bs none (inside 0 (omega arith))).0 in
    let differ : b ≡ quote → ⊥ = λ e. grind (arith, nat_tests) in
    absurd (differ is)
still_open quote escaped (b ∷ bs) (suc k) none inside lt is =
    still_open quote (not escaped && b == 92) bs k (open_step quote escaped b bs none (inside 0 (omega arith))).1 (λ j le. inside (suc j) (omega arith)) (omega arith) is

index-drop : (n : ℕ) (xs : List ℕ) (k : ℕ) → slice_index (drop n xs) k ≡ slice_index xs (n + k)
index-drop zero xs k = let e : 0 + k ≡ k = omega arith in ap (slice_index xs) (sym e)
index-drop (suc n) [] k = refl
index-drop (suc n) (x ∷ xs) k = let e : suc (n + k) ≡ suc n + k = omega arith in index-drop n xs k ∙ ap (slice_index (x ∷ xs)) e

by_place : (at i : ℕ) → at ≤ i → (i ≡ at) ⊎ (at < i)
by_place at i le = grind arith

module _ (old new : Unclosed) (text : List ℕ) (at e : ℕ) where
  module _ (none : constant_length (slice_index text at) false (drop (at + 1) text) ≡ None) (within : e ≤ length (drop (at + 1) text)) (inside : (k : ℕ) → k < e → slice_index (drop (at + 1) text) k ≡ 10 → ⊥) where
    behind : (i k : ℕ) → i ≡ at + 1 + k → k < e → slice_index text i ≡ slice_index text at → constant_length (slice_index text i) false (drop (i + 1) text) ≡ None
    behind i k sum lt same =
        let rest : List ℕ = drop (at + 1) text in
        let here : slice_index rest k ≡ slice_index text at = index-drop (at + 1) text k ∙ ap (slice_index text) (sym sum) ∙ same in
        let place : at + 1 + suc k ≡ i + 1 = omega arith in
        let later : constant_length (slice_index text at) false (drop (suc k) rest) ≡ None =
        still_open (slice_index text at) false rest k none (λ j le. inside j (omega arith)) (omega arith) here in
        ap (λ q. constant_length q false (drop (i + 1) text)) same ∙ ap (λ n. constant_length (slice_index text at) false (drop n text)) (sym place)
        ∙ sym (ap (constant_length (slice_index text at) false) (drop-drop (suc k) (at + 1) text)) ∙ later

    same_quote : (i : ℕ) → i < at + 1 + e → slice_index text i ≡ slice_index text at → (i ≡ at) ⊎ (at < i) → constant_length (slice_index text i) false (drop (i + 1) text) ≡ None
    same_quote i lt same (inl here) = subst (λ j. constant_length (slice_index text j) false (drop (j + 1) text) ≡ None) (sym here) none
    same_quote i lt same (inr more) = behind i (i - (at + 1)) (omega arith) (omega arith) same

    by_quote : AreUnclosed old at text → (i : ℕ) → at ≤ i → (k : Bool) → (slice_index text i == slice_index text at) ≡ k → i < (if k then at + 1 + e else until old (slice_index text i)) →
        constant_length (slice_index text i) false (drop (i + 1) text) ≡ None
    by_quote known i le true is lt = let same : slice_index text i ≡ slice_index text at = grind (arith, nat_tests) in same_quote i lt same (by_place at i le)
    by_quote known i le false is lt = known.without_end i le lt

    -- a search in vain for the end of the constant that begins here
    pub unclosed_more : ((q : ℕ) → until new q ≡ (if q == slice_index text at then at + 1 + e else until old q)) → AreUnclosed old at text → AreUnclosed new at text
    unclosed_more sets known = record {
      without_end = λ i le lt. by_quote known i le (slice_index text i == slice_index text at) refl (subst (λ n. i < n) (sets (slice_index text i)) lt);
    }

-- further on
pub unclosed_later : (u : Unclosed) (i j : ℕ) (text : List ℕ) → AreUnclosed u i text → i ≤ j → AreUnclosed u j text
unclosed_later u i j text known le = record { without_end = λ k more lt. known.without_end k (omega arith) lt }

-- nothing is known

no_place : (j k : Bool) (double single : ℕ) → double ≡ 0 → single ≡ 0 → (if j then double else (if k then single else 0)) ≡ 0
no_place true k double single d s = d
no_place false true double single d s = s
no_place false false double single d s = refl

pub nothing_known : (u : Unclosed) → u.double ≡ 0 → u.single ≡ 0 → (at : ℕ) (text : List ℕ) → AreUnclosed u at text
nothing_known u double single at text = record {
  without_end = λ i le lt. let none : until u (slice_index text i) ≡ 0 = no_place (slice_index text i == 34) (slice_index text i == 39) u.double u.single double single in absurd (omega arith);
}
