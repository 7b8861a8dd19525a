-- One more word of a call.
use Rattle.std.proofs.Common.{◌≡◌, ℕ, ◌+◌, ◌-◌, ◌<◌, ◌≤◌, ◌^◌, ◌++◌, Bool, true, false, ◌&&◌, List, [], ◌∷◌, length, set, drop, replicate, zero, suc, refl, sym, ap, ◌∙◌, arith, length-set, length-append}
use Rattle.std.specs.Prelude.{IsTrue, nat_lt, ◌==◌}
use Rattle.std.specs.List.{list_all, All, AllByRecursion}
use Rattle.std.proofs.lemmas.Bool.Decides.{nat_tests}
use Rattle.std.proofs.lemmas.List.{drop-set-lt, drop-drop, drop-replicate}
use Rattle.std.proofs.lemmas.List.Elements.{All-from_recursion, All-weaker, All-push}
use Rattle.qv_words.specs.Calls.{is_call, AreCalls}

pub both_true : (a b : Bool) → (a && b) ≡ true → (a ≡ true) × (b ≡ true)
both_true true b h = (refl, h)
both_true false b h = (h, cc)

two_true : (a b : Bool) → a ≡ true → b ≡ true → (a && b) ≡ true
two_true a b ha hb = ap (λ k. k && b) ha ∙ hb

all_set : (p : ℕ → Bool) (xs : List ℕ) (i y : ℕ) → list_all p xs ≡ true → p y ≡ true → list_all p (set xs i y) ≡ true
all_set p [] i y h k = refl
all_set p (x ∷ xs) zero y h k = let each : (p x ≡ true) × (list_all p xs ≡ true) = both_true (p x) (list_all p xs) h in two_true (p y) (list_all p xs) k each.1
all_set p (x ∷ xs) (suc i) y h k =
    let each : (p x ≡ true) × (list_all p xs ≡ true) = both_true (p x) (list_all p xs) h in
    two_true (p x) (list_all p (set xs i y)) each.0 (all_set p xs i y each.1 k)

below_true : (n m : ℕ) → n < m → nat_lt n m ≡ true
below_true n m h = grind (arith, nat_tests)

-- a call with another word is one
pub is_call-set : (words : List ℕ) (i word : ℕ) → IsTrue (is_call words) → word < 2 ^ 32 → IsTrue (is_call (set words i word))
is_call-set words i word h lt =
    let each : (length words == 14 ≡ true) × (list_all (λ w. nat_lt w (2 ^ 32)) words ≡ true) = both_true (length words == 14) (list_all (λ w. nat_lt w (2 ^ 32)) words) h in
    two_true (length (set words i word) == 14) (list_all (λ w. nat_lt w (2 ^ 32)) (set words i word)) (ap (λ n. n == 14) (length-set words i word) ∙ each.0)
    (all_set (λ w. nat_lt w (2 ^ 32)) words i word each.1 (below_true word (2 ^ 32) lt))

-- zeros stand behind it
pub zeros_behind : (args : List ℕ) (count word : ℕ) → drop count args ≡ replicate (14 - count) 0 → drop (count + 1) (set args count word) ≡ replicate (14 - (count + 1)) 0
zeros_behind args count word zeros =
    let zero_word : ℕ = 0 in
    let lt : count < count + 1 = omega arith in
    let less : 14 - count - 1 ≡ 14 - (count + 1) = omega arith in
    drop-set-lt (count + 1) args count word lt ∙ sym (drop-drop 1 count args) ∙ ap (drop 1) zeros ∙ drop-replicate 1 (14 - count) zero_word ∙ ap (λ n. replicate n zero_word) less

-- what is tested of each holds of each
all_pass : {X : Type 0} (p : X → Bool) (xs : List X) → list_all p xs ≡ true → AllByRecursion (λ x. p x ≡ true) xs
all_pass p [] h = tt
all_pass p (x ∷ xs) h = let each : (p x ≡ true) × (list_all p xs ≡ true) = both_true (p x) (list_all p xs) h in (each.0, all_pass p xs each.1)

below : (n m : ℕ) → nat_lt n m ≡ true → n < m
below n m h = grind (arith, nat_tests)

same : (n m : ℕ) → (n == m) ≡ true → n ≡ m
same n m h = grind (arith, nat_tests)

abbrev pub IsCall : List ℕ → Type 0
IsCall words = (length words ≡ 14) × All (λ w. w < 2 ^ 32) words

call_is : (words : List ℕ) → is_call words ≡ true → IsCall words
call_is words h =
    let each : (length words == 14 ≡ true) × (list_all (λ w. nat_lt w (2 ^ 32)) words ≡ true) = both_true (length words == 14) (list_all (λ w. nat_lt w (2 ^ 32)) words) h in (
      same (length words) 14 each.0,
      All-weaker (λ w. nat_lt w (2 ^ 32) ≡ true) (λ w. w < 2 ^ 32) (λ w k. below w (2 ^ 32) k) words (All-from_recursion (λ w. nat_lt w (2 ^ 32) ≡ true) words (all_pass (λ w. nat_lt w (2 ^ 32)) words each.1)),
    )

-- the calls that are ended, and the last one
pub calls_are : (ended : List (List ℕ)) (last : List ℕ) → length ended ≤ 4095 → IsTrue (list_all is_call ended) → IsTrue (is_call last) → AreCalls (ended ++ last ∷ [])
calls_are ended last few whole is =
    record {
      some = omega (arith, length-append ended (last ∷ []));
      most = omega (arith, length-append ended (last ∷ []));
      each = All-push IsCall ended last (All-weaker (λ words. is_call words ≡ true) IsCall call_is ended (All-from_recursion (λ words. is_call words ≡ true) ended (all_pass is_call ended whole))) (call_is last is);
    }
