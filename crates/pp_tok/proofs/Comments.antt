-- Where a comment ends is where its `*/` first stands.
use Rattle.std.proofs.Common.{◌≡◌, ℕ, zero, suc, ◌+◌, ◌<◌, Bool, true, false, ◌&&◌, List, [], ◌∷◌, Option, Some, None, refl, sym, ap, ◌∙◌, arith}
use Rattle.std.specs.Prelude.{option_map, if◌then◌else◌, ◌==◌, slice_index}
use Rattle.std.proofs.lemmas.Bool.Decides.{nat_tests}
use Rattle.memchr.specs.Find.{OccursAt, FindsNeedle}
use Rattle.pp_tok.specs.Chars.{starts_with}
use Rattle.pp_tok.specs.Lengths.{comment_length}

abbrev end : List ℕ
end = 42 ∷ 47 ∷ []

comment_length-nil : comment_length [] ≡ None
unfolding comment_length
comment_length-nil = refl

comment_length-cons : (k : Bool) (b : ℕ) (bs : List ℕ) → (b == 42 && starts_with 47 bs) ≡ k → comment_length (b ∷ bs) ≡ (if k then Some 2 else option_map (λ n. 1 + n) (comment_length bs))
unfolding comment_length
comment_length-cons k b bs is = ap (λ j. if j then Some 2 else option_map (λ n. 1 + n) (comment_length bs)) is

reads_end : (b c : ℕ) (cs : List ℕ) → b ≡ 42 → c ≡ 47 → (j : ℕ) → j < 2 → slice_index (b ∷ c ∷ cs) (0 + j) ≡ slice_index end j
reads_end b c cs star slash zero lt = star
reads_end b c cs star slash (suc zero) lt = slash
reads_end b c cs star slash (suc (suc j)) lt = absurd (omega arith)

occurs_first : (b : ℕ) (bs : List ℕ) → (b == 42 && starts_with 47 bs) ≡ true → OccursAt (b ∷ bs) end 0
occurs_first b [] is = let never : (b == 42 && false) ≡ false = grind (arith, nat_tests) in cc
occurs_first b (c ∷ cs) is =
    let star : b ≡ 42 = grind (arith, nat_tests) in
    let slash : c ≡ 47 = grind (arith, nat_tests) in
    record { fits = omega arith; reads = reads_end b c cs star slash }

first_tests : (b : ℕ) (bs : List ℕ) → OccursAt (b ∷ bs) end 0 → (b == 42 && starts_with 47 bs) ≡ true
first_tests b [] occurs = absurd (omega (arith, occurs.fits))
first_tests b (c ∷ cs) occurs =
    let star : b ≡ 42 = occurs.reads 0 (omega arith) in
    let slash : c ≡ 47 = occurs.reads 1 (omega arith) in
    grind (arith, nat_tests)

later : (b : ℕ) (bs : List ℕ) (k : ℕ) → OccursAt bs end k → OccursAt (b ∷ bs) end (suc k)
later b bs k occurs = record { fits = omega (arith, occurs.fits); reads = λ j lt. let e : suc k + j ≡ suc (k + j) = omega arith in ap (slice_index (b ∷ bs)) e ∙ occurs.reads j lt }

earlier : (b : ℕ) (bs : List ℕ) (k : ℕ) → OccursAt (b ∷ bs) end (suc k) → OccursAt bs end k
earlier b bs k occurs = record { fits = omega (arith, occurs.fits); reads = λ j lt. let e : suc (k + j) ≡ suc k + j = omega arith in ap (slice_index (b ∷ bs)) e ∙ occurs.reads j lt }

not_true : (k : Bool) → (k ≡ true → ⊥) → k ≡ false
not_true true never = absurd (never refl)
not_true false never = refl

nowhere : (text : List ℕ) → ((k : ℕ) → OccursAt text end k → ⊥) → comment_length text ≡ None
nowhere [] none = comment_length-nil
nowhere (b ∷ bs) none =
    comment_length-cons false b bs (not_true (b == 42 && starts_with 47 bs) (λ is. none 0 (occurs_first b bs is)))
    ∙ ap (option_map (λ n. 1 + n)) (nowhere bs (λ k occurs. none (suc k) (later b bs k occurs)))

somewhere : (text : List ℕ) (i : ℕ) → OccursAt text end i → ((k : ℕ) → k < i → OccursAt text end k → ⊥) → comment_length text ≡ Some (i + 2)
somewhere [] i occurs none = absurd (omega (arith, occurs.fits))
somewhere (b ∷ bs) zero occurs none = comment_length-cons true b bs (first_tests b bs occurs)
somewhere (b ∷ bs) (suc i) occurs none =
    let sum : 1 + (i + 2) ≡ suc i + 2 = omega arith in
    comment_length-cons false b bs (not_true (b == 42 && starts_with 47 bs) (λ is. none 0 (omega arith) (occurs_first b bs is)))
    ∙ ap (option_map (λ n. 1 + n)) (somewhere bs i (earlier b bs i occurs) (λ k lt at. none (suc k) (omega arith) (later b bs k at)))
    ∙ ap (λ n. Some n) sum

pub comment_found : (text : List ℕ) (r : Option ℕ) → FindsNeedle text (42 ∷ 47 ∷ []) 0 r → option_map (λ n. n + 2) r ≡ comment_length text
comment_found text None none = sym (nowhere text (λ k occurs. none k (omega arith) (omega (arith, occurs.fits)) occurs))
comment_found text (Some i) found = sym (somewhere text i found.1 (λ k lt. found.0.before k (omega arith) lt))
