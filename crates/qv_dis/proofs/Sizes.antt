-- Words of data, and sizes that are rounded up.
use Rattle.std.proofs.Common.{◌≡◌, ℕ, zero, suc, ◌-◌, ◌*◌, ◌%◌, ◌<◌, ◌≤◌, List, [], ◌∷◌, ◌++◌, length, get_or, append-nil, refl, ap, ◌∙◌, arith, length-append}
use Rattle.std.specs.Prelude.{All, flat_map, replicate}
use Rattle.std.proofs.lemmas.List.{length-replicate}
use Rattle.std.proofs.lemmas.Nat.{le_bytes_4}
use Rattle.qv_ops.specs.Code.{word_in, word_bytes}
use Rattle.asm_link.specs.Image.{padded}
use Rattle.qv_dis.specs.Text.{whole_words}

-- numbers below 256
abbrev pub AreBytes : List ℕ → Type 0
AreBytes bs = (i : ℕ) → get_or bs i 0 < 256

pub are_bytes : (bs : List ℕ) → All (λ b. b < 256) bs → AreBytes bs
are_bytes [] h i = omega arith
are_bytes (b ∷ bs) h zero = h 0 0 (omega arith)
are_bytes (b ∷ bs) h (suc i) = are_bytes bs (λ k d lt. h (suc k) d (omega arith)) i

first_four : (a b c d : ℕ) (bs : List ℕ) → AreBytes (a ∷ b ∷ c ∷ d ∷ bs) → AreBytes (a ∷ b ∷ c ∷ d ∷ [])
first_four a b c d bs h zero = h 0
first_four a b c d bs h (suc zero) = h 1
first_four a b c d bs h (suc (suc zero)) = h 2
first_four a b c d bs h (suc (suc (suc zero))) = h 3
first_four a b c d bs h (suc (suc (suc (suc i)))) = omega arith

word_back : (a b c d : ℕ) → AreBytes (a ∷ b ∷ c ∷ d ∷ []) → word_bytes (word_in (a ∷ b ∷ c ∷ d ∷ [])) ≡ a ∷ b ∷ c ∷ d ∷ []
word_back a b c d h = le_bytes_4 (a ∷ b ∷ c ∷ d ∷ []) (word_in (a ∷ b ∷ c ∷ d ∷ [])) refl h (omega arith)

-- the words of bytes whose count is a multiple of 4 give them back
pub words_back : (bs : List ℕ) → AreBytes bs → length bs % 4 ≡ 0 → flat_map word_bytes (whole_words bs) ≡ bs
words_back [] h whole = refl
words_back (a ∷ []) h whole = absurd (omega arith)
words_back (a ∷ b ∷ []) h whole = absurd (omega arith)
words_back (a ∷ b ∷ c ∷ []) h whole = absurd (omega arith)
words_back (a ∷ b ∷ c ∷ d ∷ bs) h whole =
    ap (λ w. w ++ flat_map word_bytes (whole_words bs)) (word_back a b c d (first_four a b c d bs h))
    ∙ ap (λ more. a ∷ b ∷ c ∷ d ∷ more) (words_back bs (λ i. h (suc (suc (suc (suc i))))) (omega arith))

-- there are no more words than bytes for them
pub length-whole_words : (bs : List ℕ) → 4 * length (whole_words bs) ≤ length bs
length-whole_words [] = omega arith
length-whole_words (a ∷ []) = omega arith
length-whole_words (a ∷ b ∷ []) = omega arith
length-whole_words (a ∷ b ∷ c ∷ []) = omega arith
length-whole_words (a ∷ b ∷ c ∷ d ∷ bs) = omega (arith, length-whole_words bs)

-- each word has four bytes
pub length-words : (ws : List ℕ) → length (flat_map word_bytes ws) ≡ 4 * length ws
length-words [] = refl
length-words (w ∷ ws) = omega (arith, length-words ws, length-append (word_bytes w) (flat_map word_bytes ws))

pub length-padded : (bs : List ℕ) → length (padded bs) % 4 ≡ 0
length-padded bs =
    let zero_byte : ℕ = 0 in
    omega (arith, length-append bs (replicate ((4 - length bs % 4) % 4) 0), length-replicate ((4 - length bs % 4) % 4) zero_byte)

-- bytes whose count is a multiple of 4 stay
pub padded-whole : (bs : List ℕ) → length bs % 4 ≡ 0 → padded bs ≡ bs
padded-whole bs whole =
    let none : (4 - length bs % 4) % 4 ≡ 0 = omega arith in
    ap (λ k. bs ++ replicate k 0) none ∙ append-nil bs
