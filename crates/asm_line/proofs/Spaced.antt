-- Lines made of words with a space between each two.
use Rattle.std.proofs.Common.{◌≡◌, ℕ, ◌<◌, Bool, true, ◌&&◌, List, [], ◌∷◌, ◌++◌, length, refl, ap, ◌∙◌, arith}
use Rattle.std.specs.Prelude.{IsTrue, nat_lt, not, ◌==◌}
use Rattle.std.specs.List.{list_all}
use Rattle.std.proofs.lemmas.Bool.Decides.{nat_tests}
use Rattle.std.proofs.lemmas.List.Folds.{list_all-append}
use Rattle.asm_line.specs.Text.{is_word_byte, words_of}
use Rattle.asm_line.proofs.Text.{both, both_true, words_of-last, words_of-word-blank}

-- any byte but a line feed
abbrev pub is_line_byte : ℕ → Bool
is_line_byte b = not (b == 10)

-- a text that is one word of a line
pub record IsWord (text : List ℕ) : Type 0 where
  pub some : 0 < length text
  pub bytes : IsTrue (list_all is_word_byte text)
  pub one_line : IsTrue (list_all is_line_byte text)

-- the test of it
abbrev pub is_word : List ℕ → Bool
is_word text = nat_lt 0 (length text) && (list_all is_word_byte text && list_all is_line_byte text)

pub tested_word : (text : List ℕ) → is_word text ≡ true → IsWord text
tested_word text h =
    let k = both_true (nat_lt 0 (length text)) (list_all is_word_byte text && list_all is_line_byte text) h in
    let j = both_true (list_all is_word_byte text) (list_all is_line_byte text) k.1 in
    record { some = grind (arith, nat_tests); bytes = j.0; one_line = j.1 }

abbrev pub AreWords : List (List ℕ) → Type 0
AreWords [] = Unit {0}
AreWords (w ∷ ws) = IsWord w × AreWords ws

-- a word, and more words with a space before each
abbrev pub spaced : List ℕ → List (List ℕ) → List ℕ
spaced w [] = w
spaced w (x ∷ ws) = w ++ 32 ∷ spaced x ws

pub words_of-spaced : (w : List ℕ) (ws : List (List ℕ)) → IsWord w → AreWords ws → words_of (spaced w ws) ≡ w ∷ ws
words_of-spaced w [] is are = words_of-last w is.some is.bytes
words_of-spaced w (x ∷ ws) is are = words_of-word-blank w 32 (spaced x ws) is.some is.bytes refl ∙ ap (λ more. w ∷ more) (words_of-spaced x ws are.0 are.1)

-- they are one line
pub one_line-spaced : (w : List ℕ) (ws : List (List ℕ)) → IsWord w → AreWords ws → IsTrue (list_all is_line_byte (spaced w ws))
one_line-spaced w [] is are = is.one_line
one_line-spaced w (x ∷ ws) is are =
    list_all-append is_line_byte w (32 ∷ spaced x ws)
    ∙ both (list_all is_line_byte w) (list_all is_line_byte (spaced x ws)) is.one_line (one_line-spaced x ws are.0 are.1)
