-- The words of bytes.
use Rattle.std.proofs.Common.{◌≡◌, ℕ, ◌<◌, List, [], ◌∷◌, length, refl, arith}
use Rattle.qv_dis.specs.Text.{whole_words}

-- no word is left
pub words_end : (bytes : List ℕ) → length bytes < 4 → whole_words bytes ≡ []
words_end [] lt = refl
words_end (a ∷ []) lt = refl
words_end (a ∷ b ∷ []) lt = refl
words_end (a ∷ b ∷ c ∷ []) lt = refl
words_end (a ∷ b ∷ c ∷ d ∷ bytes) lt = absurd (omega arith)
