-- Characters kept as two vectors, and the characters of one line.
use Rattle.std.specs.Prelude.{◌≡◌, ℕ, ◌+◌, ◌-◌, ◌==◌, ◌<◌, ◌≤◌, Bool, false, List, [], ◌∷◌, ◌++◌, map, length, take, drop, if◌then◌else◌}
use Rattle.pp_tok.specs.declared.chars.Chars.{Chars}
use Rattle.pp_tok.specs.Chars.{Char}

-- the vectors hold these characters
pub record AreChars (chars : Chars) (cs : List Char) : Type 0 where
  pub text : chars.text.items ≡ map (λ c. c.byte) cs
  pub lines : chars.lines.items ≡ map (λ c. c.line) cs

-- they have these characters at their end besides
pub record Adds (old new : Chars) (cs : List Char) : Type 0 where
  pub text : new.text.items ≡ old.text.items ++ map (λ c. c.byte) cs
  pub lines : new.lines.items ≡ old.lines.items ++ map (λ c. c.line) cs

-- with these characters behind them they are all
pub record Leaves (chars : Chars) (rest all : List Char) : Type 0 where
  pub text : chars.text.items ++ map (λ c. c.byte) rest ≡ map (λ c. c.byte) all
  pub lines : chars.lines.items ++ map (λ c. c.line) rest ≡ map (λ c. c.line) all

abbrev pub on_line : ℕ → ℕ → Char
on_line line b = record { byte = b; line = line }

-- no byte is a line feed
abbrev pub HasNoFeed : List ℕ → Type 0
HasNoFeed [] = Unit {0}
HasNoFeed (b ∷ bs) = (b ≡ 10 → ⊥) × HasNoFeed bs

-- the first line feed from place `at` on stands at place `feed`
pub record IsFirstFeed (bytes : List ℕ) (at feed : ℕ) : Type 0 where
  pub low : at ≤ feed
  pub high : feed < length bytes
  pub cut : drop at bytes ≡ take (feed - at) (drop at bytes) ++ 10 ∷ drop (feed + 1) bytes
  pub before : HasNoFeed (take (feed - at) (drop at bytes))

abbrev pub ends_with : ℕ → List ℕ → Bool
ends_with c [] = false
ends_with c (b ∷ []) = b == c
ends_with c (b ∷ d ∷ bs) = ends_with c (d ∷ bs)

-- the bytes without this one at their end
abbrev pub without_last : ℕ → List ℕ → List ℕ
without_last c [] = []
without_last c (b ∷ []) = if b == c then [] else b ∷ []
without_last c (b ∷ d ∷ bs) = b ∷ without_last c (d ∷ bs)

-- the characters of a line that a line feed ends, which stands behind these bytes
abbrev pub chars_of_line : ℕ → List ℕ → List Char
chars_of_line line bytes =
    map (on_line line) (without_last 92 (without_last 13 bytes)) ++ (if ends_with 92 (without_last 13 bytes) then [] else on_line line 10 ∷ [])
