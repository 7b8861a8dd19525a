-- How a text is cut into lines, and a line into words.
use Rattle.std.specs.Prelude.{ℕ, Bool, false, ◌||◌, not, ◌==◌, List, [], ◌∷◌, ◌++◌, flat_map, if◌then◌else◌}

-- a byte goes onto the first of these
abbrev pub onto : ℕ → List (List ℕ) → List (List ℕ)
onto b [] = (b ∷ []) ∷ []
onto b (t ∷ ts) = (b ∷ t) ∷ ts

-- the lines of a text: each ends at a line feed, and what is behind the last one is a line too
unfoldable pub lines_of : List ℕ → List (List ℕ)
lines_of [] = [] ∷ []
lines_of (b ∷ bs) = if b == 10 then [] ∷ lines_of bs else onto b (lines_of bs)

-- lines with their line feeds
abbrev pub text_of : List (List ℕ) → List ℕ
text_of lines = flat_map (λ line. line ++ 10 ∷ []) lines

-- a space, a tab or a carriage return
abbrev pub is_blank : ℕ → Bool
is_blank b = (b == 32) || (b == 9) || (b == 13)

-- neither a blank nor the semicolon, which starts a comment
abbrev pub is_word_byte : ℕ → Bool
is_word_byte b = not (is_blank b || (b == 59))

-- a byte that passes the test stands first
abbrev pub starts_with : (ℕ → Bool) → List ℕ → Bool
starts_with test [] = false
starts_with test (b ∷ bs) = test b

-- a byte before a line with these words; joins says that a word begins the line
abbrev pub before : ℕ → Bool → List (List ℕ) → List (List ℕ)
before b joins ws = if b == 59 then [] else (if is_blank b then ws else (if joins then onto b ws else (b ∷ []) ∷ ws))

-- the words of a line, up to its end or a semicolon
unfoldable pub words_of : List ℕ → List (List ℕ)
words_of [] = []
words_of (b ∷ bs) = before b (starts_with is_word_byte bs) (words_of bs)
