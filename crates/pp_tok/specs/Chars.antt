-- The characters of a file: its bytes without joins of lines, each with the number of its line.
use Rattle.std.specs.Prelude.{ℕ, ◌+◌, ◌==◌, Bool, false, ◌&&◌, ◌||◌, List, [], ◌∷◌, ◌++◌, if◌then◌else◌}
use Rattle.qv_base.specs.Place.{capped}

-- a byte, and the line on which it stands
pub record Char : Type 0 where
  pub byte : ℕ
  pub line : ℕ

abbrev pub starts_with : ℕ → List ℕ → Bool
starts_with c [] = false
starts_with c (b ∷ bs) = b == c

-- a carriage return directly before a line feed is dropped
unfoldable pub without_returns : List ℕ → List ℕ
without_returns [] = []
without_returns (b ∷ bs) = (if b == 13 && starts_with 10 bs then [] else b ∷ []) ++ without_returns bs

-- a byte is joined where it is a backslash directly before a line feed, or a line feed directly behind a backslash
abbrev pub is_joined : ℕ → ℕ → List ℕ → Bool
is_joined before b bs = (b == 92 && starts_with 10 bs) || (b == 10 && before == 92)

-- the number of the line behind a byte on this line
abbrev pub line_behind : ℕ → ℕ → ℕ
line_behind b line = if b == 10 then capped (line + 1) else line

-- the characters of a text on this line, which stands behind this byte: joined bytes are dropped
unfoldable pub chars_behind : ℕ → ℕ → List ℕ → List Char
chars_behind before line [] = []
chars_behind before line (b ∷ bs) = (if is_joined before b bs then [] else record { byte = b; line = line } ∷ []) ++ chars_behind b (line_behind b line) bs

-- the characters of a text that begins with this line
abbrev pub chars_from : ℕ → List ℕ → List Char
chars_from line bytes = chars_behind 10 line (without_returns bytes)
