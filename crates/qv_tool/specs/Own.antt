-- The words of the module itself, and how the trap `argv` gives them.
use Rattle.std.specs.Prelude.{ℕ, ◌-◌, ◌==◌, List, [], ◌∷◌, ◌++◌, length, take, drop, codes, slice_index_or, if◌then◌else◌}
use Rattle.std.specs.List.{position_or_len}
use Rattle.std.specs.Str.{bytes_eq}

-- the place of the first word `--`, or the count of words
abbrev pub own_place : List (List ℕ) → ℕ
own_place words = position_or_len (λ word. bytes_eq word (codes "--")) words

-- a text as so many bytes have room for it: its front and a NUL, or nothing
abbrev pub text_in : List ℕ → ℕ → List ℕ
text_in text room = if room == 0 then [] else take (room - 1) text ++ 0 ∷ []

-- the word of this number, from 0, or the empty text past the last one, in a buffer of so many bytes
abbrev pub argument_text : List (List ℕ) → ℕ → ℕ → List ℕ
argument_text words number room = text_in (slice_index_or words number []) room

-- the text at the front of the buffer; all else stays
abbrev pub put_front : List ℕ → List ℕ → List ℕ
put_front text buffer = text ++ drop (length text) buffer
