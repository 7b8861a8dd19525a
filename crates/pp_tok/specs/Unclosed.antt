-- Constants that are known to have no end on their line.
use Rattle.std.specs.Prelude.{◌≡◌, ℕ, ◌+◌, ◌<◌, ◌≤◌, ◌==◌, false, List, drop, slice_index, None, if◌then◌else◌}
use Rattle.pp_tok.specs.declared.unclosed.Unclosed.{Unclosed}
use Rattle.pp_tok.specs.Lengths.{constant_length}

-- the place before which this is known of constants of this quote
abbrev pub until : Unclosed → ℕ → ℕ
until u quote = if quote == 34 then u.double else (if quote == 39 then u.single else 0)

-- from this place of the text on, each constant of which it is known has no end
pub record AreUnclosed (u : Unclosed) (at : ℕ) (text : List ℕ) : Type 0 where
  pub without_end : (i : ℕ) → at ≤ i → i < until u (slice_index text i) → constant_length (slice_index text i) false (drop (i + 1) text) ≡ None
