-- Lines where they stand.
use Rattle.std.specs.Prelude.{ℕ, ◌+◌, List, [], ◌∷◌}
use Rattle.asm_link.specs.Source.{SourceLine}
use Rattle.asm_link.specs.State.{Before, step, start}

-- a line where it stands: its number among all lines, from 0, and what the lines before it come to
pub record Visit : Type 0 where
  pub at : ℕ
  pub before : Before
  pub line : SourceLine

abbrev pub visits_from : ℕ → Before → List SourceLine → List Visit
visits_from at s [] = []
visits_from at s (x ∷ xs) = record { at = at; before = s; line = x } ∷ visits_from (at + 1) (step s x) xs

-- all lines, where they stand
abbrev pub visits : List SourceLine → List Visit
visits all = visits_from 0 start all
