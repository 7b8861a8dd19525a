-- The program's tables by what they say. No public clause names it.
use Rattle.std.specs.Prelude.{ℕ, List}
use denote.Ref.{Bor}
use Rattle.c_tok.specs.declared.mark.Mark.{Mark}

abbrev pub row_of : Bor (List ℕ) × Mark → List ℕ × Mark
row_of row = (row.0.now, row.1)
