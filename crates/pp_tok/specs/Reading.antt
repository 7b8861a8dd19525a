-- What the reading of one line gives.
use Rattle.std.specs.Prelude.{◌≡◌, ℕ, true, false, List, [], ◌∷◌, drop, Result, Ok, Err}
use Rattle.pp_tok.specs.declared.token.PpTokFault.{PpTokFault}
use Rattle.pp_tok.specs.declared.token.PpTokFault.TheVariants.{OpenComment, NoMemory}
use Rattle.pp_tok.specs.declared.lines.OpenLine.{OpenLine}
use Rattle.pp_tok.specs.declared.lines.LineStart.{LineStart}
use Rattle.pp_tok.specs.declared.lines.LineRead.{LineRead}
use Rattle.pp_tok.specs.Chars.{Char}
use Rattle.pp_tok.specs.Lines.{on_ok, lines_behind}

-- a line of which nothing is read
abbrev pub part_at : LineStart → OpenLine
part_at start = record { line = record { number = start.number; toks = [] }; state = start.state; space = false }

-- the lines from this start on are the line that is read and those from the next start on; or the fault is theirs
abbrev pub IsLineRead : ℕ → LineStart → List Char → Result LineRead PpTokFault → Type 0
IsLineRead file start cs (Ok read) = lines_behind file 0 true (part_at start) (drop start.at cs) ≡ on_ok (λ ls. read.line ∷ ls) (lines_behind file 0 false (part_at read.next) (drop read.next.at cs))
IsLineRead file start cs (Err (OpenComment line)) = lines_behind file 0 true (part_at start) (drop start.at cs) ≡ Err line
IsLineRead file start cs (Err NoMemory) = Unit {0}
