use Rattle.std.proofs.Common.{◌≡◌, ◌-◌, ◌++◌, true, List, length, drop}
use Rattle.pp_tok.specs.Chars.{Char}
use Rattle.pp_tok.specs.CharVectors.{AreChars}
use Rattle.pp_tok.specs.Lines.{on_ok, lines_behind, tokens_in}
use Rattle.pp_tok.specs.Reading.{part_at}
use Rattle.pp_tok.proofs.lines.read_tokens.Given as goal

abbrev pub invariant-loop-start : goal.invariant-loop-start
invariant-loop-start l = (cs : List Char) → AreChars l.chars cs →
    on_ok (λ ls. l.tokens ++ tokens_in ls) (lines_behind l.file 0 true (part_at l.start) (drop l.start.at cs)) ≡ on_ok tokens_in (lines_behind l.file 0 true (part_at l.fn.first) (drop l.fn.first.at cs))

abbrev pub decreases-loop-start : goal.decreases-loop-start
decreases-loop-start l = length l.chars.text.items - l.start.at
