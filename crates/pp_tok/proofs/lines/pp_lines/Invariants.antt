use Rattle.std.proofs.Common.{◌≡◌, ◌-◌, ◌++◌, false, length, drop}
use Rattle.pp_tok.specs.Chars.{chars_from}
use Rattle.pp_tok.specs.Lines.{on_ok, lines_behind, lines_of}
use Rattle.pp_tok.specs.Reading.{part_at}
use Rattle.pp_tok.proofs.lines.pp_lines.Given as goal

abbrev pub invariant-loop-start : goal.invariant-loop-start
invariant-loop-start l = on_ok (λ ls. l.lines ++ ls) (lines_behind l.file 0 false (part_at l.start) (drop l.start.at (chars_from 1 l.bytes))) ≡ lines_of l.file l.bytes

abbrev pub decreases-loop-start : goal.decreases-loop-start
decreases-loop-start l = length l.chars.text.items - l.start.at
