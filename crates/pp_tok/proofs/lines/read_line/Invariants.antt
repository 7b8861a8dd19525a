use Rattle.std.proofs.Common.{◌≡◌, ◌-◌, ◌≤◌, true, List, length, drop}
use Rattle.pp_tok.specs.Chars.{Char}
use Rattle.pp_tok.specs.CharVectors.{AreChars}
use Rattle.pp_tok.specs.Lines.{lines_behind}
use Rattle.pp_tok.specs.Reading.{part_at}
use Rattle.pp_tok.specs.Unclosed.{AreUnclosed}
use Rattle.pp_tok.proofs.lines.read_line.Given as goal

abbrev pub invariant-loop-at : goal.invariant-loop-at
invariant-loop-at l = record {
  low : l.start.at ≤ l.at;
  known : AreUnclosed l.unclosed l.at l.chars.text.items;
  reads : (cs : List Char) → AreChars l.chars cs → lines_behind l.file 0 true l.part (drop l.at cs) ≡ lines_behind l.file 0 true (part_at l.start) (drop l.start.at cs);
}

abbrev pub decreases-loop-at : goal.decreases-loop-at
decreases-loop-at l = length l.chars.text.items - l.at
