use Rattle.std.proofs.Common.{◌-◌, ◌≤◌, length, drop}
use Rattle.pp_tok.specs.Chars.{chars_from}
use Rattle.pp_tok.specs.CharVectors.{Leaves}
use Rattle.pp_tok.proofs.chars.file_chars.Given as goal

abbrev pub invariant-loop-feed : goal.invariant-loop-feed
invariant-loop-feed l = record {
  within : l.at ≤ length l.bytes;
  made : Leaves l.chars (chars_from l.number (drop l.at l.bytes)) (chars_from 1 l.bytes);
}

abbrev pub decreases-loop-feed : goal.decreases-loop-feed
decreases-loop-feed l = length l.bytes - l.at
