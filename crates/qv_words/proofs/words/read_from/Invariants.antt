use Rattle.std.proofs.Common.{◌≡◌, ◌-◌, ◌≤◌, length, map, drop}
use Rattle.std.specs.Prelude.{string_bytes}
use Rattle.qv_words.specs.Words.{read_from}
use Rattle.qv_words.specs.Shown.{options_shown}
use Rattle.qv_words.proofs.words.read_from.Given as goal

abbrev pub invariant-loop-at : goal.invariant-loop-at
invariant-loop-at l = record {
  within : l.at ≤ length l.words;
  read : read_from l.verb (map string_bytes (drop l.at l.words)) (options_shown l.options) ≡ read_from l.verb (map string_bytes l.words) (options_shown l.fn.options);
}

abbrev pub decreases-loop-at : goal.decreases-loop-at
decreases-loop-at l = length l.words - l.at
