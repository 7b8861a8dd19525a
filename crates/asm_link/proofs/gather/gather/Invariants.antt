use Rattle.std.proofs.Common.{◌≡◌, ℕ, ◌+◌, ◌*◌, ◌≤◌, ◌<◌, ◌^◌, List, length}
use Rattle.std.specs.List.{list_all}
use Rattle.std.specs.Option.{option_or}
use Rattle.asm_link.specs.Definitions.{definitions_from, end_of, known, known_by, settled_in, state_after}
use Rattle.asm_link.specs.Lookup.{lookup}
use Rattle.asm_link.specs.Reader.{left}
use Rattle.asm_link.specs.Shown.{before_of, texts_of}
use Rattle.asm_link.specs.Source.{carries, source_of}
use Rattle.asm_link.specs.State.{start, weight}
use Rattle.asm_link.proofs.gather.gather.Given as goal

abbrev pub invariant-loop-line : goal.invariant-loop-line
invariant-loop-line l = record {
  bound : weight (before_of l.state) ≤ 4 + 2 ^ 35 * l.at;
  count : l.at + length (left l.reader) ≡ length (source_of (texts_of l.files));
  few : l.at < 2 ^ 64;
  counted : state_after (before_of l.state) (left l.reader) ≡ state_after start (source_of (texts_of l.files));
  carried : list_all carries (left l.reader) ≡ list_all carries (source_of (texts_of l.files));
  named : (file : ℕ) (name : List ℕ) → option_or (lookup (end_of (settled_in l.state.segment (left l.reader)) (before_of l.state)) l.names file name) (known_by (definitions_from l.at (before_of l.state) (left l.reader)) file name) ≡ known (source_of (texts_of l.files)) file name;
}

abbrev pub decreases-loop-line : goal.decreases-loop-line
decreases-loop-line l = length (left l.reader)
