use Rattle.std.proofs.Common.{◌≡◌, ◌≤◌, length}
use Rattle.pp_dir.specs.Forms.{onto_section, passages_of}
use Rattle.pp_dir.proofs.passage.Lines.section_from.Given as goal

abbrev pub invariant-loop-line : goal.invariant-loop-line
invariant-loop-line l = record {
  section : onto_section l.fn.first (passages_of l.fn.self) ≡ onto_section l.section (passages_of l.self);
  fewer : length l.self ≤ length l.fn.self;
}

abbrev pub decreases-loop-line : goal.decreases-loop-line
decreases-loop-line l = length l.self
