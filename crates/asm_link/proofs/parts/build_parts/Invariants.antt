use Rattle.std.proofs.Common.{◌≡◌, ◌+◌, ◌*◌, ◌≤◌, ◌^◌, ◌++◌, length}
use Rattle.std.specs.Prelude.{flat_map, replicate}
use Rattle.asm_line.specs.declared.line.AsmSegment.TheVariants.{Data, Lit}
use Rattle.asm_link.specs.Image.{bytes_at, code_at}
use Rattle.asm_link.specs.Link.{first_fault}
use Rattle.asm_link.specs.Reader.{left}
use Rattle.asm_link.specs.Shown.{before_of, texts_of}
use Rattle.asm_link.specs.Source.{source_of}
use Rattle.asm_link.specs.State.{weight}
use Rattle.asm_link.specs.Visits.{visits, visits_from}
use Rattle.asm_link.proofs.parts.build_parts.Given as goal

abbrev pub invariant-loop-line : goal.invariant-loop-line
invariant-loop-line l = record {
  bound : weight (before_of l.state) ≤ 4 + 2 ^ 35 * l.at;
  count : l.at + length (left l.reader) ≡ length (source_of (texts_of l.tables.files.now));
  faults : first_fault (source_of (texts_of l.tables.files.now)) (visits_from l.at (before_of l.state) (left l.reader)) ≡ first_fault (source_of (texts_of l.tables.files.now)) (visits (source_of (texts_of l.tables.files.now)));
  code : l.parts.code.items ++ flat_map (code_at (source_of (texts_of l.tables.files.now))) (visits_from l.at (before_of l.state) (left l.reader)) ≡ flat_map (code_at (source_of (texts_of l.tables.files.now))) (visits (source_of (texts_of l.tables.files.now)));
  data_part : l.parts.data_part.items ++ flat_map (bytes_at (source_of (texts_of l.tables.files.now)) Data) (visits_from l.at (before_of l.state) (left l.reader)) ≡ replicate 4 0 ++ flat_map (bytes_at (source_of (texts_of l.tables.files.now)) Data) (visits (source_of (texts_of l.tables.files.now)));
  lit : l.parts.lit.items ++ flat_map (bytes_at (source_of (texts_of l.tables.files.now)) Lit) (visits_from l.at (before_of l.state) (left l.reader)) ≡ flat_map (bytes_at (source_of (texts_of l.tables.files.now)) Lit) (visits (source_of (texts_of l.tables.files.now)));
}

abbrev pub decreases-loop-line : goal.decreases-loop-line
decreases-loop-line l = length (left l.reader)
