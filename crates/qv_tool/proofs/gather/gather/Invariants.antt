use Rattle.std.proofs.Common.{◌≡◌, ◌≤◌, length, map, string_bytes, drop}
use Rattle.std.specs.Prelude.{IfSome}
use Rattle.asm_link.specs.Shown.{texts_of}
use Rattle.qv_tool.specs.Gathered.{gathered}
use Rattle.qv_tool.proofs.Gathering.{with_texts}
use Rattle.qv_tool.proofs.gather.gather.Given as goal

abbrev pub invariant-loop-name : goal.invariant-loop-name
invariant-loop-name g l = record {
  same : g.F.Files.held l.files ≡ g.F.Files.held l.fn.files;
  texts : IfSome (g.F.Files.held l.fn.files) (λ held. gathered held (map string_bytes l.names) ≡ with_texts (texts_of l.texts.items) (gathered held (drop l.name-index (map string_bytes l.names))));
  count : length l.texts.items ≡ l.name-index;
  reads : g.F.Files.read_faults l.fn.files ≤ g.F.Files.read_faults l.files;
  writes : g.F.Files.write_faults l.files ≡ g.F.Files.write_faults l.fn.files;
}
