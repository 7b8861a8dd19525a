-- The lines that a reader has left.
use Rattle.std.specs.Prelude.{◌+◌, List, [], ◌∷◌}
use Rattle.asm_line.specs.Text.{lines_of}
use Rattle.asm_link.specs.Shown.{texts_of}
use Rattle.asm_link.specs.Source.{SourceLine, FileEnd, file_source, source_from}
use Rattle.asm_link.specs.declared.reader.Position.{Position}
use Rattle.asm_link.specs.declared.reader.Position.TheVariants.{Text, End, Done}
use Rattle.asm_link.specs.declared.reader.Reader.{Reader}

abbrev pub left_at : Reader → Position → List SourceLine
left_at r (Text text) = file_source r.file r.line (lines_of text.now) (source_from (r.file + 1) (texts_of r.files.now))
left_at r End = record { file = r.file; line = r.line; entry = FileEnd } ∷ source_from (r.file + 1) (texts_of r.files.now)
left_at r Done = []

abbrev pub left : Reader → List SourceLine
left r = left_at r r.position
