-- What the lines of all files stand for: instructions, bytes, and the image of all.
use Rattle.std.specs.Prelude.{ℕ, ◌+◌, List, [], ◌++◌, Option, Some, None, length, flat_map, map, replicate, unwrap_or, if◌then◌else◌}
use Rattle.qv_ops.specs.declared.instr.Instr.{Instr}
use Rattle.qv_image.specs.Image.{Qvm}
use Rattle.asm_line.specs.Row.{Expression}
use Rattle.asm_line.specs.Size.{rounded, zeros_to}
use Rattle.asm_line.specs.Stands.{SymbolicInstr, Addition, addition_bytes, resolved}
use Rattle.asm_line.specs.declared.line.AsmSegment.{AsmSegment}
use Rattle.asm_line.specs.declared.line.AsmSegment.TheVariants.{Data, Lit}
use Rattle.asm_link.specs.Definitions.{state_after, value_of}
use Rattle.asm_link.specs.Source.{Entry, SourceLine, Read}
use Rattle.asm_link.specs.State.{Before, is_segment, row_addition, row_code, start}
use Rattle.asm_link.specs.Visits.{Visit, visits}

-- an expression's value, or 0 where its name is nowhere defined, which is a fault
abbrev pub word : List SourceLine → ℕ → Expression → ℕ
word all file e = unwrap_or (value_of all file e) 0

-- the instructions of a line, and what it adds to a segment; a line that can't be read stands for nothing
abbrev pub entry_code : Entry → Before → List SymbolicInstr
entry_code (Read row) s = row_code row s
entry_code entry s = []

abbrev pub entry_addition : Entry → Before → Option (AsmSegment × Addition)
entry_addition (Read row) s = row_addition row s
entry_addition entry s = None

-- a line's instructions, their operands resolved
abbrev pub code_at : List SourceLine → Visit → List Instr
code_at all v = map (resolved (word all v.line.file)) (entry_code v.line.entry v.before)

-- the bytes that a line of a file adds to a segment
abbrev pub bytes_in : List SourceLine → ℕ → AsmSegment → Option (AsmSegment × Addition) → List ℕ
bytes_in all file segment None = []
bytes_in all file segment (Some a) = if is_segment segment a.0 then addition_bytes (word all file) a.1 else []

abbrev pub bytes_at : List SourceLine → AsmSegment → Visit → List ℕ
bytes_at all segment v = bytes_in all v.line.file segment (entry_addition v.line.entry v.before)

-- zero bytes to a multiple of 4
abbrev pub padded : List ℕ → List ℕ
padded bytes = bytes ++ replicate (zeros_to 4 (length bytes)) 0

-- the stack stands behind the other zero bytes
abbrev pub bss_length : Before → ℕ
bss_length last = rounded last.bss_size + 65536

-- the image that the lines come to; the data begin with four zero bytes
abbrev pub image_of : List SourceLine → Qvm
image_of all = record {
  code = flat_map (code_at all) (visits all);
  data_part = padded (replicate 4 0 ++ flat_map (bytes_at all Data) (visits all));
  lit = padded (flat_map (bytes_at all Lit) (visits all));
  bss = bss_length (state_after start all);
}
