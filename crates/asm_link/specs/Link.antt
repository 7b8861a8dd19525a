-- Linking: the image that files of assembly come to, or the first fault.
use Rattle.std.specs.Prelude.{◌≡◌, ◌⊎◌, ℕ, ◌+◌, ◌^◌, ◌==◌, nat_lt, List, [], ◌∷◌, length, Option, Some, None, Result, Ok, Err, option_map, if◌then◌else◌}
use Rattle.std.specs.Option.{option_or}
use Rattle.qv_image.specs.declared.image.Image.{Image}
use Rattle.qv_image.specs.Image.{Qvm}
use Rattle.qv_image.specs.Shown.{qvm_of}
use Rattle.asm_link.specs.declared.fault.AsmFault.{AsmFault}
use Rattle.asm_link.specs.declared.fault.AsmKind.{AsmKind}
use Rattle.asm_link.specs.declared.fault.AsmKind.TheVariants.{EmptyCode, DataTooLarge, NoMemory}
use Rattle.asm_line.specs.Size.{rounded}
use Rattle.asm_link.specs.Definitions.{state_after}
use Rattle.asm_link.specs.Faults.{kind_at}
use Rattle.asm_link.specs.Image.{bss_length, image_of}
use Rattle.asm_link.specs.Source.{SourceLine, source_of}
use Rattle.asm_link.specs.State.{Before, start}
use Rattle.asm_link.specs.Visits.{Visit, visits}

-- the fault of a line
abbrev pub fault_at : List SourceLine → Visit → Option AsmFault
fault_at all v = option_map (λ kind. record { file = v.line.file; line = v.line.line; kind = kind }) (kind_at all v)

-- the first fault in the order of lines
abbrev pub first_fault : List SourceLine → List Visit → Option AsmFault
first_fault all [] = None
first_fault all (v ∷ vs) = option_or (fault_at all v) (first_fault all vs)

-- the bytes of data, literals and zeros
abbrev pub block_size : Before → ℕ
block_size last = rounded last.data_size + rounded last.lit_size + bss_length last

-- the faults behind all lines
abbrev pub end_kind : Before → Option AsmKind
end_kind last = if last.count == 0 then Some EmptyCode else (if nat_lt (2 ^ 26) (block_size last) then Some (DataTooLarge (block_size last)) else None)

abbrev pub end_fault : ℕ → Before → Option AsmFault
end_fault files last = option_map (λ kind. record { file = files; line = 0; kind = kind }) (end_kind last)

-- the first fault of this many files
abbrev pub fault_in : ℕ → List SourceLine → Option AsmFault
fault_in files all = option_or (first_fault all (visits all)) (end_fault files (state_after start all))

abbrev pub unless_fault : Option AsmFault → Qvm → Result Qvm AsmFault
unless_fault None image = Ok image
unless_fault (Some fault) image = Err fault

-- what this many files with these lines are linked to
abbrev pub linked_lines : ℕ → List SourceLine → Result Qvm AsmFault
linked_lines files all = unless_fault (fault_in files all) (image_of all)

-- what the files that have these texts are linked to: an image, or the first fault
abbrev pub linked : List (List ℕ) → Result Qvm AsmFault
linked texts = linked_lines (length texts) (source_of texts)

-- a result gives this answer. Want of memory may stand in its place
abbrev pub Answers : Result Qvm AsmFault → Result Image AsmFault → Type 0
Answers answer (Ok image) = answer ≡ Ok (qvm_of image)
Answers answer (Err fault) = (fault.kind ≡ NoMemory) ⊎ (answer ≡ Err fault)
