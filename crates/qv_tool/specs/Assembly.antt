-- The lines of faults in assembly.
use Rattle.std.specs.Prelude.{ℕ, Bool, true, false, List, [], ◌++◌, codes, if◌then◌else◌}
use Rattle.std.specs.Fmt.{decimal}
use Rattle.asm_line.specs.declared.line.LineFault.{LineFault}
use Rattle.asm_line.specs.declared.line.LineFault.TheVariants.{UnknownWord, Float, Byte2, MissingOperand, BadNumber, ExtraWord}
use Rattle.asm_link.specs.declared.fault.AsmKind.{AsmKind}
use Rattle.asm_link.specs.declared.fault.AsmKind.TheVariants.{Line, Redefined, MixedSegments, WrongSegment, OutsideProc, FrameTooLarge, ArgTooFar, UndefinedName, BranchFar, CodeTooLarge, EmptyCode, DataTooLarge, BadList, NoMemory}

abbrev pub line_text : LineFault → List ℕ
line_text UnknownWord = codes "unknown word"
line_text Float = codes "float"
line_text Byte2 = codes "byte 2"
line_text MissingOperand = codes "missing operand"
line_text BadNumber = codes "bad number"
line_text ExtraWord = codes "extra word"

-- what is wrong
abbrev pub kind_words : AsmKind → List ℕ
kind_words (Line fault) = line_text fault
kind_words (Redefined name) = codes "redefined "
kind_words (MixedSegments name) = codes "mixed segments "
kind_words WrongSegment = codes "wrong segment"
kind_words OutsideProc = codes "outside proc"
kind_words FrameTooLarge = codes "frame too large"
kind_words ArgTooFar = codes "argument too far"
kind_words (UndefinedName name) = codes "undefined "
kind_words BranchFar = codes "branch too far"
kind_words CodeTooLarge = codes "code too large"
kind_words EmptyCode = codes "empty code"
kind_words (DataTooLarge size) = codes "data too large "
kind_words BadList = codes "bad name"
kind_words NoMemory = codes "no memory"

-- the name or the size that it is wrong with
abbrev pub object_text : AsmKind → List ℕ
object_text (Redefined name) = name
object_text (MixedSegments name) = name
object_text (UndefinedName name) = name
object_text (DataTooLarge size) = decimal size
object_text kind = []

-- a fault behind all lines
abbrev pub is_behind : AsmKind → Bool
is_behind EmptyCode = true
is_behind (DataTooLarge size) = true
is_behind kind = false

-- where a fault stands: at a line of a file, or behind all lines
abbrev pub place_text : List ℕ → ℕ → Bool → List ℕ
place_text file number behind = if behind then codes "link" else file ++ codes ":" ++ decimal number

abbrev pub fault_text : List ℕ → ℕ → AsmKind → List ℕ
fault_text file number kind = place_text file number (is_behind kind) ++ codes ": " ++ kind_words kind ++ object_text kind
