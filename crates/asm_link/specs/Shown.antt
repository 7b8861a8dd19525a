-- The program's values by what they stand for.
use Rattle.std.specs.Prelude.{ℕ, List, map, option_map}
use Rattle.asm_line.specs.Shown.{bytes_of, expression_of, row_of}
use Rattle.asm_line.specs.Stands.{Addition as AdditionShown, WordOf, OneByte, Zeros as ZerosShown}
use Rattle.asm_line.specs.declared.line.AsmSegment.{AsmSegment}
use Rattle.asm_link.specs.declared.addition.Addition.{Addition}
use Rattle.asm_link.specs.declared.addition.Addition.TheVariants.{Word, Byte, Zeros}
use Rattle.asm_link.specs.declared.fault.AsmFault.{AsmFault}
use Rattle.asm_link.specs.declared.fault.AsmFile.{AsmFile}
use Rattle.asm_link.specs.declared.fault.AsmKind.{AsmKind}
use Rattle.asm_link.specs.declared.fault.AsmKind.TheVariants.{Line as AsmLine, Redefined as AsmRedefined, MixedSegments as AsmMixedSegments, WrongSegment as AsmWrongSegment, OutsideProc as AsmOutsideProc, FrameTooLarge as AsmFrameTooLarge, ArgTooFar as AsmArgTooFar, UndefinedName as AsmUndefinedName, BranchFar as AsmBranchFar, CodeTooLarge as AsmCodeTooLarge, EmptyCode as AsmEmptyCode, DataTooLarge as AsmDataTooLarge}
use Rattle.asm_link.specs.declared.lent.LentFault.{LentFault}
use Rattle.asm_link.specs.declared.lent.LentKind.{LentKind}
use Rattle.asm_link.specs.declared.lent.LentKind.TheVariants.{Line, Redefined, MixedSegments, WrongSegment, OutsideProc, FrameTooLarge, ArgTooFar, UndefinedName, BranchFar, CodeTooLarge, EmptyCode, DataTooLarge}
use Rattle.asm_link.specs.declared.source.Entry.{Entry}
use Rattle.asm_link.specs.declared.source.Entry.TheVariants.{Read, Unread, FileEnd}
use Rattle.asm_link.specs.declared.source.SourceLine.{SourceLine}
use Rattle.asm_link.specs.declared.state.State.{State}
use Rattle.asm_link.specs.Source.{Entry as EntryShown, SourceLine as SourceShown, Read as ReadShown, Unread as UnreadShown, FileEnd as FileEndShown}
use Rattle.asm_link.specs.State.{Before, step}
use Rattle.asm_link.specs.Definitions.{end_of, settled_in}
use Rattle.asm_place.specs.declared.address.Address.{Address}

-- the texts of files
abbrev pub texts_of : List AsmFile → List (List ℕ)
texts_of files = map (λ f. f.text.items) files

abbrev pub entry_of : Entry → EntryShown
entry_of (Read line) = ReadShown (row_of line)
entry_of (Unread fault) = UnreadShown fault
entry_of FileEnd = FileEndShown

abbrev pub line_of : SourceLine → SourceShown
line_of s = record { file = s.file; line = s.line; entry = entry_of s.entry }

abbrev pub added_shown : Addition → AdditionShown
added_shown (Word value) = WordOf (expression_of value)
added_shown (Byte byte) = OneByte byte
added_shown (Zeros n) = ZerosShown n

abbrev pub addition_shown : AsmSegment × Addition → AsmSegment × AdditionShown
addition_shown a = (a.0, added_shown a.1)

abbrev pub before_of : State → Before
before_of s = record { segment = s.segment; procedure = s.procedure; arg_words = s.arg_words; last = option_map bytes_of s.last; waits = s.waits; count = s.count; code_bytes = s.code_bytes; data_size = s.data_size; lit_size = s.lit_size; bss_size = s.bss_size }

-- the end of the segment in which labels that wait behind a line are settled
abbrev pub end_behind : SourceLine → List SourceShown → State → Address
end_behind line behind s = end_of (settled_in (step (before_of s) (line_of line)).segment behind) (step (before_of s) (line_of line))

abbrev pub kind_of : LentKind → AsmKind
kind_of (Line fault) = AsmLine fault
kind_of (Redefined name) = AsmRedefined name.now
kind_of (MixedSegments name) = AsmMixedSegments name.now
kind_of WrongSegment = AsmWrongSegment
kind_of OutsideProc = AsmOutsideProc
kind_of FrameTooLarge = AsmFrameTooLarge
kind_of ArgTooFar = AsmArgTooFar
kind_of (UndefinedName name) = AsmUndefinedName name.now
kind_of BranchFar = AsmBranchFar
kind_of CodeTooLarge = AsmCodeTooLarge
kind_of EmptyCode = AsmEmptyCode
kind_of (DataTooLarge size) = AsmDataTooLarge size

abbrev pub fault_of : LentFault → AsmFault
fault_of f = record { file = f.file; line = f.line; kind = kind_of f.kind }
