-- The faults of a line, in their order.
use Rattle.std.specs.Prelude.{ℕ, ◌+◌, ◌*◌, ◌^◌, ◌==◌, nat_lt, nat_le, Bool, false, ◌&&◌, not, List, Option, Some, None, is_none, if◌then◌else◌}
use Rattle.std.specs.Option.{option_or}
use Rattle.qv_ops.specs.Table.{is_branch}
use Rattle.asm_line.specs.Row.{Row, Proc, EndProc, One, Arg, Ret, LocalAt, ParamAt, Word, LitByte, Skip, Align}
use Rattle.asm_line.specs.Stands.{frame_bytes, sizes_of}
use Rattle.asm_line.specs.declared.line.AsmSegment.{AsmSegment}
use Rattle.asm_line.specs.declared.line.AsmSegment.TheVariants.{Code, Data, Lit}
use Rattle.asm_link.specs.declared.fault.AsmKind.{AsmKind}
use Rattle.asm_link.specs.declared.fault.AsmKind.TheVariants.{Line, Redefined, MixedSegments, WrongSegment, OutsideProc, FrameTooLarge, ArgTooFar, UndefinedName, BranchFar, CodeTooLarge}
use Rattle.asm_link.specs.declared.known.Known.{Known}
use Rattle.asm_link.specs.Definitions.{known, name_in, value_of, number_of_name, state_after}
use Rattle.asm_link.specs.Source.{Entry, SourceLine, Read, Unread}
use Rattle.asm_link.specs.State.{Before, is_segment, step, start}
use Rattle.asm_link.specs.Visits.{Visit}

-- this fault, where the test holds
abbrev pub when : Bool → AsmKind → Option AsmKind
when b kind = if b then Some kind else None

-- a line that can't be read
abbrev pub unread : Entry → Option AsmKind
unread (Unread fault) = Some (Line fault)
unread entry = None

-- the name is first defined on another line
abbrev pub is_other : ℕ → Option Known → Bool
is_other at None = false
is_other at (Some k) = not (k.at == at)

abbrev pub redefined_by : List SourceLine → ℕ → ℕ → Option (List ℕ) → Option AsmKind
redefined_by all at file None = None
redefined_by all at file (Some name) = when (is_other at (known all file name)) (Redefined name)

-- the line defines a name that is defined before
abbrev pub redefined : List SourceLine → Visit → Option AsmKind
redefined all v = redefined_by all v.at v.line.file (name_in v.line.entry)

-- a word or byte goes to another segment, while no label waits and a settled one is kept
abbrev pub mixed_in : AsmSegment → Before → Option (List ℕ) → Option AsmKind
mixed_in target s None = None
mixed_in target s (Some name) = when (not (is_segment target s.segment) && not s.waits) (MixedSegments name)

abbrev pub mixed : Row → Before → Option AsmKind
mixed (Word value) s = mixed_in Data s s.last
mixed (LitByte byte) s = mixed_in Lit s s.last
mixed line s = None

-- zero bytes in the code
abbrev pub wrong_segment : Row → Before → Option AsmKind
wrong_segment (Skip n) s = when (is_segment Code s.segment) WrongSegment
wrong_segment (Align n) s = when (is_segment Code s.segment) WrongSegment
wrong_segment line s = None

-- the line has to stand in a procedure, and none is open
abbrev pub outside_proc : Row → Before → Option AsmKind
outside_proc EndProc s = when (is_none s.procedure) OutsideProc
outside_proc Ret s = when (is_none s.procedure) OutsideProc
outside_proc (LocalAt value) s = when (is_none s.procedure) OutsideProc
outside_proc (ParamAt value) s = when (is_none s.procedure) OutsideProc
outside_proc line s = None

-- the procedure's frame takes 32,767 bytes or more
abbrev pub too_large : Row → Option AsmKind
too_large (Proc name locals args) = when (nat_le 32767 (frame_bytes (sizes_of locals args))) FrameTooLarge
too_large line = None

-- the argument's place is at byte 256 or behind
abbrev pub too_far : Row → Before → Option AsmKind
too_far Arg s = when (nat_le 256 (8 + 4 * s.arg_words)) ArgTooFar
too_far line s = None

-- the expression has a name that no line defines
abbrev pub undefined_value : List SourceLine → ℕ → Option (List ℕ) → Option AsmKind
undefined_value all file None = None
undefined_value all file (Some name) = when (is_none (number_of_name all file name)) (UndefinedName name)

abbrev pub undefined : List SourceLine → ℕ → Row → Option AsmKind
undefined all file (One op value) = undefined_value all file value.name
undefined all file (LocalAt value) = undefined_value all file value.name
undefined all file (ParamAt value) = undefined_value all file value.name
undefined all file (Word value) = undefined_value all file value.name
undefined all file line = None

-- the number is that of no instruction
abbrev pub is_past : ℕ → Option ℕ → Bool
is_past count None = false
is_past count (Some n) = nat_le count n

-- the branch goes to no instruction
abbrev pub branch_far : List SourceLine → ℕ → Row → Option AsmKind
branch_far all file (One op value) = when (is_branch op && is_past (state_after start all).count (value_of all file value)) BranchFar
branch_far all file line = None

-- the code takes more than 2 ^ 27 bytes with this line
abbrev pub code_too_large : Before → Option AsmKind
code_too_large after = when (nat_lt (2 ^ 27) after.code_bytes) CodeTooLarge

-- the first of these faults of a line that can be read
abbrev pub of_line : List SourceLine → ℕ → Row → Before → Option AsmKind
of_line all file line s =
    option_or (mixed line s) (option_or (wrong_segment line s) (option_or (outside_proc line s) (option_or (too_large line) (option_or (too_far line s) (option_or (undefined all file line) (branch_far all file line))))))

abbrev pub of_entry : List SourceLine → ℕ → Entry → Before → Option AsmKind
of_entry all file (Read line) s = of_line all file line s
of_entry all file entry s = None

-- the first fault of a line
abbrev pub kind_at : List SourceLine → Visit → Option AsmKind
kind_at all v = option_or (unread v.line.entry) (option_or (redefined all v) (option_or (of_entry all v.line.file v.line.entry v.before) (code_too_large (step v.before v.line))))
