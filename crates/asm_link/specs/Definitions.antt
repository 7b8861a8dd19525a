-- Names and what they stand for, over the list of all lines.
use Rattle.std.specs.Prelude.{ℕ, ◌+◌, ◌%◌, ◌^◌, List, [], ◌∷◌, ◌++◌, Option, Some, None, find, option_map, unwrap_or}
use Rattle.asm_line.specs.Row.{Expression, Row, Equ, Label}
use Rattle.asm_line.specs.Size.{rounded}
use Rattle.asm_line.specs.Stands.{name_defined, settles}
use Rattle.asm_line.specs.declared.line.AsmSegment.{AsmSegment}
use Rattle.asm_line.specs.declared.line.AsmSegment.TheVariants.{Code, Lit, Bss}
use Rattle.asm_place.specs.Symbols.{same_name}
use Rattle.asm_place.specs.declared.address.Address.{Address}
use Rattle.asm_place.specs.declared.address.Address.TheVariants.{Absolute, Relative}
use Rattle.asm_link.specs.Source.{Entry, SourceLine, Read, Unread, FileEnd}
use Rattle.asm_link.specs.State.{Before, step, start, size_in}
use Rattle.asm_link.specs.declared.known.Known.{Known}

-- what lines come to
abbrev pub state_after : Before → List SourceLine → Before
state_after s [] = s
state_after s (x ∷ xs) = state_after (step s x) xs

-- where labels that wait before these lines are settled: by the first line that settles them
abbrev pub settles_entry : AsmSegment → Entry → Option AsmSegment
settles_entry current (Read row) = settles current row
settles_entry current (Unread fault) = None
settles_entry current FileEnd = Some current

abbrev pub settled_in : AsmSegment → List SourceLine → AsmSegment
settled_in current [] = current
settled_in current (x ∷ xs) = unwrap_or (settles_entry current x.entry) (settled_in current xs)

-- the end of a segment
abbrev pub end_of : AsmSegment → Before → Address
end_of segment s = Relative segment (size_in segment s)

-- a label in code is the number of instructions before it, another one the number of bytes before it in the
-- segment in which it is settled
abbrev pub label_address : AsmSegment → Before → List SourceLine → Address
label_address Code s behind = Absolute s.count
label_address current s behind = end_of (settled_in current behind) s

-- the address of the name that a line defines, before the lines behind it
abbrev pub row_address : Row → Before → List SourceLine → Address
row_address (Equ name value) s behind = Absolute value
row_address (Label name) s behind = label_address s.segment s behind
row_address row s behind = Absolute s.count

-- the same of an entry
abbrev pub name_in : Entry → Option (List ℕ)
name_in (Read row) = name_defined row
name_in entry = None

abbrev pub entry_address : Entry → Before → List SourceLine → Address
entry_address (Read row) s behind = row_address row s behind
entry_address entry s behind = Absolute s.count

-- a name that is defined: in which file, and what is known of it
pub record Definition : Type 0 where
  pub file : ℕ
  pub name : List ℕ
  pub known : Known

-- the name that the line with this number defines, if it defines one
abbrev pub defined_at : ℕ → ℕ → Option (List ℕ) → Address → List Definition
defined_at at file None address = []
defined_at at file (Some name) address = record { file = file; name = name; known = record { at = at; address = address } } ∷ []

abbrev pub defined_by : ℕ → Before → ℕ → Entry → List SourceLine → List Definition
defined_by at s file entry behind = defined_at at file (name_in entry) (entry_address entry s behind)

-- the names that lines define, in their order
abbrev pub definitions_from : ℕ → Before → List SourceLine → List Definition
definitions_from at s [] = []
definitions_from at s (x ∷ xs) = defined_by at s x.file x.entry xs ++ definitions_from (at + 1) (step s x) xs

abbrev pub definitions : List SourceLine → List Definition
definitions all = definitions_from 0 start all

-- what is known of a name in a file by these definitions: the first one counts
abbrev pub known_by : List Definition → ℕ → List ℕ → Option Known
known_by ds file name = option_map (λ d. d.known) (find (λ d. same_name file name d.file d.name) ds)

abbrev pub known : List SourceLine → ℕ → List ℕ → Option Known
known all file name = known_by (definitions all) file name

-- the lengths of the segments before a segment, once all lines are counted
abbrev pub base : AsmSegment → Before → ℕ
base Lit last = rounded last.data_size
base Bss last = rounded last.data_size + rounded last.lit_size
base segment last = 0

abbrev pub number : Before → Address → ℕ
number last (Absolute n) = n
number last (Relative segment at) = base segment last + at

-- a name's number
abbrev pub number_of_name : List SourceLine → ℕ → List ℕ → Option ℕ
number_of_name all file name = option_map (λ k. number (state_after start all) k.address) (known all file name)

-- an expression's value; none where its name is nowhere defined
abbrev pub value_at : List SourceLine → ℕ → Option (List ℕ) → ℕ → Option ℕ
value_at all file None add = Some add
value_at all file (Some name) add = option_map (λ n. (n + add) % 2 ^ 32) (number_of_name all file name)

abbrev pub value_of : List SourceLine → ℕ → Expression → Option ℕ
value_of all file e = value_at all file e.name e.add
