-- What a unit of C is after preprocessing (ANSI C X3.159-1989, 2.1.1.2 and 3.8).
use Rattle.std.specs.Prelude.{ℕ, zero, suc, ◌-◌, ◌^◌, nat_le, is_some, List, [], ◌∷◌, ◌++◌, length, position, codes, Option, Some, None, unwrap_or, Result, Ok, Err, if◌then◌else◌}
use Rattle.std.specs.Str.{bytes_eq}
use Rattle.qv_base.specs.Place.{capped}
use Rattle.qv_outside.specs.declared.files.FileFault.{FileFault}
use Rattle.qv_outside.specs.declared.files.FileFault.TheVariants.{Absent, TooLong}
use Rattle.pp_tok.specs.declared.token.PpTok.{PpTok}
use Rattle.pp_tok.specs.declared.token.PpLine.{PpLine}
use Rattle.pp_tok.specs.Lines.{lines_of, text_of as text_tokens}
use Rattle.pp_macro.specs.declared.macros.Macro.{Macro}
use Rattle.pp_macro.specs.Macros.{Entry, defined_in, undefined_in}
use Rattle.pp_dir.specs.declared.directive.Directive.{Directive}
use Rattle.pp_dir.specs.declared.directive.Directive.TheVariants as d
use Rattle.pp_dir.specs.declared.passage.Passage.{Passage}
use Rattle.pp_dir.specs.declared.passage.Passage.TheVariants as p
use Rattle.pp_dir.specs.declared.fault.PpFaultKind.TheVariants as k
use Rattle.pp_dir.specs.declared.fault.PpStop.{PpStop}
use Rattle.pp_dir.specs.declared.fault.PpStop.TheVariants.{Fault, File}
use Rattle.pp_dir.specs.declared.state.State.{State}
use Rattle.pp_dir.specs.Forms.{Wanted, passages_of, directive_of, macro_of, begins_with_header, header_of, text_of, candidates, error_text}
use Rattle.pp_dir.specs.Sections.{Local, wrong, value_or, undated, expanded, section, define, undefine, ◌>>=◌}
use Rattle.pp_dir.specs.Groups.{Flow, reads, is_conditional, conditional, tail_of}

-- ---- answers

-- why a unit was not preprocessed, and the names that were tried up to there
pub record Stopped : Type 0 where
  pub stop : PpStop
  pub tried : List (List ℕ)

abbrev pub Outcome : Type 0 → Type 0
Outcome A = Result A Stopped

abbrev pub followed : {A B : Type 0} → Outcome A → (A → Outcome B) → Outcome B
followed (Ok x) f = f x
followed (Err s) f = Err s

-- what is wrong with a line of this file stops all
abbrev pub in_file : {A : Type 0} → List ℕ → State → Local A → Outcome A
in_file file s (Ok x) = Ok x
in_file file s (Err w) = Err (record { stop = Fault (record { kind = w.kind; file = file; line = w.line }); tried = s.tried })

-- ---- files

-- what is held under a name
abbrev pub Held : Type 0
Held = List ℕ → Option (List ℕ)

-- a file with its name and its bytes
abbrev pub Found : Type 0
Found = List ℕ × List ℕ

-- one more name is tried
abbrev pub trying : List ℕ → State → State
trying name s = record s { tried = s.tried ++ name ∷ [] }

abbrev pub no_file : {A : Type 0} → State → List ℕ → FileFault → Outcome A
no_file s name f = Err (record { stop = File name f; tried = s.tried })

-- the file of this name, where one is held; `later` tries other names
abbrev pub found_in : State → List ℕ → Option (List ℕ) → Outcome (Option Found × State) → Outcome (Option Found × State)
found_in s name None later = later
found_in s name (Some bytes) later = if nat_le (2 ^ 31) (length bytes) then no_file s name TooLong else Ok (Some (name, bytes), s)

-- the first of these names under which there is a file; those up to it are tried
unfoldable pub searched : Held → List (List ℕ) → State → Outcome (Option Found × State)
searched held [] s = Ok (None, s)
searched held (name ∷ names) s = found_in (trying name s) name (held name) (searched held names (trying name s))

-- the number of a file: that of its first reading
abbrev pub number_of : List (List ℕ) → List ℕ → ℕ
number_of names name = unwrap_or (position (bytes_eq name) names) (length names)

abbrev pub with_name : List (List ℕ) → List ℕ → List (List ℕ)
with_name names name = if is_some (position (bytes_eq name) names) then names else names ++ name ∷ []

-- one that is no conditional and no include, by the tokens behind its word
abbrev pub act : State → ℕ → List PpTok → Directive → Local State
act s line ts d.Nothing = Ok s
act s line ts d.Pragma = Ok s
act s line ts d.Define = value_or k.Directive line (macro_of ts) >>= define s line
act s line ts d.Undef = undefine s line ts
act s line ts d.Error = wrong (k.ErrorDirective (error_text ts)) line
act s line ts d.Line = wrong (k.LeftOut (codes "line")) line
act s line ts word = wrong k.Directive line

abbrev pub numbered : List ℕ → State → State
numbered name s = record s { names = with_name s.names name }

-- no conditional is left open
abbrev pub closed : List ℕ → Flow → Outcome State
closed file ([], s) = Ok s
closed file (g ∷ gs, s) = in_file file s (wrong k.OpenIf g.line)

-- what reads a file of this name and these bytes
abbrev pub Reader : Type 0
Reader = List ℕ → List ℕ → State → Outcome State

module _ (held : Held) (dirs : List (List ℕ)) where
  -- `within` reads an included file; there is none where no more files may be open.
  module _ (within : Option Reader) (file : List ℕ) where
    abbrev pub read_found : Reader → ℕ → List ℕ → Option Found × State → Outcome State
    read_found go line name (None, s) = in_file file s (wrong (k.NoInclude name) line)
    read_found go line name (Some found, s) = go found.0 found.1 s

    abbrev pub include_by : Option Reader → ℕ → Wanted × State → Outcome State
    include_by None line (w, s) = in_file file s (wrong k.IncludeDepth line)
    include_by (Some go) line (w, s) = followed (searched held (candidates dirs file w) s) (read_found go line w.name)

    abbrev pub include_named : ℕ → State → Option Wanted → Outcome State
    include_named line s w = followed (in_file file s (value_or k.Directive line w)) (λ w. include_by within line (w, s))

    -- the file that the tokens behind `include` ask for: by a header name, or by the string that macros give
    abbrev pub include : State → ℕ → List PpTok → Outcome State
    include s line ts =
        if begins_with_header ts then include_named line s (header_of ts)
        else followed (in_file file s (expanded s ts)) (λ x. include_named line x.1 (text_of x.0))

    -- ---- directives

    abbrev pub act_on : State → ℕ → List PpTok → Directive → Outcome State
    act_on s line ts d.Include = include s line ts
    act_on s line ts word = in_file file s (act s line ts word)

    -- where the text is read; all tokens behind the `#` are looked at for the day and the hour
    abbrev pub act_read : ℕ → List PpTok → Directive → Flow → Outcome Flow
    act_read line ts word f =
        if reads f.0 then followed (in_file file f.1 (undated ts)) (λ _. followed (act_on f.1 line (tail_of ts) word) (λ s. Ok (f.0, s))) else Ok f

    abbrev pub directive_by : ℕ → List PpTok → Directive → Flow → Outcome Flow
    directive_by line ts word f = if is_conditional word then in_file file f.1 (conditional line ts word f) else act_read line ts word f

    -- the tokens of the line, its `#` first
    abbrev pub directive : List PpTok → Flow → Outcome Flow
    directive [] f = Ok f
    directive (hash ∷ ts) f = directive_by hash.place.line ts (directive_of ts) f

    -- ---- passages

    abbrev pub section_in : PpLine → Flow → Outcome Flow
    section_in l f = if reads f.0 then followed (in_file file f.1 (section f.1 l)) (λ s. Ok (f.0, s)) else Ok f

    abbrev pub step : Passage → Flow → Outcome Flow
    step (p.Section l) f = section_in l f
    step (p.Directive l) f = directive l.toks f

    unfoldable pub steps : List Passage → Flow → Outcome Flow
    steps [] f = Ok f
    steps (x ∷ xs) f = followed (step x f) (steps xs)

    abbrev pub lines_read : State → Result (List PpLine) ℕ → Outcome State
    lines_read s (Ok lines) = followed (steps (passages_of lines) ([], s)) (closed file)
    lines_read s (Err line) = in_file file s (wrong k.OpenComment line)

    -- the file that has these bytes
    abbrev pub file_by : List ℕ → State → Outcome State
    file_by bytes s = lines_read (numbered file s) (lines_of (capped (number_of s.names file)) bytes)

  -- a file in which includes may nest so deep
  unfoldable pub file_in : ℕ → Reader
  file_in zero name bytes = file_by None name bytes
  file_in (suc n) name bytes = file_by (Some (file_in n)) name bytes

  -- what reads the files that it includes
  unfoldable pub within_at : ℕ → Option Reader
  within_at zero = None
  within_at (suc n) = Some (file_in n)

  -- how many files may be open at once, the unit counted
  abbrev pub open_limit : ℕ
  open_limit = 64

  abbrev pub unit_found : List ℕ → Option Found × State → Outcome State
  unit_found unit (None, s) = no_file s unit Absent
  unit_found unit (Some found, s) = file_in (open_limit - 1) found.0 found.1 s

  abbrev pub unit_read : List ℕ → State → Outcome State
  unit_read unit s = followed (searched held (unit ∷ []) s) (unit_found unit)

-- ---- units

-- the tokens of the text that a definition of the command line has
abbrev pub tokens_or_none : Result (List PpTok) ℕ → List PpTok
tokens_or_none (Ok ts) = ts
tokens_or_none (Err line) = []

abbrev pub macro_from : List ℕ × List ℕ → Macro
macro_from d = record { name = d.0; params = None; body = tokens_or_none (text_tokens d.1) }

-- a name as this text, in place of what it stood for
abbrev pub replaced : List Entry → List ℕ × List ℕ → List Entry
replaced table d = defined_in (undefined_in table d.0) (macro_from d)

-- definitions of the command line, behind that of Q3_VM: a later one of a name counts
abbrev pub defined_by : List Entry → List (List ℕ × List ℕ) → List Entry
defined_by table [] = table
defined_by table (d ∷ ds) = defined_by (replaced table d) ds

abbrev pub predefined : List (List ℕ × List ℕ) → List Entry
predefined defs = defined_by (replaced [] (codes "Q3_VM", codes "1")) defs

abbrev pub start : List (List ℕ × List ℕ) → State
start defs = record { names = []; tried = []; table = predefined defs; count = 0; toks = [] }

-- a unit's tokens with the files by their numbers, and the names that were tried; or why not
unfoldable pub preprocessed : Held → List (List ℕ) → List (List ℕ × List ℕ) → List ℕ → Outcome State
preprocessed held dirs defs unit = unit_read held dirs unit (start defs)
