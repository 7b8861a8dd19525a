-- The forms of directives (ANSI C X3.159-1989, 3.8).
use Rattle.std.specs.Prelude.{ℕ, zero, suc, ◌-◌, Bool, true, false, ◌&&◌, ◌||◌, ◌==◌, nat_le, not, is_some, List, [], ◌∷◌, ◌++◌, map, length, take, drop, codes, slice_get, Option, Some, None, option_map, option_and_then, unwrap_or, if◌then◌else◌}
use Rattle.std.specs.List.{list_any, list_all}
use Rattle.std.specs.Str.{bytes_eq}
use Rattle.pp_tok.specs.declared.token.PpTok.{PpTok}
use Rattle.pp_tok.specs.declared.token.PpLine.{PpLine}
use Rattle.pp_tok.specs.declared.token.PpKind.{PpKind}
use Rattle.pp_tok.specs.declared.token.PpKind.TheVariants.{Number, Text, Header}
use Rattle.pp_macro.specs.declared.macros.Macro.{Macro}
use Rattle.pp_macro.specs.Macros.{Entry, find as find_macro}
use Rattle.pp_macro.specs.Tokens.{is_ident, is_mark, is_among, made}
use Rattle.pp_macro.specs.Pieces.{is_hash, is_paste, param_first}
use Rattle.pp_dir.specs.declared.directive.Directive.{Directive}
use Rattle.pp_dir.specs.declared.directive.Directive.TheVariants.{Nothing, Define, Undef, Include, If, Ifdef, Ifndef, Elif, Else, Endif, Error, Pragma, Line, Unknown}
use Rattle.pp_dir.specs.declared.passage.Passage.{Passage}
use Rattle.pp_dir.specs.declared.passage.Passage.TheVariants as p
use Rattle.pp_dir.specs.Reading.{named_in}

-- ---- sections and directives

abbrev pub begins_directive : List PpTok → Bool
begins_directive [] = false
begins_directive (t ∷ ts) = is_hash t

-- a line of text before other passages belongs to the section that it begins
abbrev pub onto_section : PpLine → List Passage → List Passage
onto_section line (p.Section s ∷ ps) = p.Section (record { number = line.number; toks = line.toks ++ s.toks }) ∷ ps
onto_section line ps = p.Section line ∷ ps

unfoldable pub passages_of : List PpLine → List Passage
passages_of [] = []
passages_of (line ∷ lines) = if begins_directive line.toks then p.Directive line ∷ passages_of lines else onto_section line (passages_of lines)

-- ---- words

abbrev pub directives : List (List ℕ × Directive)
directives =
    (codes "define", Define) ∷ (codes "undef", Undef) ∷ (codes "include", Include) ∷ (codes "if", If) ∷ (codes "ifdef", Ifdef) ∷ (codes "ifndef", Ifndef) ∷
    (codes "elif", Elif) ∷ (codes "else", Else) ∷ (codes "endif", Endif) ∷ (codes "error", Error) ∷ (codes "pragma", Pragma) ∷ (codes "line", Line) ∷ []

-- what the tokens behind a `#` say
abbrev pub directive_of : List PpTok → Directive
directive_of [] = Nothing
directive_of (t ∷ ts) = if is_ident t.kind then unwrap_or (named_in directives t.spelling) Unknown else Unknown

-- ---- names

-- names that can't be defined or undefined
abbrev pub reserved : List (List ℕ)
reserved = codes "defined" ∷ codes "__STDC__" ∷ codes "__FILE__" ∷ codes "__LINE__" ∷ []

-- they count as defined
abbrev pub is_defined : List Entry → List ℕ → Bool
is_defined table name = is_among name reserved || is_some (find_macro table name)

-- the names of the day and the hour, which are left out
abbrev pub dates : List (List ℕ)
dates = codes "__DATE__" ∷ codes "__TIME__" ∷ []

abbrev pub is_date : PpTok → Bool
is_date t = is_ident t.kind && is_among t.spelling dates

-- the name that a directive has alone
abbrev pub only_name : List PpTok → Option (List ℕ)
only_name (t ∷ []) = if is_ident t.kind then Some t.spelling else None
only_name ts = None

-- one that may be undefined
abbrev pub free_name : List PpTok → Option (List ℕ)
free_name ts = option_and_then (λ name. if is_among name reserved then None else Some name) (only_name ts)

-- ---- definitions

-- the parameters up to the closing parenthesis, and the tokens behind it; the test says whether a name is due
unfoldable pub params_from : Bool → List PpTok → Option (List (List ℕ) × List PpTok)
params_from due [] = None
params_from true (t ∷ ts) = if is_ident t.kind then option_map (λ p. (t.spelling ∷ p.0, p.1)) (params_from false ts) else None
params_from false (t ∷ ts) = if is_mark (codes ")") t then Some ([], ts) else (if is_mark (codes ",") t then params_from true ts else None)

-- behind the opening one
abbrev pub params_of : List PpTok → Option (List (List ℕ) × List PpTok)
params_of [] = None
params_of (t ∷ ts) = if is_mark (codes ")") t then Some ([], ts) else params_from true (t ∷ ts)

-- no name stands twice
unfoldable pub are_apart : List (List ℕ) → Bool
are_apart [] = true
are_apart (n ∷ ns) = not (is_among n ns) && are_apart ns

abbrev pub is_paste_in : Option PpTok → Bool
is_paste_in None = false
is_paste_in (Some t) = is_paste t

-- `##` stands at neither end of a body
abbrev pub is_framed : List PpTok → Bool
is_framed body = not (is_paste_in (slice_get body 0)) && not (is_paste_in (slice_get body (length body - 1)))

-- each `#` of a function-like macro stands before a parameter
unfoldable pub are_spellings : List (List ℕ) → List PpTok → Bool
are_spellings params [] = true
are_spellings params (t ∷ ts) = (not (is_hash t) || is_some (param_first params ts)) && are_spellings params ts

abbrev pub object_macro : List ℕ → List PpTok → Option Macro
object_macro name body = if is_framed body then Some (record { name = name; params = None; body = body }) else None

abbrev pub function_macro : List ℕ → List (List ℕ) × List PpTok → Option Macro
function_macro name p =
    if are_apart p.0 && is_framed p.1 && are_spellings p.0 p.1 then Some (record { name = name; params = Some p.0; body = p.1 }) else None

-- a parenthesis directly behind the name opens parameters
abbrev pub macro_named : List ℕ → List PpTok → Option Macro
macro_named name [] = object_macro name []
macro_named name (t ∷ ts) = if is_mark (codes "(") t && not t.space then option_and_then (function_macro name) (params_of ts) else object_macro name (t ∷ ts)

-- the macro that the tokens behind `define` define; none where they have another form
abbrev pub macro_of : List PpTok → Option Macro
macro_of [] = None
macro_of (t ∷ ts) = if is_ident t.kind && not (is_among t.spelling reserved) then macro_named t.spelling ts else None

-- ---- conditions

-- the name that `defined` asks for, and how many tokens behind it belong to it
abbrev pub asked_within : List PpTok → Option (List ℕ × ℕ)
asked_within (x ∷ y ∷ ts) = if is_ident x.kind && is_mark (codes ")") y then Some (x.spelling, 3) else None
asked_within ts = None

abbrev pub asked_behind : List PpTok → Option (List ℕ × ℕ)
asked_behind [] = None
asked_behind (x ∷ ts) = if is_ident x.kind then Some (x.spelling, 1) else (if is_mark (codes "(") x then asked_within ts else None)

abbrev pub asked : PpTok → List PpTok → Option (List ℕ × ℕ)
asked t ts = if is_ident t.kind && bytes_eq t.spelling (codes "defined") then asked_behind ts else None

abbrev pub digit : Bool → List ℕ
digit b = if b then codes "1" else codes "0"

-- `defined x` and `defined(x)` as 1 or 0, behind n tokens that belong to the one before
module _ (table : List Entry) where
  abbrev pub settled_by : (ℕ → List PpTok) → PpTok → Option (List ℕ × ℕ) → List PpTok
  settled_by rest t None = t ∷ rest 0
  settled_by rest t (Some a) = made Number (digit (is_defined table a.0)) t ∷ rest a.1

  unfoldable pub settled_behind : List PpTok → ℕ → List PpTok
  settled_behind [] n = []
  settled_behind (t ∷ ts) (suc n) = settled_behind ts n
  settled_behind (t ∷ ts) zero = settled_by (settled_behind ts) t (asked t ts)

abbrev pub settled : List Entry → List PpTok → List PpTok
settled table ts = settled_behind table ts 0

-- ---- includes

-- the name of a file to include, and whether the directory of the including file is looked in
pub record Wanted : Type 0 where
  pub name : List ℕ
  pub near : Bool

-- what stands between the first byte and the last one
abbrev pub inner_of : List ℕ → List ℕ
inner_of s = take (length s - 2) (drop 1 s)

abbrev pub begins_with_quote : List ℕ → Bool
begins_with_quote [] = false
begins_with_quote (b ∷ bs) = b == 34

abbrev pub is_printable : ℕ → Bool
is_printable b = nat_le 32 b && nat_le b 126

-- printable characters of ASCII, at least one
abbrev pub is_file_name : List ℕ → Bool
is_file_name name = nat_le 1 (length name) && list_all is_printable name

abbrev pub named : List ℕ → Bool → Option Wanted
named name near = if is_file_name name then Some (record { name = name; near = near }) else None

abbrev pub header_by : PpKind → List ℕ → Option Wanted
header_by Header s = named (inner_of s) (begins_with_quote s)
header_by kind s = None

-- `"x"` or `<x>`, and nothing behind it
abbrev pub header_of : List PpTok → Option Wanted
header_of (t ∷ []) = header_by t.kind t.spelling
header_of ts = None

abbrev pub text_by : PpKind → List ℕ → Option Wanted
text_by Text s = if begins_with_quote s then named (inner_of s) true else None
text_by kind s = None

-- a string that macros give
abbrev pub text_of : List PpTok → Option Wanted
text_of (t ∷ []) = text_by t.kind t.spelling
text_of ts = None

abbrev pub is_header : PpKind → Bool
is_header Header = true
is_header kind = false

abbrev pub begins_with_header : List PpTok → Bool
begins_with_header [] = false
begins_with_header (t ∷ ts) = is_header t.kind

abbrev pub is_slash : ℕ → Bool
is_slash b = b == 47

-- a name up to its last `/`, and it: the bytes that have a `/` at their place or behind it
unfoldable pub directory_of : List ℕ → List ℕ
directory_of [] = []
directory_of (b ∷ bs) = if list_any is_slash (b ∷ bs) then b ∷ directory_of bs else []

-- the names that are tried in turn
abbrev pub candidates : List (List ℕ) → List ℕ → Wanted → List (List ℕ)
candidates dirs file w = (if w.near then (directory_of file ++ w.name) ∷ [] else []) ++ map (λ dir. dir ++ 47 ∷ w.name) dirs

-- ---- errors

-- the spellings of tokens with a space between
unfoldable pub error_text : List PpTok → List ℕ
error_text [] = []
error_text (t ∷ []) = t.spelling
error_text (t ∷ u ∷ ts) = t.spelling ++ 32 ∷ error_text (u ∷ ts)
