-- The tree of a unit's tokens, or why there is none.
use Rattle.std.specs.Prelude.{◌≡◌, ◌≢◌, ℕ, codes, slice_get, unwrap_or, List, [], Result, Ok, Err}
use Rattle.qv_base.specs.declared.place.Place.{Place}
use Rattle.pp_tok.specs.declared.token.PpTok.{PpTok}
use Rattle.c_tok.specs.declared.fault.TokFault.{TokFault}
use Rattle.c_tok.specs.declared.fault.TokFault.TheVariants as tok
use Rattle.c_tok.specs.declared.token.CTok.{CTok}
use Rattle.c_tok.specs.Tokens.{c_tokens}
use Rattle.c_tree.specs.declared.stmt.Unit.{Unit as UnitTree}
use Rattle.c_decl.specs.declared.fault.ParseFault.{ParseFault}
use Rattle.c_decl.specs.declared.fault.ParseFault.TheVariants as parse
use Rattle.c_decl.specs.declared.marking.Marked.{Marked}
use Rattle.c_decl.specs.declared.marking.Marked.TheVariants as marked
use Rattle.c_decl.specs.Parsed.{unit_read}
use Rattle.qcc_front.specs.declared.fault.CompileStop.{CompileStop}
use Rattle.qcc_front.specs.declared.fault.CompileStop.TheVariants.{Source, NoMemory}
use Rattle.qcc_front.specs.declared.fault.SourceKind.{SourceKind}
use Rattle.qcc_front.specs.declared.fault.SourceKind.TheVariants as s

-- the file of a place, by the names under which the unit's files were read
abbrev pub file_of : List (List ℕ) → Place → List ℕ
file_of names place = unwrap_or (slice_get names place.file) []

abbrev pub fault_at : List (List ℕ) → SourceKind → Place → CompileStop
fault_at names kind place = Source (record { kind = kind; file = file_of names place; line = place.line })

-- ---- tokens that are none of C

abbrev pub stop_of_token : List (List ℕ) → TokFault → CompileStop
stop_of_token names (tok.StrayByte place) = fault_at names s.StrayByte place
stop_of_token names (tok.OpenQuote place) = fault_at names s.OpenQuote place
stop_of_token names (tok.LeftOut place) = fault_at names (s.LeftOut (codes "wide")) place
stop_of_token names (tok.BadConstant place) = fault_at names s.BadConstant place
stop_of_token names (tok.FloatConstant place) = fault_at names s.FloatConstant place
stop_of_token names (tok.ConstantTooLarge place) = fault_at names s.ConstantTooLarge place
stop_of_token names (tok.NameTooLong place) = fault_at names s.NameTooLong place
stop_of_token names tok.NoMemory = NoMemory

-- ---- tokens that are read to no unit

abbrev pub construct : Marked → List ℕ
construct marked.OldStyle = codes "old-style"
construct marked.ImplicitInt = codes "implicit int"
construct marked.BitField = codes "bit-field"

abbrev pub stop_of_parse : List (List ℕ) → ParseFault → CompileStop
stop_of_parse names (parse.FloatType place) = fault_at names s.FloatType place
stop_of_parse names (parse.Syntax place) = fault_at names s.Syntax place
stop_of_parse names (parse.LeftOut kind place) = fault_at names (s.LeftOut (construct kind)) place
stop_of_parse names parse.NoMemory = NoMemory

-- ---- trees

abbrev pub tree_or : List (List ℕ) → Result UnitTree ParseFault → Result UnitTree CompileStop
tree_or names (Ok tree) = Ok tree
tree_or names (Err fault) = Err (stop_of_parse names fault)

abbrev pub tokens_or : List (List ℕ) → Result (List CTok) TokFault → Result UnitTree CompileStop
tokens_or names (Ok ts) = tree_or names (unit_read ts)
tokens_or names (Err fault) = Err (stop_of_token names fault)

-- the tree of the tokens of a unit whose files have these names, or why there is none
unfoldable pub tree_of : List (List ℕ) → List PpTok → Result UnitTree CompileStop
tree_of names toks = tokens_or names (c_tokens toks)

-- what is answered is as defined; want of memory alone is free
abbrev pub Gives : Result UnitTree CompileStop → Result UnitTree CompileStop → Type 0
Gives r (Ok tree) = r ≡ Ok tree
Gives r (Err stop) = stop ≢ NoMemory → r ≡ Err stop
