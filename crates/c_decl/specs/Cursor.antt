-- What a cursor stands for.
use Rattle.std.specs.Prelude.{ℕ, ◌+◌, ◌<◌, ◌^◌, List, length, take, drop, None}
use Rattle.c_names.specs.declared.names.Declared.{Declared}
use Rattle.c_tok.specs.declared.token.CTok.{CTok}
use Rattle.c_decl.specs.declared.cursor.Cursor.TheInside.{Inside}
use Rattle.c_decl.specs.Input.{Input}
use Rattle.c_decl.specs.Tokens.{numbered}

abbrev pub input_of : Inside → Input
input_of t = record { rest = numbered t.at t.rest.now; state = record { names = t.names; marked = t.marked } }

-- each token has a number
abbrev pub Fits : Inside → Type 0
Fits t = t.at + length t.rest.now < 2 ^ 64

-- the tokens of a unit from one on
unfoldable pub started : ℕ → List CTok → List Declared → Input
started at toks names = record { rest = numbered at (drop at toks); state = record { names = names; marked = None } }

-- the first declarations alone
abbrev pub kept : ℕ → Input → Input
kept count i = record i { state = record (i.state) { names = take count i.state.names } }
