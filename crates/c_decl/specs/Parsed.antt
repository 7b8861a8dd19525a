-- What reading makes of a unit's tokens.
use Rattle.std.specs.Prelude.{◌-◌, ℕ, List, length, drop, Option, Some, None, Result, Ok, Err}
use Rattle.qv_base.specs.declared.place.Place.{Place}
use Rattle.c_tok.specs.declared.token.CTok.{CTok}
use Rattle.c_tree.specs.declared.height.Tall.{Tall}
use Rattle.c_tree.specs.declared.stmt.External.{External}
use Rattle.c_tree.specs.declared.stmt.Unit.{Unit as UnitTree}
use Rattle.c_decl.specs.declared.fault.Halt.TheVariants as halt
use Rattle.c_decl.specs.declared.fault.ParseFault.{ParseFault}
use Rattle.c_decl.specs.declared.fault.ParseFault.TheVariants.{FloatType, Syntax, LeftOut, NoMemory}
use Rattle.c_decl.specs.declared.marking.Marking.{Marking}
use Rattle.c_decl.specs.Tokens.{Token, numbered}
use Rattle.c_decl.specs.Units.{limits, at_first, place_in, first_float}
use Rattle.c_decl.specs.Input.{Input, Outcome}
use Rattle.c_decl.specs.Reading.{parse}

abbrev pub all_of : List CTok → Input
all_of ts = record { rest = numbered 0 ts; state = at_first }

-- the place where so many tokens are left
abbrev pub place_left : List Token → ℕ → Place
place_left ts k = place_in ts (drop (length ts - k) ts)

-- a construct that is left out, or the unit
abbrev pub whole_or : List CTok → List External → Option Marking → Result UnitTree ParseFault
whole_or ts x None = Ok (record { externals = x; tokens = length ts })
whole_or ts x (Some m) = Err (LeftOut m.kind m.at.place)

abbrev pub told : List CTok → Outcome (Tall (List External)) → Result UnitTree ParseFault
told ts (Ok p) = whole_or ts p.0.tree p.1.state.marked
told ts (Err (halt.Syntax k)) = Err (Syntax (place_left (numbered 0 ts) k))
told ts (Err halt.NoMemory) = Err NoMemory

abbrev pub float_or : List CTok → Option Place → Result UnitTree ParseFault
float_or ts None = told ts (parse limits (all_of ts))
float_or ts (Some p) = Err (FloatType p)

-- the unit, or why the tokens are none
unfoldable pub unit_read : List CTok → Result UnitTree ParseFault
unit_read ts = float_or ts (first_float ts)
