-- Which tokens are a unit, and where tokens that are none go wrong.
use Rattle.std.specs.Prelude.{◌≡◌, ℕ, List, [], ◌∷◌, ◌++◌, length, Option, Some, None, Result, Ok, Err}
use Rattle.qv_base.specs.declared.place.Place.{Place}
use Rattle.c_tok.specs.declared.mark.Mark.TheVariants as m
use Rattle.c_tok.specs.declared.token.CTok.{CTok}
use Rattle.c_tok.specs.declared.token.CTokKind.{CTokKind}
use Rattle.c_tok.specs.declared.token.CTokKind.TheVariants as c
use Rattle.c_names.specs.declared.names.Declared.{Declared}
use Rattle.c_tree.specs.declared.height.Heights.{Heights}
use Rattle.c_tree.specs.declared.stmt.External.{External}
use Rattle.c_tree.specs.declared.stmt.Unit.{Unit as UnitTree}
use Rattle.c_tree.specs.Heights.{Below}
use Rattle.c_decl.specs.declared.fault.ParseFault.{ParseFault}
use Rattle.c_decl.specs.declared.fault.ParseFault.TheVariants.{FloatType, Syntax, LeftOut, NoMemory}
use Rattle.c_decl.specs.declared.kind.Mode.TheVariants.{Whole}
use Rattle.c_decl.specs.declared.marking.Marked.{Marked}
use Rattle.c_decl.specs.declared.marking.Marking.{Marking}
use Rattle.c_decl.specs.Tokens.{Token, numbered, nowhere}
use Rattle.c_decl.specs.State.{State}
use Rattle.c_decl.specs.Grammar.{Derives, some, external}

-- constructs of each class nest at most so deep
abbrev pub limits : Heights
limits = record { expression = 200; declarator = 200; initializer = 200; statement = 200; members = 200 }

-- before a unit nothing is known
abbrev pub at_first : State
at_first = record { names = []; marked = None }

-- the tokens are the unit's; `marked` is the first construct in it that is left out
pub record Spells (ts : List Token) (x : List External) (marked : Option Marking) : Type 0 where
  pub height : Heights
  pub names : List Declared
  pub low : Below height limits
  pub derives : Derives Whole (some external) at_first height ts x (record { names = names; marked = marked })

-- some tokens end it, whatever the limits, and whether something is left out or not
pub record CanEnd (ts : List Token) : Type 0 where
  pub ending : List Token
  pub tree : List External
  pub height : Heights
  pub behind : State
  pub derives : Derives Whole (some external) at_first height (ts ++ ending) tree behind

-- the place of the first token of `rest`, which ends `ts`, or else that of the last token
abbrev pub place_in : List Token → List Token → Place
place_in ts (t ∷ rest) = t.at.place
place_in [] [] = nowhere.place
place_in (t ∷ []) [] = t.at.place
place_in (t ∷ more) [] = place_in more []

-- Where tokens are no unit: those before the place can still be ended, and with the one there they are the beginning of
-- no unit within the limits. Where all can be ended the place is that of the last token.
pub record RefusedAt (ts : List Token) (place : Place) : Type 0 where
  pub seen : List Token
  pub rest : List Token
  pub parts : ts ≡ seen ++ rest
  pub is : place ≡ place_in ts rest
  pub before : CanEnd seen
  pub none : (x : List External) → (M : Option Marking) → Spells ts x M → ⊥
  pub through : (t : Token) → (more other : List Token) → rest ≡ t ∷ more → (x : List External) → (M : Option Marking) → Spells (seen ++ t ∷ other) x M → ⊥

-- the first `float` or `double`
abbrev pub float_at : CTokKind → Place → Option Place → Option Place
float_at (c.Mark m.Float) p later = Some p
float_at (c.Mark m.Double) p later = Some p
float_at _ p later = later

unfoldable pub first_float : List CTok → Option Place
first_float [] = None
first_float (t ∷ ts) = float_at t.kind t.place (first_float ts)

-- the tokens are a unit's, in which something is left out, first at the place
pub record LeavesOut (ts : List Token) (kind : Marked) (place : Place) : Type 0 where
  pub number : ℕ
  pub tree : List External
  pub spells : Spells ts tree (Some (record { at = record { place = place; number = number }; kind = kind }))

-- What is told of a unit's tokens: a float type goes before a syntax fault, and that before a construct that is left out.
abbrev pub Parses : List CTok → Result UnitTree ParseFault → Type 0
Parses ts (Ok x) = Spells (numbered 0 ts) x.externals None × (x.tokens ≡ length ts)
Parses ts (Err (FloatType p)) = first_float ts ≡ Some p
Parses ts (Err (Syntax p)) = (first_float ts ≡ None) × RefusedAt (numbered 0 ts) p
Parses ts (Err (LeftOut kind p)) = (first_float ts ≡ None) × LeavesOut (numbered 0 ts) kind p
Parses ts (Err NoMemory) = Unit {0}
