-- What reading a part of a unit from the midst of its tokens promises: specifiers and declarators, whose sizes and values
-- are passed over, and expressions.
use Rattle.std.specs.Prelude.{◌≡◌, ℕ, ◌+◌, ◌<◌, Bool, true, false, ◌||◌, List, [], ◌∷◌, ◌++◌, length, drop, Option, None, Result, Ok, Err}
use Rattle.qv_base.specs.declared.place.Place.{Place}
use Rattle.c_tok.specs.declared.mark.Mark.TheVariants as m
use Rattle.c_tok.specs.declared.token.CTok.{CTok}
use Rattle.c_tok.specs.declared.token.CTokKind.{CTokKind}
use Rattle.c_names.specs.declared.names.Declared.{Declared}
use Rattle.c_tree.specs.declared.declaration.Init.{Init}
use Rattle.c_tree.specs.declared.declaring.Declaring.{Declaring}
use Rattle.c_tree.specs.declared.expr.Expr.{Expr}
use Rattle.c_tree.specs.declared.expr.Specs.{Specs}
use Rattle.c_tree.specs.declared.height.Heights.{Heights}
use Rattle.c_tree.specs.Heights.{Below}
use Rattle.c_decl.specs.declared.fault.ParseFault.{ParseFault}
use Rattle.c_decl.specs.declared.fault.ParseFault.TheVariants.{FloatType, Syntax, LeftOut, NoMemory}
use Rattle.c_decl.specs.declared.kind.DeclKind.{DeclKind}
use Rattle.c_decl.specs.declared.kind.Mode.{Mode}
use Rattle.c_decl.specs.declared.kind.Mode.TheVariants.{Whole, Spans}
use Rattle.c_decl.specs.declared.marking.Marked.{Marked}
use Rattle.c_decl.specs.declared.marking.Marking.{Marking}
use Rattle.c_decl.specs.declared.read.Read.{Read}
use Rattle.c_decl.specs.Tokens.{Token, numbered, head_of}
use Rattle.c_decl.specs.State.{State}
use Rattle.c_decl.specs.Marks.{tight}
use Rattle.c_decl.specs.Grammar as g
use Rattle.c_decl.specs.Grammar.{Phrase, Tree, Derives}
use Rattle.c_decl.specs.Input.{is_mark}
use Rattle.c_decl.specs.Entries.{word_at}
use Rattle.c_decl.specs.Units.{limits, place_in}
use Rattle.c_decl.specs.Told.{place_marked}

-- a unit's tokens from one on
abbrev pub tokens_from : ℕ → List CTok → List Token
tokens_from at toks = numbered at (drop at toks)

-- before a part its names are known, and nothing is left out
abbrev pub before_part : List Declared → State
before_part names = record { names = names; marked = None }

-- the tokens are a part, within the limits
pub record IsPart (mode : Mode) (p : Phrase) (names : List Declared) (ts : List Token) (x : Tree p) (behind : State) : Type 0 where
  pub height : Heights
  pub low : Below height limits
  pub derives : Derives mode p (before_part names) height ts x behind

-- some tokens end it, whatever the limits
pub record PartCanEnd (mode : Mode) (p : Phrase) (names : List Declared) (ts : List Token) : Type 0 where
  pub ending : List Token
  pub tree : Tree p
  pub height : Heights
  pub behind : State
  pub derives : Derives mode p (before_part names) height (ts ++ ending) tree behind

-- what doesn't go on with a part, behind which so much is known
abbrev pub Stop : Phrase → Type 1
Stop p = Tree p → State → Option CTokKind → Type 0

-- The tokens from `at` up to `next` are the part. `after` has the names behind it, and `marked` the first construct in it
-- that is left out. What comes next doesn't go on with it.
pub record PartRead (mode : Mode) (p : Phrase) (stop : Stop p) (toks : List CTok) (at : ℕ) (names after : List Declared)
    (x : Tree p) (next : ℕ) (marked : Option (Place × Marked)) : Type 0 where
  pub text : List Token
  pub rest : List Token
  pub marking : Option Marking
  pub parts : tokens_from at toks ≡ text ++ rest
  pub next_is : next ≡ at + length text
  pub is : IsPart mode p names text x (record { names = after; marked = marking })
  pub first : marked ≡ place_marked marking
  pub stops : stop x (record { names = after; marked = marking }) (head_of rest)

-- Where the part goes wrong: the tokens before the place can still be ended, and with the one there they are the beginning
-- of no such part within the limits. Where all tokens can be ended the place is that of the unit's last token, and they are
-- no such part within the limits.
--
-- This says nothing of the tokens before: a shorter part may stand there, as `int` does in `int struct ;`, which is refused
-- at the semicolon. And what is refused as one part may be read as another.
pub record PartRefused (mode : Mode) (p : Phrase) (toks : List CTok) (at : ℕ) (names : List Declared) (place : Place) : Type 0 where
  pub seen : List Token
  pub rest : List Token
  pub parts : tokens_from at toks ≡ seen ++ rest
  pub is : place ≡ place_in (numbered 0 toks) rest
  pub before : PartCanEnd mode p names seen
  pub none : rest ≡ [] → (x : Tree p) → (behind : State) → IsPart mode p names seen x behind → ⊥
  pub through : (t : Token) → (more other : List Token) → rest ≡ t ∷ more → (x : Tree p) → (behind : State)
      → IsPart mode p names (seen ++ t ∷ other) x behind → ⊥

-- What is told of a part. Nothing is said of `after` where it is refused. A construct that is left out is told with the
-- part. No production has a `float` or `double`, so a part is refused where one comes, by Syntax, unless a span passes over it.
-- FloatType isn't answered here: of the tokens from `at` on the first `float` may stand in a span or behind the part.
abbrev pub ReadsPart : (mode : Mode) → (p : Phrase) → Stop p → List CTok → ℕ → List Declared → List Declared
    → Result (Read (Tree p)) ParseFault → Type 0
ReadsPart mode p stop toks at names after (Ok r) = PartRead mode p stop toks at names after r.tree r.next r.marked
ReadsPart mode p stop toks at names after (Err (Syntax place)) = PartRefused mode p toks at names place
ReadsPart mode p stop toks at names after (Err NoMemory) = Unit {0}
ReadsPart mode p stop toks at names after (Err (FloatType place)) = ⊥
ReadsPart mode p stop toks at names after (Err (LeftOut kind place)) = ⊥

-- no word of specifiers
abbrev pub no_word : Specs → State → Option CTokKind → Type 0
no_word x S next = word_at S x.is_typed next ≡ false

-- neither an array's bracket nor a function's parenthesis
abbrev pub no_suffix : Declaring → State → Option CTokKind → Type 0
no_suffix x S next = is_mark m.OpenBracket next || is_mark m.OpenParen next ≡ false

-- ---- what the public calls promise

abbrev pub ReadsSpecs : List CTok → ℕ → List Declared → List Declared → Result (Read Specs) ParseFault → Type 0
ReadsSpecs toks at names after result = ReadsPart Spans (g.specs true) no_word toks at names after result

abbrev pub ReadsDeclarator : DeclKind → Bool → List CTok → ℕ → List Declared → List Declared → Result (Read Declaring) ParseFault
    → Type 0
ReadsDeclarator kind typed toks at names after result =
    ReadsPart Spans (g.declarator kind typed) no_suffix toks at names after result

-- No operator that could go on with it, but perhaps an assignment's: that is taken behind what may stand left of it.
abbrev pub no_operator : Expr → State → Option CTokKind → Type 0
no_operator x S next = tight next < 3

abbrev pub no_comma : Expr → State → Option CTokKind → Type 0
no_comma x S next = (tight next < 3) × (is_mark m.Comma next ≡ false)

-- whatever comes next, as behind the brace that ends an initializer
abbrev pub anything : Init → State → Option CTokKind → Type 0
anything x S next = Unit {0}

-- an expression with commas, an assignment, a conditional, an initializer
abbrev pub ReadsComma : List CTok → ℕ → List Declared → List Declared → Result (Read Expr) ParseFault → Type 0
ReadsComma toks at names after result = ReadsPart Whole g.comma no_comma toks at names after result

abbrev pub ReadsAssignment : List CTok → ℕ → List Declared → List Declared → Result (Read Expr) ParseFault → Type 0
ReadsAssignment toks at names after result = ReadsPart Whole g.assignment no_operator toks at names after result

abbrev pub ReadsConditional : List CTok → ℕ → List Declared → List Declared → Result (Read Expr) ParseFault → Type 0
ReadsConditional toks at names after result = ReadsPart Whole g.conditional no_operator toks at names after result

abbrev pub ReadsInit : List CTok → ℕ → List Declared → List Declared → Result (Read Init) ParseFault → Type 0
ReadsInit toks at names after result = ReadsPart Whole g.init anything toks at names after result
