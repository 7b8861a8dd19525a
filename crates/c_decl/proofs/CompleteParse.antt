-- Each unit is read, so tokens that are refused are none, and tokens are one unit at most.
use Rattle.std.proofs.Common.{◌≡◌, List, [], Option, Ok, Err, refl, sym, ap, ◌∙◌, arith}
use Rattle.c_tree.specs.declared.height.Heights.{Heights}
use Rattle.c_tree.specs.declared.height.Tall.{Tall}
use Rattle.c_tree.specs.declared.stmt.External.{External}
use Rattle.c_tree.specs.Heights.{Below, sum, tall}
use Rattle.c_decl.specs.declared.fault.Halt.{Halt}
use Rattle.c_decl.specs.declared.kind.Mode.TheVariants.{Whole}
use Rattle.c_decl.specs.declared.marking.Marking.{Marking}
use Rattle.c_decl.specs.Tokens.{Token}
use Rattle.c_decl.specs.State.{State}
use Rattle.c_decl.specs.Grammar.{Derives, some, external}
use Rattle.c_decl.specs.Input.{Outcome}
use Rattle.c_decl.specs.Statements as sr
use Rattle.c_decl.specs.Reading.{reader, read, parse, ended}
use Rattle.c_decl.specs.Units.{limits, at_first, Spells}
use Rattle.c_decl.proofs.Room.{below_is}
use Rattle.c_decl.proofs.Runs.{at}
use Rattle.c_decl.proofs.CompleteUnits.{unit_reads}
use Rattle.c_decl.proofs.Complete.{complete}

-- each unit within the room is read, with what is known behind it and how deep it nests
pub parse_reads : (room : Heights) (S T : State) (h : Heights) (ts : List Token) (x : List External)
    → Derives Whole (some external) S h ts x T → Below h room → parse room (at ts S) ≡ Ok (tall x h, at [] T)
unfolding parse read ended
parse_reads room S T h ts x d low =
    let all : sr.unit Whole (reader Whole (sum room) room) room (at ts S) ≡ Ok (tall x h, at [] T) = unit_reads
    (complete d (sum room) room (omega arith) low) in
    rw (all, below_is h room low) refl

-- where it is refused there is no unit
pub parse_none : (room : Heights) (S T : State) (h : Heights) (ts : List Token) (x : List External) (error : Halt)
    → parse room (at ts S) ≡ Err error → Derives Whole (some external) S h ts x T → Below h room → ⊥
parse_none room S T h ts x error is d low = absurd (let e = parse_reads room S T h ts x d low in cc)

abbrev tree_or : List External → Outcome (Tall (List External)) → List External
tree_or x (Ok p) = p.0.tree
tree_or x (Err e) = x

abbrev behind_or : State → Outcome (Tall (List External)) → State
behind_or S (Ok p) = p.1.state
behind_or S (Err e) = S

abbrev height_or : Heights → Outcome (Tall (List External)) → Heights
height_or h (Ok p) = p.0.height
height_or h (Err e) = h

-- tokens are one unit at most: one tree, nesting so deep, with one state behind it
pub parse_one : (room : Heights) (S T U : State) (h f : Heights) (ts : List Token) (x y : List External)
    → Derives Whole (some external) S h ts x T → Below h room → Derives Whole (some external) S f ts y U → Below f room
    → (x ≡ y) × (h ≡ f) × (T ≡ U)
parse_one room S T U h f ts x y d low k low' =
    let first : Outcome (Tall (List External)) = Ok (tall x h, at [] T) in
    let second : Outcome (Tall (List External)) = Ok (tall y f, at [] U) in
    let e : first ≡ second = sym (parse_reads room S T h ts x d low) ∙ parse_reads room S U f ts y k low' in
    (ap (tree_or x) e, ap (height_or h) e, ap (behind_or T) e)

-- ---- within the limits, from nothing

pub spells_read : (ts : List Token) (x : List External) (M : Option Marking) (s : Spells ts x M)
    → parse limits (at ts at_first) ≡ Ok (tall x s.height, at [] (record { names = s.names; marked = M }))
spells_read ts x M s = parse_reads limits at_first _ s.height ts x s.derives s.low

pub spells_none : (ts : List Token) (error : Halt) → parse limits (at ts at_first) ≡ Err error → (x : List External) (M : Option Marking)
    → Spells ts x M → ⊥
spells_none ts error is x M s = parse_none limits at_first _ s.height ts x error is s.derives s.low

pub spells_one : (ts : List Token) (x y : List External) (M L : Option Marking) → Spells ts x M → Spells ts y L → (x ≡ y) × (M ≡ L)
spells_one ts x y M L s t =
    let e = parse_one limits at_first _ _ s.height t.height ts x y s.derives s.low t.derives t.low in
    (e.0, ap (λ (z : State). z.marked) e.2)
