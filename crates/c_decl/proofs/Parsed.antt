-- What reading makes of a unit's tokens is what the grammar tells of them.
use Rattle.std.proofs.Common.{◌≡◌, ℕ, ◌-◌, List, [], ◌∷◌, ◌++◌, length, Option, Some, None, Err, refl, sym, ap, ◌∙◌, arith, length-append}
use Rattle.std.specs.Prelude.{drop}
use Rattle.qv_base.specs.declared.place.Place.{Place}
use Rattle.c_tok.specs.declared.token.CTok.{CTok}
use Rattle.c_tree.specs.declared.height.Tall.{Tall}
use Rattle.c_tree.specs.declared.stmt.External.{External}
use Rattle.c_decl.specs.declared.fault.Halt.TheVariants as halt
use Rattle.c_decl.specs.declared.marking.Marking.{Marking}
use Rattle.c_decl.specs.Tokens.{Token, numbered}
use Rattle.c_decl.specs.Units.{limits, at_first, Spells, Parses, place_in, first_float}
use Rattle.c_decl.specs.Input.{Outcome}
use Rattle.c_decl.specs.Reading.{parse}
use Rattle.c_decl.specs.Parsed.{place_left, whole_or, told, float_or, unit_read}
use Rattle.c_decl.proofs.Runs.{at, Meets, fine, refused}
use Rattle.c_decl.proofs.SoundParse.{Stops, Reads, sound_parse}
use Rattle.c_decl.proofs.Local.{parse_same}
use Rattle.c_decl.proofs.CompleteParse.{spells_none}

drop_through : (seen rest : List Token) → drop (length seen) (seen ++ rest) ≡ rest
drop_through [] rest = refl
drop_through (t ∷ seen) rest = drop_through seen rest

-- as many tokens are left as the rest has
dropped : (ts seen rest : List Token) → ts ≡ seen ++ rest → drop (length ts - length rest) ts ≡ rest
dropped ts seen rest parts =
    let before : length (seen ++ rest) - length rest ≡ length seen = simp length-append (omega arith) in
    rw (parts, before) (drop_through seen rest)

place_is : (ts seen rest : List Token) → ts ≡ seen ++ rest → (k : ℕ) → halt.Syntax k ≡ halt.Syntax (length rest) → place_left ts k ≡ place_in ts rest
place_is ts seen rest parts k is = let same : k ≡ length rest = cc in rw (same, dropped ts seen rest parts) refl

whole : (ts : List CTok) (x : List External) (M : Option Marking) → first_float ts ≡ None → Spells (numbered 0 ts) x M → Parses ts (whole_or ts x M)
whole ts x None none s = (s, refl)
whole ts x (Some m) none s = (none, record { number = m.at.number; tree = x; spells = s })

answered : (ts : List CTok) → first_float ts ≡ None → (o : Outcome (Tall (List External))) → parse limits (at (numbered 0 ts) at_first) ≡ o
    → Meets (Reads (numbered 0 ts)) (Stops (numbered 0 ts)) o → Parses ts (told ts o)
answered ts none _ is (fine {a = x} {i = k} h) = whole ts x.tree k.state.marked none h.spells
answered ts none _ is (refused {e = halt.NoMemory} h) = tt
answered ts none _ is (refused {e = halt.Syntax k} h) = (
  none,
  record {
    seen = h.seen;
    rest = h.rest;
    parts = h.parts;
    is = place_is (numbered 0 ts) h.seen h.rest h.parts k h.place;
    before = h.before;
    none = spells_none _ _ is;
    through = λ t more other rest. spells_none _ _
        (parse_same limits at_first h.seen t more other (omega arith)
        (ap (λ (z : List Token). parse limits (at (h.seen ++ z) at_first)) (sym rest) ∙ ap (λ (z : List Token). parse limits (at z at_first)) (sym h.parts) ∙ is
        ∙ ap Err (h.place ∙ ap (λ (z : List Token). halt.Syntax (length z)) rest)));
  },
)

by_float : (ts : List CTok) (first : Option Place) → first_float ts ≡ first → Parses ts (float_or ts first)
by_float ts None none = answered ts none _ refl (sound_parse (numbered 0 ts))
by_float ts (Some p) found = found

pub unit_parses : (ts : List CTok) → Parses ts (unit_read ts)
unfolding unit_read
unit_parses ts = by_float ts (first_float ts) refl
