-- A unit that is read is one, within the limits, and the tokens before the place where it is refused can be ended.
use Rattle.std.proofs.Common.{◌≡◌, List, [], ◌++◌, length, refl, sym, subst, ◌∙◌}
use Rattle.std.proofs.lemmas.List.{append-nil}
use Rattle.c_tree.specs.declared.height.Heights.{Heights}
use Rattle.c_tree.specs.declared.height.Tall.{Tall}
use Rattle.c_tree.specs.declared.stmt.External.{External}
use Rattle.c_tree.specs.Heights as class
use Rattle.c_tree.specs.Heights.{Below, is_below}
use Rattle.c_decl.specs.declared.fault.Halt.{Halt}
use Rattle.c_decl.specs.declared.fault.Halt.TheVariants.{Syntax}
use Rattle.c_decl.specs.declared.kind.Mode.TheVariants.{Whole}
use Rattle.c_decl.specs.Tokens.{Token}
use Rattle.c_decl.specs.Grammar.{Derives, some, external}
use Rattle.c_decl.specs.Input.{Input, left, refusal}
use Rattle.c_decl.specs.Statements as sr
use Rattle.c_decl.specs.Reading as rd
use Rattle.c_decl.specs.Units.{Spells, CanEnd, limits, at_first}
use Rattle.c_decl.proofs.Runs.{at, Meets, fine, refused, bind_meets, if_meets}
use Rattle.c_decl.proofs.Room.{below_of}
use Rattle.c_decl.proofs.Took.{Goes}
use Rattle.c_decl.proofs.SoundUnits as su
use Rattle.c_decl.proofs.Sound.{sound}

-- the tokens before the place of a syntax fault can be ended
pub record Stops (ts : List Token) (error : Halt) : Type 0 where
  pub seen : List Token
  pub rest : List Token
  pub parts : ts ≡ seen ++ rest
  pub place : error ≡ Syntax (length rest)
  pub before : CanEnd seen

-- all tokens are a unit's
pub record Reads (ts : List Token) (x : Tall (List External)) (k : Input) : Type 0 where
  pub all : k.rest ≡ []
  pub spells : Spells ts x.tree k.state.marked

pub sound_unit : (room : Heights) (i : Input) → Goes (su.Units Whole i.state) [] i (sr.unit Whole (rd.read Whole room) room i)
unfolding rd.read
sound_unit room i = su.unit_reads Whole (rd.reader Whole (class.sum room) room) room (sound Whole (class.sum room) room) i

pub sound_parse : (ts : List Token) → Meets (Reads ts) (Stops ts) (rd.parse limits (at ts at_first))
unfolding rd.parse rd.ended refusal left
sound_parse ts = bind_meets (sound_unit limits (at ts at_first))
    (λ e h. record {
      seen = h.seen;
      rest = h.more;
      parts = h.parts;
      place = h.place;
      before = record {
        ending = h.ending;
        tree = h.can.tree.tree;
        height = h.can.tree.height;
        behind = h.can.behind;
        derives = h.can.derives.0;
      };
    })
    (λ x k t.
    let whole : t.text ≡ ts = sym (t.parts ∙ (rw t.derives.1 (append-nil t.text))) in
    if_meets (is_below x.height limits)
    (λ on. fine (record {
      all = t.derives.1;
      spells = record {
        height = x.height;
        names = k.state.names;
        low = below_of x.height limits on;
        derives = let D : List Token → Type 0 = λ z. Derives Whole (some external) at_first x.height z x.tree k.state in
            subst D whole t.derives.0;
      };
    }))
    (λ _. refused (record {
      seen = t.text;
      rest = k.rest;
      parts = t.parts;
      place = refl;
      before = record {
        ending = [];
        tree = x.tree;
        height = x.height;
        behind = k.state;
        derives = let D : List Token → Type 0 = λ z. Derives Whole (some external) at_first x.height z x.tree k.state in
            subst D (sym (append-nil t.text)) t.derives.0;
      };
    })))
