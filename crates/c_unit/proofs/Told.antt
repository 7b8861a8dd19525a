-- What is told of a unit that was read.
use Rattle.std.proofs.Common.{◌≡◌, ℕ, List, [], Result, Ok, Err, refl, sym, ap, subst, ◌∙◌}
use Rattle.qv_base.specs.declared.place.Place.{Place}
use Rattle.c_names.specs.declared.names.Declared.{Declared}
use Rattle.c_tok.specs.declared.token.CTok.{CTok}
use Rattle.c_tree.specs.declared.height.Tall.{Tall}
use Rattle.c_tree.specs.declared.stmt.External.{External}
use Rattle.c_tree.specs.declared.stmt.Unit.{Unit as UnitTree}
use Rattle.c_decl.specs.declared.fault.Halt.TheVariants as halt
use Rattle.c_decl.specs.declared.fault.ParseFault.{ParseFault}
use Rattle.c_decl.specs.declared.fault.ParseFault.TheVariants as fault
use Rattle.c_decl.specs.Cursor.{started}
use Rattle.c_decl.specs.Input.{Input, Outcome}
use Rattle.c_decl.specs.Reading.{parse}
use Rattle.c_decl.specs.Units.{limits, Parses}
use Rattle.c_decl.specs.Parsed.{all_of, place_left, told, unit_read, whole_or}
use Rattle.c_decl.specs.Tokens.{numbered}
use Rattle.c_decl.proofs.Parsed.{unit_parses}
use Rattle.c_unit.specs.Unit.{Gives}

pub gives_self : (r : Result UnitTree ParseFault) → Gives r r
gives_self (Ok x) = refl
gives_self (Err e) = λ _. refl

begun : (toks : List CTok) (names : List Declared) (i : Input) → i ≡ started 0 toks names → names ≡ [] → i ≡ all_of toks
unfolding started
begun toks names i e none = e ∙ ap (λ (z : List Declared). started 0 toks z) none

-- the outcome from where a cursor starts
pub outcome_at : (toks : List CTok) (names : List Declared) (i : Input) {o : Outcome (Tall (List External))}
    → i ≡ started 0 toks names → names ≡ [] → parse limits i ≡ o → parse limits (all_of toks) ≡ o
outcome_at toks names i e none is = ap (λ (z : Input). parse limits z) (sym (begun toks names i e none)) ∙ is

pub given_ok : (toks : List CTok) (o : Outcome (Tall (List External))) (x : Tall (List External)) (j : Input) (r : Result UnitTree ParseFault)
    → o ≡ Ok (x, j) → r ≡ whole_or toks x.tree j.state.marked → Gives (told toks o) r
given_ok toks o x j r is e =
    subst (λ (z : Outcome (Tall (List External))). Gives (told toks z) r) (sym is) (subst (λ (z : Result UnitTree ParseFault). Gives (whole_or toks x.tree j.state.marked) z) (sym e) (gives_self _))

pub given_err : (toks : List CTok) (o : Outcome (Tall (List External))) (left : ℕ) (place : Place)
    → o ≡ Err (halt.Syntax left) → place ≡ place_left (numbered 0 toks) left → Gives (told toks o) (Err (fault.Syntax place))
given_err toks o left place is e _ = ap (λ (z : Outcome (Tall (List External))). told toks z) is ∙ ap (λ (z : Place). Err (fault.Syntax z)) (sym e)

-- what is read is what the grammar tells of the tokens
pub parses : (toks : List CTok) (r : Result UnitTree ParseFault) → Gives (unit_read toks) r → Parses toks r
parses toks (Ok x) is = subst (Parses toks) is (unit_parses toks)
parses toks (Err (fault.FloatType p)) is = subst (Parses toks) (is (λ e. absurd cc)) (unit_parses toks)
parses toks (Err (fault.Syntax p)) is = subst (Parses toks) (is (λ e. absurd cc)) (unit_parses toks)
parses toks (Err (fault.LeftOut kind p)) is = subst (Parses toks) (is (λ e. absurd cc)) (unit_parses toks)
parses toks (Err fault.NoMemory) is = tt
