-- A step of the first reading.
use Rattle.std.proofs.Common.{◌≡◌, ℕ, ◌+◌, Bool, true, false, List, [], ◌∷◌, ◌++◌, Option, Some, None, refl, sym, ap, ◌∙◌}
use Rattle.std.specs.Prelude.{OnOk, Result, Ok, Err, find, option_map, if◌then◌else◌}
use Rattle.std.specs.Option.{option_or}
use Rattle.asm_place.specs.Symbols.{same_name}
use Rattle.asm_place.specs.declared.address.Address.{Address}
use Rattle.asm_link.specs.Definitions.{Definition, defined_by, definitions_from, end_of, known_by, settled_in}
use Rattle.asm_link.specs.Source.{SourceLine}
use Rattle.asm_link.specs.State.{Before, step}
use Rattle.asm_link.specs.declared.known.Known.{Known}
use Rattle.asm_link.proofs.Noting.{or_or}

first_or : (b : Bool) (d : Definition) (o : Option Definition) (p : Option Known) → option_map (λ d. d.known) (if b then Some d else o) ≡ option_or (option_map (λ d. d.known) (if b then Some d else None)) (option_map (λ d. d.known) o)
first_or true d o p = refl
first_or false d o p = refl

rest_or : (b : Bool) (d : Definition) (o : Option Definition) (p : Option Known) → option_or (option_map (λ d. d.known) (if b then Some d else o)) p ≡ option_or (option_map (λ d. d.known) (if b then Some d else None)) (option_or (option_map (λ d. d.known) o) p)
rest_or true d o p = refl
rest_or false d o p = refl

-- what is known by definitions that are joined: by the first ones, else by the others
pub known_by-append : (ds es : List Definition) (file : ℕ) (name : List ℕ) → known_by (ds ++ es) file name ≡ option_or (known_by ds file name) (known_by es file name)
known_by-append [] es file name = refl
known_by-append (d ∷ ds) es file name =
    let found : List Definition → Option Definition = find (λ d. same_name file name d.file d.name) in
    let here : Bool = same_name file name d.file d.name in
    first_or here d (found (ds ++ es)) None
    ∙ ap (option_or (option_map (λ d. d.known) (if here then Some d else None))) (known_by-append ds es file name)
    ∙ sym (rest_or here d (found ds) (known_by es file name))

pub named_step : (at : ℕ) (s t : Before) (x : SourceLine) (before behind : List SourceLine) (file : ℕ) (name : List ℕ) (all : Option Known) (old new : Address → Option Known)
    → before ≡ x ∷ behind → t ≡ step s x
    → new (end_of (settled_in (step s x).segment behind) (step s x)) ≡ option_or (old (end_of (settled_in s.segment (x ∷ behind)) s)) (known_by (defined_by at s x.file x.entry behind) file name)
    → option_or (old (end_of (settled_in s.segment before) s)) (known_by (definitions_from at s before) file name) ≡ all
    → option_or (new (end_of (settled_in t.segment behind) t)) (known_by (definitions_from (at + 1) t behind) file name) ≡ all
named_step at s t x before behind file name all old new is stepped noted known =
    let later : Option Known = known_by (definitions_from (at + 1) (step s x) behind) file name in
    let here : Option Known = known_by (defined_by at s x.file x.entry behind) file name in
    let held : Option Known = old (end_of (settled_in s.segment (x ∷ behind)) s) in
    ap (λ z. option_or (new (end_of (settled_in z.segment behind) z)) (known_by (definitions_from (at + 1) z behind) file name)) stepped
    ∙ ap (λ o. option_or o later) noted
    ∙ or_or held here later
    ∙ ap (option_or held) (sym (known_by-append (defined_by at s x.file x.entry behind) (definitions_from (at + 1) (step s x) behind) file name))
    ∙ ap (λ xs. option_or (old (end_of (settled_in s.segment xs) s)) (known_by (definitions_from at s xs) file name)) (sym is)
    ∙ known

pub on_ok : {A E P Q : Type 0} (r : Result A E) → (P → Q) → OnOk r P → OnOk r Q
on_ok (Ok x) f h = f h
on_ok (Err e) f h = h
