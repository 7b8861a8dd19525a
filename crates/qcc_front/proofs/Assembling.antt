-- The text of a unit's lines is linked to an image that follows the unit.
use Rattle.std.proofs.Common.{◌≡◌, ℕ, ◌*◌, ◌<◌, ◌≤◌, Bool, true, false, ◌&&◌, List, [], ◌∷◌, ◌++◌, length, append_assoc, refl, sym, ap, ◌∙◌, arith, length-append}
use Rattle.std.specs.Prelude.{Ok}
use Rattle.std.specs.List.{list_all, flat_map}
use Rattle.std.proofs.lemmas.List.Folds.{list_all-append}
use Rattle.asm_link.specs.Link.{linked}
use Rattle.qasm_write.specs.declared.line.UnitLine.{UnitLine}
use Rattle.qasm_write.specs.declared.line.UnitLine.TheVariants.{Open, Return, Close}
use Rattle.qasm_write.specs.Unit.{constant_fits, is_inner, IsUnit, unit_image as lines_image}
use Rattle.qcc_front.specs.declared.sum.Term.{Term}
use Rattle.qcc_front.specs.declared.sum.Term.TheVariants.{Command, Number}
use Rattle.qcc_front.specs.declared.sum.Sign.{Sign}
use Rattle.qcc_front.specs.declared.sum.Sign.TheVariants.{Plus, Minus}
use Rattle.qcc_front.specs.declared.sum.SignedTerm.{SignedTerm}
use Rattle.qcc_front.specs.Assembles.{Assembles}
use Rattle.qcc_front.specs.Sum.{Sum}
use Rattle.qcc_front.specs.Translation.{term_lines, sign_line, signed_lines, sum_lines, unit_lines}
use Rattle.qcc_front.proofs.UnitCode.{unit_image, image_is}
use Rattle.qcc_front.proofs.CodeFacts.{unit_short}
use Rattle.qcc_front.proofs.UnitRuns.{follows}

both_true : (a b : Bool) → (a && b) ≡ true → (a ≡ true) × (b ≡ true)
both_true true b h = (refl, h)
both_true false b h = absurd (cc)

both : (a b : Bool) → a ≡ true → b ≡ true → (a && b) ≡ true
both a b p q = ap (λ x. x && b) p ∙ q

-- where all constants of a front fit, those of its parts do
parts : (a b : List UnitLine) → list_all constant_fits (a ++ b) ≡ true → (list_all constant_fits a ≡ true) × (list_all constant_fits b ≡ true)
parts a b h = both_true (list_all constant_fits a) (list_all constant_fits b) (sym (list_all-append constant_fits a b) ∙ h)

joined : (a b : List UnitLine) → list_all is_inner a ≡ true → list_all is_inner b ≡ true → list_all is_inner (a ++ b) ≡ true
joined a b p q = list_all-append is_inner a b ∙ both (list_all is_inner a) (list_all is_inner b) p q

term_inner : (t : Term) → list_all constant_fits (term_lines t) ≡ true → list_all is_inner (term_lines t) ≡ true
term_inner Command h = refl
term_inner (Number n) h = h

sign_inner : (s : Sign) → list_all is_inner (sign_line s ∷ []) ≡ true
sign_inner Plus = refl
sign_inner Minus = refl

rest_inner : (ts : List SignedTerm) → list_all constant_fits (flat_map signed_lines ts) ≡ true → list_all is_inner (flat_map signed_lines ts) ≡ true
rest_inner [] h = refl
rest_inner (t ∷ ts) h =
    let k = parts (signed_lines t) (flat_map signed_lines ts) h in
    let j = parts (term_lines t.term) (sign_line t.sign ∷ []) k.0 in
    joined (signed_lines t) (flat_map signed_lines ts) (joined (term_lines t.term) (sign_line t.sign ∷ []) (term_inner t.term j.0) (sign_inner t.sign)) (rest_inner ts k.1)

sum_inner : (e : Sum) → list_all constant_fits (sum_lines e) ≡ true → list_all is_inner (sum_lines e) ≡ true
sum_inner e h =
    let k = parts (term_lines e.first) (flat_map signed_lines e.rest) h in
    joined (term_lines e.first) (flat_map signed_lines e.rest) (term_inner e.first k.0) (rest_inner e.rest k.1)

term_short : (t : Term) → length (term_lines t) ≤ 2
term_short Command = omega arith
term_short (Number n) = omega arith

rest_short : (ts : List SignedTerm) → length (flat_map signed_lines ts) ≤ 3 * length ts
rest_short [] = omega arith
rest_short (t ∷ ts) =
    omega (arith, rest_short ts, term_short t.term, length-append (signed_lines t) (flat_map signed_lines ts), length-append (term_lines t.term) (sign_line t.sign ∷ []))

pub is_unit : (e : Sum) (lines : List UnitLine) → lines ≡ unit_lines e → list_all constant_fits lines ≡ true → length e.rest < 200 → IsUnit lines
is_unit e lines is fit few =
    let whole : list_all constant_fits (sum_lines e ++ Return ∷ Close ∷ []) ≡ true = sym (ap (list_all constant_fits) is) ∙ fit in
    let k = parts (sum_lines e) (Return ∷ Close ∷ []) whole in
    record {
      inner = sum_lines e ++ Return ∷ [];
      lines_are = is ∙ ap (λ ls. Open ∷ ls) (sym (append_assoc (sum_lines e) (Return ∷ []) (Close ∷ [])));
      are_inner = joined (sum_lines e) (Return ∷ []) (sum_inner e k.0) refl;
      short = omega (arith, few, length-append (sum_lines e) (Return ∷ []), length-append (term_lines e.first) (flat_map signed_lines e.rest), term_short e.first, rest_short e.rest);
    }

pub assembles : (e : Sum) (lines : List UnitLine) (text : List ℕ) → lines ≡ unit_lines e → linked (text ∷ []) ≡ Ok (lines_image lines) → length e.rest < 200 → Assembles e (text ∷ [])
assembles e lines text is links few = record {
  image = unit_image e;
  links = links ∙ ap (λ ls. Ok (lines_image ls)) is ∙ ap Ok (image_is e);
  follows = follows e;
  small = omega (arith, unit_short e, few);
}
