-- The instructions of a unit of the first form.
use Rattle.std.proofs.Common.{◌≡◌, List, [], ◌∷◌, ◌++◌, refl, ap, ◌∙◌}
use Rattle.std.specs.List.{flat_map}
use Rattle.std.proofs.lemmas.Grind.{flat_map-append}
use Rattle.qv_ops.specs.declared.instr.Instr.{Instr}
use Rattle.qv_ops.specs.declared.op.Op.{Op}
use Rattle.qv_ops.specs.declared.op.Op.TheVariants.{Enter, Leave, Push, Const, Local, Load4, Add as AddOp, Sub}
use Rattle.qv_image.specs.Image.{Qvm}
use Rattle.qasm_write.specs.declared.line.UnitLine.TheVariants.{Return, Close}
use Rattle.qasm_write.specs.Unit.{instr, line_code, unit_image as lines_image}
use Rattle.qcc_front.specs.declared.sum.Term.{Term}
use Rattle.qcc_front.specs.declared.sum.Term.TheVariants.{Command, Number}
use Rattle.qcc_front.specs.declared.sum.Sign.{Sign}
use Rattle.qcc_front.specs.declared.sum.Sign.TheVariants.{Plus, Minus}
use Rattle.qcc_front.specs.declared.sum.SignedTerm.{SignedTerm}
use Rattle.qcc_front.specs.Sum.{Sum}
use Rattle.qcc_front.specs.Translation.{term_lines, sign_line, signed_lines, sum_lines, unit_lines}

abbrev pub term_code : Term → List Instr
term_code Command = instr Local 16 ∷ instr Load4 0 ∷ []
term_code (Number n) = instr Const n ∷ []

abbrev pub sign_op : Sign → Op
sign_op Plus = AddOp
sign_op Minus = Sub

abbrev pub signed_code : SignedTerm → List Instr
signed_code t = term_code t.term ++ instr (sign_op t.sign) 0 ∷ []

abbrev pub sum_code : Sum → List Instr
sum_code e = term_code e.first ++ flat_map signed_code e.rest

-- a return, and the return of 0 that stands behind each function
abbrev pub end_code : List Instr
end_code = instr Leave 8 ∷ instr Push 0 ∷ instr Leave 8 ∷ []

abbrev pub unit_code : Sum → List Instr
unit_code e = instr Enter 8 ∷ (sum_code e ++ end_code)

abbrev pub unit_image : Sum → Qvm
unit_image e = record { code = unit_code e; data_part = 0 ∷ 0 ∷ 0 ∷ 0 ∷ []; lit = []; bss = 65536 }

term_is : (t : Term) → flat_map line_code (term_lines t) ≡ term_code t
term_is Command = refl
term_is (Number n) = refl

sign_is : (s : Sign) → line_code (sign_line s) ≡ instr (sign_op s) 0 ∷ []
sign_is Plus = refl
sign_is Minus = refl

signed_is : (t : SignedTerm) → flat_map line_code (signed_lines t) ≡ signed_code t
signed_is t =
    flat_map-append line_code (term_lines t.term) (sign_line t.sign ∷ [])
    ∙ ap (λ i. i ++ (line_code (sign_line t.sign) ++ [])) (term_is t.term) ∙ ap (λ i. term_code t.term ++ (i ++ [])) (sign_is t.sign)

rest_is : (ts : List SignedTerm) → flat_map line_code (flat_map signed_lines ts) ≡ flat_map signed_code ts
rest_is [] = refl
rest_is (t ∷ ts) =
    flat_map-append line_code (signed_lines t) (flat_map signed_lines ts)
    ∙ ap (λ i. i ++ flat_map line_code (flat_map signed_lines ts)) (signed_is t) ∙ ap (λ i. signed_code t ++ i) (rest_is ts)

sum_is : (e : Sum) → flat_map line_code (sum_lines e) ≡ sum_code e
sum_is e =
    flat_map-append line_code (term_lines e.first) (flat_map signed_lines e.rest)
    ∙ ap (λ i. i ++ flat_map line_code (flat_map signed_lines e.rest)) (term_is e.first) ∙ ap (λ i. term_code e.first ++ i) (rest_is e.rest)

code_is : (e : Sum) → flat_map line_code (unit_lines e) ≡ unit_code e
code_is e =
    ap (λ i. instr Enter 8 ∷ i) (flat_map-append line_code (sum_lines e) (Return ∷ Close ∷ []) ∙ ap (λ i. i ++ end_code) (sum_is e))

-- the image of the lines is that of the code
pub image_is : (e : Sum) → lines_image (unit_lines e) ≡ unit_image e
image_is e = ap (λ c. record { code = c; data_part = 0 ∷ 0 ∷ 0 ∷ 0 ∷ []; lit = []; bss = 65536 }) (code_is e)
