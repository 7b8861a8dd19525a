use Rattle.std.proofs.Common.{◌≡◌, ◌-◌, List, ℕ, false, take, drop, length, subst, arith}
use Rattle.std.specs.Prelude.{IsTrue, not}
use Rattle.std.specs.List.{list_all}
use Rattle.std.proofs.lemmas.List.{take_all, length-drop}
use Rattle.asm_line.specs.Operand.{is_sign}
use Rattle.asm_line.specs.Text.{starts_with}
use Rattle.asm_line.proofs.Operands.{pieces-cut}
use Rattle.asm_line.proofs.operand.piece_len.Goals as goal

pub returns-clause-cut : goal.returns-clause-cut
returns-clause-cut c = λ some.
    let text : List ℕ = c.args.text.now in
    let n : ℕ = c.sign_len-signs.result in
    let m : ℕ = c.plain_len.result in
    let whole : take (length text - n) (drop n text) ≡ drop n text = take_all _ _ (omega (arith, length-drop n text)) in
    let P : List ℕ → Type 0 = λ r. IsTrue (list_all (λ b. not (is_sign b)) (take m r)) in
    let Q : List ℕ → Type 0 = λ r. starts_with (λ b. not (is_sign b)) (drop m r) ≡ false in
    pieces-cut text n m some c.sign_len-signs.ensures.signs c.sign_len-signs.ensures.other (subst P whole c.plain_len.ensures.plain) (subst Q whole c.plain_len.ensures.other)
