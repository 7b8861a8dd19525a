use Rattle.std.proofs.Common.{ap, sym, ◌∙◌, ◌∷◌, drop}
use Rattle.std.specs.Prelude.{option_map}
use Rattle.asm_line.specs.Operand.{pieces}
use Rattle.asm_line.specs.Shown.{expression_of}
use Rattle.asm_line.proofs.Operands.{no_expression}
use Rattle.asm_line.proofs.operand.expression.Goals as goal

pub returns-in_err-number : goal.returns-in_err-number
returns-in_err-number c =
    let front = c.split_at.ensures.front in
    ap (option_map expression_of) c.from_residual-in_err-number.ensures
    ∙ sym (no_expression c.args.word.now c.split_at.result.0.now (pieces (drop c.piece_len.result c.args.word.now))
    (λ some. c.piece_len.ensures.cut some ∙ ap (λ w. w ∷ pieces (drop c.piece_len.result c.args.word.now)) (sym front))
    (sym c.is_name.ensures ∙ c.if-is_name.false)
    (sym c.number.ensures ∙ c.in_err-number.was))
