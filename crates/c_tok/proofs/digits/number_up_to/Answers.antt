use Rattle.std.proofs.Common.{ℕ, ◌*◌, ap, arith}
use Rattle.c_tok.proofs.Growing.{above_at}
use Rattle.c_tok.proofs.digits.number_up_to.Goals as goal

pub returns-then-number-from-clause-value : goal.returns-then-number-from-clause-value
returns-then-number-from-clause-value c =
    above_at c.args.base c.args.max c.args.digits.now c.loop-byte.byte-index c.loop-byte.number c.digit_value.result c.requires.positive c.loop-byte-test.true c.digit_value.ensures.value c.loop-byte.invariant.value
    (omega (arith, ap (λ (n : ℕ). c.loop-byte.number * n) c.from.ensures, c.if-number-from.true, c.from-in-loop-byte.ensures, c.from-in-loop-byte-2.ensures))
