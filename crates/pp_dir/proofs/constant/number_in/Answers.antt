use Rattle.std.proofs.Common.{ℕ, ◌*◌, ap, arith}
use Rattle.pp_dir.proofs.Numbers.{too_large_at}
use Rattle.pp_dir.proofs.constant.number_in.Goals as goal

pub returns-then-number-from : goal.returns-then-number-from
returns-then-number-from c =
    too_large_at c.args.base c.args.text.now c.loop-byte.byte-index c.loop-byte.number c.digit_value-digit.result c.requires.positive c.loop-byte-test.true c.digit_value-digit.ensures (omega (arith, c.if-digit-base.false)) c.loop-byte.invariant.value (omega (arith, ap (λ (n : ℕ). c.loop-byte.number * n) c.from.ensures, c.if-number-from.true, c.from-in-loop-byte.ensures, c.from-in-loop-byte-2.ensures))
