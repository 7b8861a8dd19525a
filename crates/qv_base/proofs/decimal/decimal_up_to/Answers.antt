use Rattle.std.proofs.Common.{arith}
use Rattle.qv_base.proofs.Decimals.{too_large_at}
use Rattle.qv_base.proofs.decimal.decimal_up_to.Goals as goal

pub returns-then-value-from : goal.returns-then-value-from
returns-then-value-from c =
    too_large_at c.args.max c.args.text.now c.loop-byte.byte-index c.loop-byte.value c.from.result c.loop-byte-test.true c.from.ensures c.loop-byte.invariant.value (omega (arith, c.if-value-from.true, c.from-in-loop-byte.ensures))
