use Rattle.c_unit.proofs.Ended.{parsed}
use Rattle.c_unit.proofs.unit.within_limits.Goals as goal

pub returns : goal.returns
returns c = parsed _ c.limits.result c.args.cursor.now _ _ c.limits.ensures.value c.externals.ensures.reads c.externals.ensures.low
