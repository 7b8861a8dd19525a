use Rattle.c_type.specs.Kept.{kept}
use Rattle.c_type.proofs.Plans.{plan-stops}
use Rattle.c_type.proofs.tags.lay_out.Goals as goal

pub returns-in-None : goal.returns-in-None
returns-in-None c =
    plan-stops (kept c.args.entries.now) c.args.kind c.loop-member.together c.loop-member.offsets c.args.members.now c.loop-member.member-index c.member-item.result _
    c.loop-member-test.true c.member-item.is c.in-None.ensures.none c.loop-member.invariant.placed
