use Rattle.qv_outside.specs.Script.{replies_in}
use Rattle.qv_outside.proofs.Scripts.{none_given}
use Rattle.qv_outside.proofs.script.Script.new.Goals as goal

pub returns-clause-given : goal.returns-clause-given
returns-clause-given c = none_given (replies_in c.args.replies.items) c.in_ok-given.given.items c.in_ok-given.ensures.items
