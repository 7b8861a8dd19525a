use Rattle.std.proofs.Common.{◌∙◌}
use Rattle.pp_macro.proofs.Fills.{moved_last}
use Rattle.pp_macro.proofs.paste.joined_with_nothing.Goals as goal

pub returns : goal.returns
returns c = c.in_ok-push.ensures.ok ∙ moved_last c.args.paste.now c.args.left c.pop.new.self c.in-Some.last c.in-Some.ensures
