use Rattle.qv_outside.proofs.Lent.{bytes_lent}
use Rattle.qv_outside.proofs.script_host.ScriptHostHost.call.Goals as goal

pub fits-requires : goal.fits-requires
fits-requires c = bytes_lent c.args.call.now _ c.requires.shape

pub push-requires-clause-texts : goal.push-requires-clause-texts
push-requires-clause-texts c = bytes_lent c.args.call.now _ c.requires.shape
