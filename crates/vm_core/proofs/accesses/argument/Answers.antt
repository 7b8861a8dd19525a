use Rattle.std.proofs.Common.{◌∙◌, ap, length}
use Rattle.masked_mem.proofs.Lengths.{length-store4}
use Rattle.vm_core.proofs.accesses.argument.Goals as goal

pub returns-clause-size : goal.returns-clause-size
returns-clause-size c = ap length c.store4.ensures ∙ length-store4 c.args.block.now _ _ c.requires.size
