use Rattle.memchr.specs.Find.{is_byte}
use Rattle.trap_sig.proofs.First.{first_byte}
use Rattle.trap_sig.proofs.arguments.nul_in.Goals as goal

pub returns : goal.returns
returns c = first_byte (is_byte 0) c.args.bytes.now c.memchr.result c.memchr.ensures
