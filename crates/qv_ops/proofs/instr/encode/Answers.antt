use Rattle.std.proofs.Common.{rules}
use Rattle.qv_ops.proofs.Bytes.{cuts_back}
use Rattle.qv_ops.proofs.instr.encode.Goals as goal

pub returns-in_ok-push-in-0-clause-back : goal.returns-in_ok-push-in-0-clause-back
returns-in_ok-push-in-0-clause-back c = cuts_back c.args.instr c.args.out.now.items _ (search rules) c.requires

pub returns-in_ok-extend_from_slice-in_default-clause-back : goal.returns-in_ok-extend_from_slice-in_default-clause-back
returns-in_ok-extend_from_slice-in_default-clause-back c = cuts_back c.args.instr c.args.out.now.items _ (search rules) c.requires
