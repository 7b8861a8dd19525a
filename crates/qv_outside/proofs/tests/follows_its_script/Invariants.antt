use Rattle.std.proofs.Common.{◌≡◌, Some}
use Rattle.qv_outside.specs.Hosts.{sig_of}
use Rattle.qv_outside.specs.ScriptHost.{table_of}
use Rattle.qv_outside.proofs.tests.follows_its_script.Given as goal

abbrev pub invariant-loop-bytes : goal.invariant-loop-bytes
invariant-loop-bytes g l = sig_of (table_of l.host) 2 ≡ Some l.sig
