use Rattle.std.proofs.Common.{◌≡◌, ◌++◌, length, reverse}
use Rattle.pp_macro.specs.Calls.{all_from}
use Rattle.pp_macro.proofs.pending.put_all.Given as goal

abbrev pub invariant-loop-token : goal.invariant-loop-token
invariant-loop-token l = all_from l.place l.names l.tokens ++ reverse l.pending ≡ all_from l.place l.names l.fn.tokens ++ reverse l.fn.pending

abbrev pub decreases-loop-token : goal.decreases-loop-token
decreases-loop-token l = length l.tokens
