use Rattle.std.proofs.Common.{◌≡◌, ◌+◌, ◌≤◌, [], length}
use Rattle.pp_macro.specs.Calls.{call_at}
use Rattle.pp_macro.proofs.call.take_call.Given as goal

abbrev pub invariant-loop-arg : goal.invariant-loop-arg
invariant-loop-arg l = (call_at l.fn.unread 0 [] [] ≡ call_at l.unread l.depth l.args l.arg) × (l.depth + length l.unread ≤ l.all)

abbrev pub decreases-loop-arg : goal.decreases-loop-arg
decreases-loop-arg l = length l.unread
