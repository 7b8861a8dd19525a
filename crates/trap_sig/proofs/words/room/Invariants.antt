use Rattle.std.proofs.Common.{◌≡◌, drop}
use Rattle.std.specs.List.{zip}
use Rattle.trap_sig.specs.Gather.{output_of}
use Rattle.trap_sig.proofs.words.room.Given as goal

abbrev pub invariant-loop-i : goal.invariant-loop-i
invariant-loop-i l = output_of (drop l.i (zip l.kinds l.words)) ≡ output_of (zip l.kinds l.words)
