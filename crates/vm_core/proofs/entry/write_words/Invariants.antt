use Rattle.std.proofs.Common.{◌≡◌, ◌++◌, ◌*◌, take, drop}
use Rattle.std.specs.List.{flat_map}
use Rattle.qv_ops.specs.Code.{word_bytes}
use Rattle.vm_core.proofs.entry.write_words.Given as goal

abbrev pub invariant-loop-i : goal.invariant-loop-i
invariant-loop-i l = l.bytes ≡ flat_map word_bytes (take l.i l.words) ++ drop (4 * l.i) l.initial.bytes
