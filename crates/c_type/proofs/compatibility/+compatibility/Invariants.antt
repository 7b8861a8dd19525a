use Rattle.std.proofs.Common.{◌≡◌, drop}
use Rattle.c_type.specs.Compatible.{all_agree, same_tag}
use Rattle.c_type.specs.View.{types_of}
use Rattle.c_type.proofs.compatibility.+compatibility.Given as goal

abbrev pub invariant-lists_agree-loop-i : goal.invariant-lists_agree-loop-i
invariant-lists_agree-loop-i l = all_agree same_tag (types_of (drop l.i l.ts)) (types_of (drop l.i l.us)) ≡ all_agree same_tag (types_of l.fn.ts) (types_of l.fn.us)
