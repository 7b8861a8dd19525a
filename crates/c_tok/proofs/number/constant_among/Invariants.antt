use Rattle.std.proofs.Common.{◌≡◌, drop}
use Rattle.c_tok.specs.Numbers.{constant_among}
use Rattle.c_tok.proofs.number.constant_among.Given as goal

abbrev pub invariant-loop-kind : goal.invariant-loop-kind
invariant-loop-kind l = constant_among (drop l.kind-index l.kinds) l.value ≡ constant_among l.kinds l.value
