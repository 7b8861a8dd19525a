use Rattle.std.proofs.Common.{◌≡◌, length}
use Rattle.c_decl.specs.Units as spec
use Rattle.c_unit.proofs.unit.first_float.Given as goal

abbrev pub invariant-loop-first : goal.invariant-loop-first
invariant-loop-first l = spec.first_float l.fn.toks ≡ spec.first_float l.rest

abbrev pub decreases-loop-first : goal.decreases-loop-first
decreases-loop-first l = length l.rest
