use Rattle.std.proofs.Common.{◌≡◌, ◌++◌, take}
use Rattle.c_names.proofs.names.Names.declare_all.Given as goal

abbrev pub invariant-loop-declared : goal.invariant-loop-declared
invariant-loop-declared l = l.self ≡ l.fn.self ++ take l.declared-index l.more
