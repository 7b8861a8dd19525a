use Rattle.std.proofs.Common.{arith}
use Rattle.pp_macro.specs.Expand.{expand_in}
use Rattle.pp_macro.proofs.Enough.{deeper}
use Rattle.pp_macro.proofs.expander.+expand_argument.Goals as goal

pub returns-clause-reads : goal.returns-clause-reads
unfolding expand_in
returns-clause-reads t c = rw (deeper (λ n. expand_in c.args.table.now c.args.names.now n c.args.place c.args.count.now c.args.tokens.now) c.args.depth (omega arith)) c.walk.ensures.reads
