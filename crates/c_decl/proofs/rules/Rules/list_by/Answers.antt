use Rattle.std.proofs.Common.{rules, arith}
use Rattle.std.proofs.lemmas.Grind.{common_steps}
use Rattle.c_decl.proofs.Scopes.{none_since}
use Rattle.c_decl.proofs.rules.Rules.list_by.Goals as goal

pub returns-then-closes-clause-reads : goal.returns-then-closes-clause-reads
returns-then-closes-clause-reads g c =
    let e = none_since c.skip.new.self.state in
    first_of (search rules, grind (arith, common_steps))
