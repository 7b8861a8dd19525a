use Rattle.std.proofs.Common.{sym, ap, ◌∙◌}
use Rattle.pp_tok.specs.CharVectors.{ends_with}
use Rattle.pp_tok.proofs.Joins.{ends_with-last}
use Rattle.pp_tok.proofs.chars.ends_with.Goals as goal

pub returns-in-Some : goal.returns-in-Some
returns-in-Some c = sym (ap (ends_with c.args.byte) c.in-Some.ensures.cases.0 ∙ ends_with-last c.args.byte c.in-Some.last.now c.in-Some.field-0-1.now)
