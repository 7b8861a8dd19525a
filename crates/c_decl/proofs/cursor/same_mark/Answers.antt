use Rattle.std.proofs.Common.{sym, rules, ◌∙◌}
use denote.Enum.Bare.{same_true}
use Rattle.c_tok.specs.contracts.mark.Mark.{the_type}
use Rattle.c_decl.proofs.cursor.same_mark.Goals as goal

pub returns-clause-same : goal.returns-clause-same
returns-clause-same c = λ e. same_true the_type (search rules) _ _ (sym c.eq.ensures ∙ e)
