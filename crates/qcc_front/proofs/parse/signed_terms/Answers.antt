use Rattle.std.proofs.Common.{◌∙◌, rules}
use Rattle.qcc_front.specs.FirstForm.{spellings}
use Rattle.qcc_front.proofs.SignedTerms.{term_step_at}
use Rattle.qcc_front.proofs.parse.signed_terms.Goals as goal

pub loop-first-preserved : goal.loop-first-preserved
loop-first-preserved c =
    term_step_at c.loop-first.terms.items c.push.new.self.items c.in-Some.first.now.spelling c.in-Some-split_first.second.now.spelling (spellings c.loop-first.toks.now) (spellings c.in-Some-split_first.rest.now) c.in-Some-sign.sign c.in-Some-term.term (search rules) (search rules) (search rules) (search rules) (search rules) ∙ c.loop-first.invariant
