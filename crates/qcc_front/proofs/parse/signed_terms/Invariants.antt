use Rattle.std.proofs.Common.{◌≡◌, length}
use Rattle.qcc_front.specs.FirstForm.{rest_of, spellings}
use Rattle.qcc_front.proofs.SignedTerms.{with_terms}
use Rattle.qcc_front.proofs.parse.signed_terms.Given as goal

abbrev pub invariant-loop-first : goal.invariant-loop-first
invariant-loop-first l = with_terms l.terms.items (rest_of (spellings l.toks)) ≡ rest_of (spellings l.initial.toks)

abbrev pub decreases-loop-first : goal.decreases-loop-first
decreases-loop-first l = length l.toks
