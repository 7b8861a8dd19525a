use Rattle.pp_macro.proofs.Cuts.{cut}
use Rattle.pp_macro.proofs.pieces.pieces.Goals as goal

pub returns : goal.returns
returns c = cut c.args.params.now c.loop-token.pasted c.loop-token.found _ c.loop-token.rest.now c.loop-token.invariant c.in_default.ensures.cases
