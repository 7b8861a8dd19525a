use Rattle.std.proofs.Common.{◌≡◌, true, false, sym, ap, ◌∙◌, arith}
use Rattle.std.specs.Prelude.{◌==◌}
use Rattle.std.proofs.lemmas.Bool.Decides.{nat_tests}
use Rattle.pp_tok.specs.CharVectors.{without_last}
use Rattle.pp_tok.proofs.Joins.{without_last-same, without_last-other}
use Rattle.pp_tok.proofs.chars.without_last.Goals as goal

pub returns-in-Some : goal.returns-in-Some
returns-in-Some c =
    let same : (c.in-Some.last.now == c.args.byte) ≡ true = grind (arith, nat_tests, c.if-last-byte.true) in
    sym (ap (without_last c.args.byte) c.in-Some.ensures.cases.0 ∙ without_last-same c.args.byte c.in-Some.last.now c.in-Some.front.now same)

pub returns-in_default : goal.returns-in_default
returns-in_default c =
    let other : (c.in-Some.last.now == c.args.byte) ≡ false = grind (arith, nat_tests, c.if-last-byte.false) in
    c.in-Some.ensures.cases.0 ∙ sym (without_last-other c.args.byte c.in-Some.last.now c.in-Some.front.now other) ∙ sym (ap (without_last c.args.byte) c.in-Some.ensures.cases.0)
