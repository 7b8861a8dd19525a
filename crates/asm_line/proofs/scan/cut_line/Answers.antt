use Rattle.std.proofs.Common.{◌≡◌, take, drop, length, ap, ◌∙◌, ◌∷◌, ◌+◌, ◌-◌, sym, arith}
use Rattle.std.proofs.lemmas.List.{take_all, length-drop}
use Rattle.asm_line.specs.Text.{lines_of}
use Rattle.asm_line.proofs.Text.{lines_of-cut, lines_of-whole}
use Rattle.asm_line.proofs.scan.cut_line.Goals as goal

pub returns-in-Some-clause-lines : goal.returns-in-Some-clause-lines
returns-in-Some-clause-lines c =
    let whole : take (length c.args.text.now - (c.in-Some.i + 1)) (drop (c.in-Some.i + 1) c.args.text.now) ≡ drop (c.in-Some.i + 1) c.args.text.now = take_all _ _ (omega (arith, length-drop (c.in-Some.i + 1) c.args.text.now)) in
    let first = c.in-Some.ensures.0 in
    lines_of-cut c.args.text.now c.in-Some.i first.high (λ k lt. first.before k (omega arith) lt) c.in-Some.ensures.1
    ∙ ap (λ r. take c.in-Some.i c.args.text.now ∷ lines_of r) (sym whole)

pub returns-in-None-clause-lines : goal.returns-in-None-clause-lines
returns-in-None-clause-lines c = lines_of-whole c.args.text.now (λ k lt. c.in-None.ensures k (omega arith) lt)
