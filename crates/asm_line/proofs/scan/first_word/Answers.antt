use Rattle.std.proofs.Common.{◌<◌, drop, take, length, ◌∷◌, ap, ◌∙◌, sym, arith}
use Rattle.std.proofs.lemmas.List.{length-take}
use Rattle.asm_line.specs.Text.{starts_with, is_word_byte, words_of}
use Rattle.asm_line.proofs.Text.{words_of-cut, words_of-end}
use Rattle.asm_line.proofs.scan.first_word.Goals as goal

pub returns-then-len-eq0-clause-word : goal.returns-then-len-eq0-clause-word
returns-then-len-eq0-clause-word c =
    words_of-end c.args.line.now c.requires (ap (λ n. starts_with is_word_byte (drop n c.args.line.now)) (sym c.if-len-eq0.true) ∙ c.word_len-len.ensures.other)

pub returns-clause-word : goal.returns-clause-word
returns-clause-word c =
    let some : 0 < length (take c.word_len-len.result c.args.line.now) = grind (arith, length-take) in
    words_of-cut c.args.line.now c.word_len-len.result some c.word_len-len.ensures.word c.word_len-len.ensures.other
    ∙ ap (λ w. w ∷ words_of (drop c.word_len-len.result c.args.line.now)) (sym c.split_at.ensures.front)
    ∙ ap (λ r. c.split_at.result.0.now ∷ words_of r) (sym c.split_at.ensures.back)
