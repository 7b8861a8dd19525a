use Rattle.std.proofs.Common.{◌≡◌, ◌+◌, ◌<◌, ◌≤◌, ℕ, List, length, false, sym, ap, ◌∙◌, subst}
use Rattle.std.specs.Prelude.{slice_index}
use Rattle.std.proofs.lemmas.List.{take_rest}
use Rattle.pp_tok.specs.Lengths.{constant_length}
use Rattle.pp_tok.proofs.Open.{unclosed_more}
use Rattle.pp_tok.proofs.unclosed.constant_rest.Goals as goal

pub returns-in-None-clause-known : goal.returns-in-None-clause-known
returns-in-None-clause-known c =
    let text = c.args.text.now in
    let at = c.args.at in
    let rest = take_rest text (at + 1) in
    unclosed_more c.args.unclosed.now c.set.new.self text at c.line_len.result
    (ap (constant_length (slice_index text at) false) (sym rest) ∙ sym c.in-None.ensures.value)
    (subst (λ r. c.line_len.result ≤ length r) rest c.line_len.ensures.within)
    (subst (λ (r : List ℕ). (k : ℕ) → k < c.line_len.result → slice_index r k ≡ 10 → ⊥) rest c.line_len.ensures.inside)
    c.set.ensures c.requires.known
