use Rattle.std.proofs.Common.{◌≡◌, ◌+◌, ◌-◌, ◌++◌, length, take, ap, ◌∙◌, arith}
use Rattle.std.specs.Prelude.{replicate, vec_len}
use Rattle.std.proofs.lemmas.List.{take_all}
use Rattle.pp_tok.proofs.Joins.{bytes_added}
use Rattle.pp_tok.proofs.chars.Chars.push.Goals as goal

pub returns : goal.returns
returns c =
    let lines = c.args.self.now.lines in
    let n = c.args.number in
    let bytes = c.args.bytes.now in
    let sum = c.len.result + length bytes in
    let count : sum - vec_len lines ≡ length bytes = omega (arith, c.len.ensures) in
    let whole : take sum lines.items ≡ lines.items = take_all sum lines.items (omega (arith, c.len.ensures, lines.ok)) in
    bytes_added c.args.self.now (record { text = c.extend_from_slice.new.self; lines = c.resize.new.self }) n bytes c.in_ok-extend_from_slice.ensures.items
    (c.in_ok-resize.ensures.items ∙ ap (λ l. l ++ replicate (sum - vec_len lines) n) whole ∙ ap (λ k. lines.items ++ replicate k n) count)
