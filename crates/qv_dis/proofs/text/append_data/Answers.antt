use Rattle.std.proofs.Common.{◌*◌, ◌<◌, length, drop, length-drop, append-nil, ap, sym, ◌∙◌, arith}
use Rattle.std.specs.Prelude.{map, ◌++◌}
use Rattle.std.specs.String.{string_bytes}
use Rattle.asm_line.specs.Text.{text_of}
use Rattle.qv_dis.specs.Text.{word_line}
use Rattle.qv_dis.proofs.Written.{words_end}
use Rattle.qv_dis.proofs.text.append_data.Goals as goal

pub returns-clause-text : goal.returns-clause-text
returns-clause-text c =
    let few : length (drop (4 * c.loop-i.i) c.args.data_part.now) < 4 = omega (arith, length-drop (4 * c.loop-i.i) c.args.data_part.now) in
    sym (append-nil (string_bytes c.loop-i.text))
    ∙ sym (ap (λ ws. string_bytes c.loop-i.text ++ text_of (map word_line ws)) (words_end (drop (4 * c.loop-i.i) c.args.data_part.now) few))
    ∙ c.loop-i.invariant
