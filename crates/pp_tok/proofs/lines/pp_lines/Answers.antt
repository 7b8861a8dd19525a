use Rattle.std.proofs.Common.{rules, ◌≡◌, ◌<◌, ◌++◌, false, length, drop, sym, ap, ◌∙◌, subst, arith}
use Rattle.std.specs.Prelude.{Err}
use Rattle.pp_tok.specs.Chars.{chars_from}
use Rattle.pp_tok.specs.Lines.{AreRead, lines_of, on_ok, lines_behind}
use Rattle.pp_tok.specs.Reading.{part_at}
use Rattle.pp_tok.proofs.Behind.{line_more, line_fault, lines_end}
use Rattle.pp_tok.proofs.lines.pp_lines.Goals as goal

pub returns-in_err-read : goal.returns-in_err-read
returns-in_err-read c =
    let bytes = c.args.bytes.now in
    let lt : c.loop-start.start.at < length c.in_ok-chars.chars.text.items = omega arith in
    let e : c.from_residual-in_err-read.result ≡ Err c.in_err-read.field-0.0 = search rules in
    subst (λ r. AreRead r (lines_of c.args.file bytes)) (sym e)
    (line_fault c.args.file c.in_ok-chars.chars (chars_from 1 bytes) c.in_ok-chars.ensures c.loop-start.start c.loop-start.lines (lines_of c.args.file bytes) c.in_err-read.field-0.0 lt
    (c.in_err-read.ensures.reads (chars_from 1 bytes) c.in_ok-chars.ensures) c.loop-start.invariant)

pub loop-start-preserved : goal.loop-start-preserved
loop-start-preserved c =
    let bytes = c.args.bytes.now in
    let read = c.in_ok-read.read in
    let lt : c.loop-start.start.at < length c.in_ok-chars.chars.text.items = omega arith in
    ap (λ l. on_ok (λ ls. l ++ ls) (lines_behind c.args.file 0 false (part_at read.next) (drop read.next.at (chars_from 1 bytes)))) c.in_ok-push.ensures.ok
    ∙ line_more c.args.file c.in_ok-chars.chars (chars_from 1 bytes) c.in_ok-chars.ensures c.loop-start.start c.loop-start.lines (lines_of c.args.file bytes) read lt
    (c.in_ok-read.ensures.reads (chars_from 1 bytes) c.in_ok-chars.ensures) c.loop-start.invariant

pub returns : goal.returns
returns c =
    let bytes = c.args.bytes.now in
    lines_end c.args.file c.in_ok-chars.chars (chars_from 1 bytes) c.in_ok-chars.ensures c.loop-start.start c.loop-start.lines (lines_of c.args.file bytes) (omega arith) c.loop-start.invariant
