use Rattle.std.proofs.Common.{rules, ◌≡◌, ◌++◌, true, drop, sym, ap, ◌∙◌, subst, arith}
use Rattle.std.specs.Prelude.{Err}
use Rattle.pp_tok.specs.Lines.{AreRead, on_ok, lines_behind, tokens_in}
use Rattle.pp_tok.specs.Reading.{part_at}
use Rattle.pp_tok.proofs.Behind.{tokens_on, tokens_fault, tokens_end}
use Rattle.pp_tok.proofs.lines.read_tokens.Goals as goal

pub returns-in_err-read : goal.returns-in_err-read
returns-in_err-read c = λ cs are.
    let all = on_ok tokens_in (lines_behind c.args.file 0 true (part_at c.args.first) (drop c.args.first.at cs)) in
    let e : c.from_residual.result ≡ Err c.in_err-read.field-0.0 = search rules in
    subst (λ r. AreRead r all) (sym e)
    (tokens_fault c.args.file c.args.chars.now cs are c.loop-start.start c.loop-start.tokens all c.in_err-read.field-0.0 (c.in_err-read.ensures.reads cs are) (c.loop-start.invariant cs are))

pub loop-start-preserved : goal.loop-start-preserved
loop-start-preserved c = λ cs are.
    let all = on_ok tokens_in (lines_behind c.args.file 0 true (part_at c.args.first) (drop c.args.first.at cs)) in
    let read = c.in_ok-read.read in
    ap (λ l. on_ok (λ ls. l ++ tokens_in ls) (lines_behind c.args.file 0 true (part_at read.next) (drop read.next.at cs))) c.in_ok-append.ensures
    ∙ tokens_on c.args.file c.args.chars.now cs are c.loop-start.start c.loop-start.tokens all read (c.in_ok-read.ensures.reads cs are) (c.loop-start.invariant cs are)

pub returns : goal.returns
returns c = λ cs are.
    let all = on_ok tokens_in (lines_behind c.args.file 0 true (part_at c.args.first) (drop c.args.first.at cs)) in
    tokens_end c.args.file c.args.chars.now cs are c.loop-start.start c.loop-start.tokens all (omega arith) (c.loop-start.invariant cs are)
