use Rattle.std.proofs.Common.{rules, ◌≡◌, ◌+◌, ◌∷◌, drop, sym, ap, ◌∙◌, subst, arith}
use Rattle.std.specs.Prelude.{Err}
use Rattle.std.proofs.lemmas.List.{drop_more, drop_all}
use Rattle.c_tok.specs.Results.{Answers, on_ok}
use Rattle.c_tok.specs.Tokens.{tokens_of, c_tokens}
use Rattle.c_tok.specs.Joining.{with_tokens}
use Rattle.c_tok.proofs.Joins.{begins, goes, fails, ends}
use Rattle.c_tok.proofs.tokens.c_tokens.Goals as goal

pub loop-tok-init : goal.loop-tok-init
loop-tok-init c = ap (λ l. on_ok (with_tokens l) (tokens_of c.args.toks.now)) c.new-tokens.ensures ∙ begins c.args.toks.now

pub returns-in_err-kind : goal.returns-in_err-kind
returns-in_err-kind c =
    let toks = c.args.toks.now in
    let i = c.loop-tok.tok-index in
    let t = c.tok-item.result in
    let fault = c.in_err-kind.field-0.0 in
    let cut : drop i toks ≡ t ∷ drop (i + 1) toks = drop_more toks i t c.loop-tok-test.true ∙ ap (λ x. x ∷ drop (i + 1) toks) (sym c.tok-item.is) in
    let e : c.from_residual.result ≡ Err fault = search rules in
    subst (Answers (c_tokens toks)) (sym e)
    (λ known. sym c.loop-tok.invariant ∙ ap (λ l. on_ok (with_tokens c.loop-tok.tokens) (tokens_of l)) cut ∙ fails c.loop-tok.tokens t (drop (i + 1) toks) fault (c.in_err-kind.ensures known))

pub loop-tok-preserved : goal.loop-tok-preserved
loop-tok-preserved c =
    let toks = c.args.toks.now in
    let i = c.loop-tok.tok-index in
    let t = c.tok-item.result in
    let cut : drop i toks ≡ t ∷ drop (i + 1) toks = drop_more toks i t c.loop-tok-test.true ∙ ap (λ x. x ∷ drop (i + 1) toks) (sym c.tok-item.is) in
    ap (λ l. on_ok (with_tokens l) (tokens_of (drop (i + 1) toks))) c.in_ok-add.ensures
    ∙ sym (ap (λ l. on_ok (with_tokens c.loop-tok.tokens) (tokens_of l)) cut ∙ goes c.loop-tok.tokens t (drop (i + 1) toks) c.in_ok-kind.kind c.in_ok-kind.ensures) ∙ c.loop-tok.invariant

pub returns : goal.returns
returns c =
    let toks = c.args.toks.now in
    sym c.loop-tok.invariant ∙ ap (λ l. on_ok (with_tokens c.loop-tok.tokens) (tokens_of l)) (drop_all c.loop-tok.tok-index toks (omega (arith, c.loop-tok-test.false))) ∙ ends c.loop-tok.tokens
