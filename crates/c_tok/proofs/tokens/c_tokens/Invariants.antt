use Rattle.std.proofs.Common.{◌≡◌, drop}
use Rattle.c_tok.specs.Results.{on_ok}
use Rattle.c_tok.specs.Tokens.{tokens_of, c_tokens}
use Rattle.c_tok.specs.Joining.{with_tokens}
use Rattle.c_tok.proofs.tokens.c_tokens.Given as goal

abbrev pub invariant-loop-tok : goal.invariant-loop-tok
invariant-loop-tok l = on_ok (with_tokens l.tokens) (tokens_of (drop l.tok-index l.toks)) ≡ c_tokens l.toks
