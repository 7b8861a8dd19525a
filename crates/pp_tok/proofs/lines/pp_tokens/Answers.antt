use Rattle.std.proofs.Common.{subst}
use Rattle.pp_tok.specs.Chars.{chars_from}
use Rattle.pp_tok.specs.Lines.{AreRead, tokens_of, lines_of}
use Rattle.pp_tok.proofs.Behind.{from_start}
use Rattle.pp_tok.proofs.lines.pp_tokens.Goals as goal

pub returns : goal.returns
unfolding tokens_of lines_of
returns c =
    let cs = chars_from 1 c.args.bytes.now in
    subst (AreRead c.read_tokens.result) (from_start c.args.file cs c.first_line.result c.first_line.ensures.at c.first_line.ensures.number c.first_line.ensures.state) (c.read_tokens.ensures cs c.in_ok-chars.ensures)
