use Rattle.std.proofs.Common.{map, drop}
use Rattle.pp_tok.specs.CharVectors.{Leaves}
use Rattle.pp_tok.specs.Lines.{char_of_text}
use Rattle.pp_tok.proofs.chars.text_chars.Given as goal

abbrev pub invariant-loop-byte : goal.invariant-loop-byte
invariant-loop-byte l = Leaves l.chars (map char_of_text (drop l.byte-index l.text)) (map char_of_text l.text)
