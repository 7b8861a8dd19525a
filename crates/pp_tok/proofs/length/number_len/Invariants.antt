use Rattle.std.proofs.Common.{◌≡◌, ◌+◌, drop}
use Rattle.pp_tok.specs.Lengths.{number_length}
use Rattle.pp_tok.proofs.length.number_len.Given as goal

abbrev pub invariant-loop-i : goal.invariant-loop-i
invariant-loop-i l = l.i + number_length l.before (drop l.i l.text) ≡ number_length l.first l.text
