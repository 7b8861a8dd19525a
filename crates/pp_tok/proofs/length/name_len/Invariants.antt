use Rattle.std.proofs.Common.{◌≡◌, ◌+◌, drop}
use Rattle.pp_tok.specs.Lengths.{name_length}
use Rattle.pp_tok.proofs.length.name_len.Given as goal

abbrev pub invariant-loop-i : goal.invariant-loop-i
invariant-loop-i l = l.i + name_length (drop l.i l.text) ≡ name_length l.text
