use Rattle.std.proofs.Common.{◌≡◌, ◌+◌, drop}
use Rattle.c_tok.specs.Digits.{digits_length}
use Rattle.c_tok.proofs.digits.digits_len.Given as goal

abbrev pub invariant-loop-i : goal.invariant-loop-i
invariant-loop-i l = l.i + digits_length l.base (drop l.i l.text) ≡ digits_length l.base l.text
