use Rattle.std.proofs.Common.{◌≡◌, ◌≤◌, drop}
use Rattle.c_tok.specs.Digits.{number_of, number_from}
use Rattle.c_tok.proofs.digits.number_up_to.Given as goal

abbrev pub invariant-loop-byte : goal.invariant-loop-byte
invariant-loop-byte l = record {
  small : l.number ≤ l.max;
  value : number_of l.base l.digits ≡ number_from l.base l.number (drop l.byte-index l.digits);
}
