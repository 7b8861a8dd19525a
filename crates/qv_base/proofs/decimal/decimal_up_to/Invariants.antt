use Rattle.std.proofs.Common.{◌≡◌, ◌≤◌, drop}
use Rattle.std.specs.List.{list_all}
use Rattle.qv_base.specs.Decimal.{is_digit, decimal_from}
use Rattle.qv_base.proofs.decimal.decimal_up_to.Given as goal

abbrev pub invariant-loop-byte : goal.invariant-loop-byte
invariant-loop-byte l = record {
  small : l.value ≤ l.max;
  digits : list_all is_digit l.text ≡ list_all is_digit (drop l.byte-index l.text);
  value : decimal_from 0 l.text ≡ decimal_from l.value (drop l.byte-index l.text);
}
