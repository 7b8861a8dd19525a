use Rattle.std.proofs.Common.{◌≡◌, ◌<◌, ◌^◌, drop}
use Rattle.pp_dir.specs.Constants.{number_from}
use Rattle.pp_dir.proofs.constant.number_in.Given as goal

abbrev pub invariant-loop-byte : goal.invariant-loop-byte
invariant-loop-byte l = record {
  small : l.number < 2 ^ 32;
  value : number_from l.base 0 l.text ≡ number_from l.base l.number (drop l.byte-index l.text);
}
