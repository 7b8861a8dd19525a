use Rattle.std.proofs.Common.{◌≡◌, ◌++◌, take}
use Rattle.std.specs.Prelude.{IsTrue}
use Rattle.std.specs.List.{flat_map, list_all}
use Rattle.qasm_write.specs.Unit.{constant_fits}
use Rattle.qcc_front.specs.Translation.{signed_lines}
use Rattle.qcc_front.proofs.translate.put_signed.Given as goal

abbrev pub invariant-loop-signed : goal.invariant-loop-signed
invariant-loop-signed l = record {
  lines : l.lines.items ≡ l.initial.lines.items ++ flat_map signed_lines (take l.signed-index l.terms);
  constants : IsTrue (list_all constant_fits l.lines.items);
}
