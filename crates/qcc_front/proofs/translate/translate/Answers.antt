use Rattle.std.proofs.Common.{◌∙◌, ap}
use Rattle.std.specs.List.{list_all}
use Rattle.qasm_write.specs.Unit.{constant_fits}
use Rattle.qcc_front.specs.Unit.{sum_of}
use Rattle.qcc_front.proofs.Assembling.{is_unit, assembles}
use Rattle.qcc_front.proofs.translate.translate.Goals as goal

pub write_unit-requires : goal.write_unit-requires
write_unit-requires c =
    is_unit (sum_of c.args.unit.now) c.deref.result.now (c.deref.ensures.value ∙ c.in_ok-lines.ensures.lines) (ap (list_all constant_fits) c.deref.ensures.value ∙ c.in_ok-lines.ensures.constants) c.args.unit.now.few

pub returns : goal.returns
returns c = assembles (sum_of c.args.unit.now) c.deref.result.now c.in_ok-text.text.items (c.deref.ensures.value ∙ c.in_ok-lines.ensures.lines) c.in_ok-text.ensures.links c.args.unit.now.few
