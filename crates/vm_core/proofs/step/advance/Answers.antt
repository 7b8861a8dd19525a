use Rattle.std.proofs.Common.{Some, sym, ap, ◌∙◌, length}
use Rattle.std.proofs.lemmas.Option.{slice_get-get_or}
use Rattle.vm_core.specs.Machine.{step, act}
use Rattle.vm_core.specs.Module.{state_at}
use Rattle.vm_core.proofs.Goes.{step_is}
use Rattle.vm_core.proofs.Rows.{leads_along}
use Rattle.vm_core.proofs.step.advance.Goals as goal

pub returns-clause-leads : goal.returns-clause-leads
returns-clause-leads c = λ table.
    let found = c.in-Some.ensures.lookup in
    let before = state_at c.args.block.now c.args.words.now c.args.r.now in
    let here = slice_get-get_or c.args.code.now c.args.r.now.next c.in-Some.instr.now found.3.0 ∙ ap Some (sym found.1) in
    leads_along table (step c.args.code.now table before) (act table (length c.args.code.now) c.in-Some.instr.now.op c.in-Some.instr.now.operand before) (state_at c.act.new.block c.act.new.words c.act.new.r) c.act.result
    (step_is c.args.code.now table c.in-Some.instr.now before here) (c.act.ensures.leads table)
