use Rattle.std.proofs.Common.{◌≡◌, ◌≤◌, ◌+◌, ◌-◌, ◌∙◌, true, length, ap, sym, arith}
use Rattle.std.specs.Prelude.{nat_le}
use Rattle.std.proofs.lemmas.Bool.Decides.{nat_tests}
use Rattle.masked_mem.proofs.Lengths.{length-copied_at, length-filled_at}
use Rattle.masked_mem.specs.Memory.{filled_at}
use Rattle.vm_core.specs.Served.{trap_state}
use Rattle.vm_core.proofs.TextCopies.{StandsAt, text_stands, text_moved_is}
use Rattle.vm_core.proofs.traps.copy_text.Goals as goal

pub overflow_add-to : goal.overflow_add-to
overflow_add-to c =
    let text : StandsAt c.args.block.now c.argument_of-from.result c.argument_of-len.result c.in-Some.text.now = text_stands c.args.block.now c.argument_of-from.result c.argument_of-len.result c.in-Some.text.now (sym c.in-Some.ensures) in
    let fits : c.argument_of-to.result + c.argument_of-len.result ≤ length c.args.block.now = grind (arith, nat_tests, c.fits.ensures, c.if-not-fits.false) in
    omega (arith, text.short, fits, c.requires.high)

pub returns-clause-did : goal.returns-clause-did
returns-clause-did c = λ operands next.
    let fits : nat_le (c.argument_of-to.result + c.argument_of-len.result) (length c.args.block.now) ≡ true = sym c.fits.ensures ∙ c.if-not-fits.false in
    text_moved_is (trap_state c.args.block.now c.args.program_stack operands next) c.argument_of-to.result c.argument_of-from.result c.argument_of-len.result c.in-Some.text.now c.fill.new.self c.argument_of-to.ensures c.argument_of-from.ensures c.argument_of-len.ensures fits
    (sym c.in-Some.ensures) (c.fill.ensures ∙ ap (λ m. filled_at m (c.argument_of-to.result + length c.in-Some.text.now) (c.argument_of-len.result - length c.in-Some.text.now) 0) c.copy.ensures)

pub returns-clause-size : goal.returns-clause-size
returns-clause-size c =
    let text : StandsAt c.args.block.now c.argument_of-from.result c.argument_of-len.result c.in-Some.text.now = text_stands c.args.block.now c.argument_of-from.result c.argument_of-len.result c.in-Some.text.now (sym c.in-Some.ensures) in
    let fits : c.argument_of-to.result + c.argument_of-len.result ≤ length c.args.block.now = grind (arith, nat_tests, c.fits.ensures, c.if-not-fits.false) in
    let copied : length c.copy.new.self ≡ length c.args.block.now = ap length c.copy.ensures ∙ length-copied_at c.args.block.now c.argument_of-to.result c.argument_of-from.result (length c.in-Some.text.now) (omega (arith, text.short, fits)) text.within in
    ap length c.fill.ensures ∙ length-filled_at c.copy.new.self (c.argument_of-to.result + length c.in-Some.text.now) (c.argument_of-len.result - length c.in-Some.text.now) 0 (omega (arith, text.short, fits, copied)) ∙ copied
