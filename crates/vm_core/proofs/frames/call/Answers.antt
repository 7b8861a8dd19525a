use Rattle.std.proofs.Common.{◌≡◌, ◌∙◌, ap, sym, subst, length, ℕ}
use Rattle.masked_mem.specs.Memory.{IsSize}
use Rattle.masked_mem.proofs.Lengths.{length-store4}
use Rattle.vm_core.proofs.frames.call.Goals as goal

pub returns-clause-size : goal.returns-clause-size
returns-clause-size c = ap length c.store4.ensures ∙ length-store4 c.args.block.now _ _ c.requires.size

pub returns-then-t-count-clause-size : goal.returns-then-t-count-clause-size
returns-then-t-count-clause-size c = ap length c.store4.ensures ∙ length-store4 c.args.block.now _ _ c.requires.size

pub returns-then-t-ge-FIRST_NEGATIVE-clause-size : goal.returns-then-t-ge-FIRST_NEGATIVE-clause-size
returns-then-t-ge-FIRST_NEGATIVE-clause-size c =
    let first : length c.store4.new.self ≡ length c.args.block.now = ap length c.store4.ensures ∙ length-store4 c.args.block.now _ _ c.requires.size in
    ap length c.store4-then-t-ge-FIRST_NEGATIVE.ensures ∙ length-store4 c.store4.new.self _ _ (subst (λ (n : ℕ). IsSize n) (sym first) c.requires.size) ∙ first
