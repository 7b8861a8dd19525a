use Rattle.std.proofs.Common.{ℕ, subst}
use Rattle.vm_core.specs.Machine.{pushed}
use Rattle.vm_core.specs.Module.{state_at, operands_at, IsStep}
use Rattle.vm_core.proofs.frames.push_local.Goals as goal

pub returns : goal.returns
returns c = λ memory.
    let P : ℕ → Type 0 = λ w. IsStep (pushed (state_at memory c.args.words.now c.args.r.now) (operands_at c.args.words.now c.args.r.now) w) memory c.push.new.words c.push.new.r c.push.result in
    subst P c.add.ensures (c.push.ensures memory)
