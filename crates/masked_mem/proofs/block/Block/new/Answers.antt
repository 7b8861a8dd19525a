use Rattle.std.proofs.Common.{◌∙◌, ap, arith, length, sym}
use Rattle.std.proofs.lemmas.List.{length-replicate}
use Rattle.masked_mem.proofs.Sizes.{shift-is_size}
use Rattle.masked_mem.proofs.block.Block.new.Goals as goal

pub new-requires : goal.new-requires
new-requires c = shift-is_size c.args.log2 c.requires.low c.requires.high

pub invariant_of-result : goal.invariant_of-result
invariant_of-result c =
    let told = c.in-Some.ensures in
    let size = shift-is_size c.args.log2 c.requires.low c.requires.high in
    (size, sym (ap length told.0 ∙ length-replicate _ 0), omega (arith, size.low), told.1, told.2, told.3)
