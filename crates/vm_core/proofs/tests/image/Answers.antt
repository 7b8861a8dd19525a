use Rattle.std.proofs.Common.{◌≤◌, length, arith}
use Rattle.qv_image.proofs.Sizes.{length-padded_code-le}
use Rattle.vm_core.proofs.tests.image.Goals as goal

pub invariant_of-result : goal.invariant_of-result
invariant_of-result c =
    let few : length c.args.code.items ≤ 1000 = c.requires.few in
    record {
      some_code = c.requires.some;
      count_fits = omega (arith, few);
      code_fits = omega (arith, few, length-padded_code-le c.args.code.items);
      encodable = c.requires.encodable;
      branches_within = c.requires.within;
      block_fits = omega (arith, c.requires.data, c.requires.lit, c.requires.bss);
    }
