use Rattle.std.proofs.Common.{◌≡◌, ◌-◌, ◌+◌, ◌*◌, ◌^◌}
use Rattle.vm_core.specs.Memory.{block_size, doubled}
use Rattle.vm_core.proofs.fresh.log2_for.Given as goal

abbrev pub invariant-loop : goal.invariant-loop
invariant-loop l = record {
  power : l.size * 2 ^ (20 - l.counter) ≡ 2 ^ 26;
  exponent : l.log2 ≡ 6 + l.counter;
  two : l.size ≡ 2 ^ l.log2;
  rest : doubled (20 - l.counter) l.size l.need ≡ block_size l.need;
}
