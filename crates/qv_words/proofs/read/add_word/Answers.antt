use Rattle.std.proofs.Common.{◌<◌, ◌^◌, arith}
use Rattle.qv_words.proofs.Counting.{is_call-set, zeros_behind}
use Rattle.qv_words.proofs.read.add_word.Goals as goal

pub invariant_of-calls : goal.invariant_of-calls
invariant_of-calls c =
    let small : c.args.word < 2 ^ 32 = omega (arith, c.ranges.word) in
    record {
      at_most = c.args.calls.now.at_most;
      are_calls = c.args.calls.now.are_calls;
      within = omega (arith, c.requires);
      zeros = zeros_behind c.args.calls.now.last c.args.calls.now.count c.args.word c.args.calls.now.zeros;
      is_last = is_call-set c.args.calls.now.last c.args.calls.now.count c.args.word c.args.calls.now.is_last small;
    }
