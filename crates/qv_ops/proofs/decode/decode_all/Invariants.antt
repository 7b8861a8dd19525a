use Rattle.std.proofs.Common.{◌≡◌, ◌+◌, ◌-◌, IsTrue, length}
use Rattle.std.specs.List.{list_all}
use Rattle.qv_ops.specs.Code.{code_bytes, is_encodable, stays_within}
use Rattle.qv_ops.specs.Cut.{cut_code, cut_from, with_all}
use Rattle.qv_ops.proofs.decode.decode_all.Given as goal

abbrev pub invariant-loop-at : goal.invariant-loop-at
invariant-loop-at l = record {
  cut : with_all l.instrs.items (cut_from l.count l.at (l.count - l.at) l.rest) ≡ cut_code l.count l.code;
  counted : length l.instrs.items ≡ l.at;
  encodable : IsTrue (list_all is_encodable l.instrs.items);
  within : IsTrue (list_all (stays_within l.count) l.instrs.items);
  lengths : length (code_bytes l.instrs.items) + length l.rest ≡ length l.code;
}
