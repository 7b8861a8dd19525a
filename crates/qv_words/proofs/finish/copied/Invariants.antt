use Rattle.std.proofs.Common.{◌≡◌, take, map, length}
use Rattle.std.specs.Prelude.{string_bytes}
use Rattle.qv_words.proofs.finish.copied.Given as goal

abbrev pub invariant-loop-name : goal.invariant-loop-name
invariant-loop-name l = record {
  names : map string_bytes l.copies.items ≡ map string_bytes (take l.name-index l.names);
  len : length l.copies.items ≡ l.name-index;
}
