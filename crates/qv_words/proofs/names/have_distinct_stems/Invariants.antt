use Rattle.std.proofs.Common.{◌≡◌, true, take, map}
use Rattle.std.specs.Prelude.{string_bytes}
use Rattle.qv_words.specs.Names.{stem_of, are_distinct}
use Rattle.qv_words.proofs.names.have_distinct_stems.Given as goal

abbrev pub invariant-loop-unit : goal.invariant-loop-unit
invariant-loop-unit l = record {
  stems : map (λ k. k.now) l.stems.keys ≡ take l.unit-index (map stem_of (map string_bytes l.units));
  distinct : are_distinct (take l.unit-index (map stem_of (map string_bytes l.units))) ≡ true;
}
