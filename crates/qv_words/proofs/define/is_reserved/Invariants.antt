use Rattle.std.proofs.Common.{◌≡◌, drop, map}
use Rattle.std.specs.List.{list_any}
use Rattle.std.specs.Str.{bytes_eq}
use Rattle.qv_words.specs.Define.{reserved}
use Rattle.qv_words.proofs.define.is_reserved.Given as goal

abbrev pub invariant-loop-word : goal.invariant-loop-word
invariant-loop-word l = list_any (bytes_eq l.name) (map (λ r. r.now) (drop l.word-index l.word-items)) ≡ list_any (bytes_eq l.name) reserved
