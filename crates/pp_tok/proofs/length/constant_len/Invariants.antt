use Rattle.std.proofs.Common.{◌≡◌, ◌+◌, drop, false}
use Rattle.std.specs.Prelude.{option_map}
use Rattle.pp_tok.specs.Lengths.{constant_length}
use Rattle.pp_tok.proofs.length.constant_len.Given as goal

abbrev pub invariant-loop-i : goal.invariant-loop-i
invariant-loop-i l = option_map (λ n. l.i + n) (constant_length l.quote l.escaped (drop l.i l.text)) ≡ constant_length l.quote false l.text
