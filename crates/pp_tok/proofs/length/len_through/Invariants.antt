use Rattle.std.proofs.Common.{◌≡◌, ◌+◌, drop}
use Rattle.std.specs.Prelude.{option_map}
use Rattle.pp_tok.specs.Lengths.{length_through}
use Rattle.pp_tok.proofs.length.len_through.Given as goal

abbrev pub invariant-loop-i : goal.invariant-loop-i
invariant-loop-i l = option_map (λ n. l.i + n) (length_through l.end (drop l.i l.text)) ≡ length_through l.end l.text
