-- The one token of bytes that aren't empty.
use Rattle.std.proofs.Common.{◌≡◌, ℕ, ◌<◌, List, [], ◌∷◌, length, drop, refl, arith}
use Rattle.std.specs.Prelude.{None, option_and_then, slice_index, if◌then◌else◌, ◌==◌}
use Rattle.pp_tok.specs.declared.piece.LineState.TheVariants.{Other}
use Rattle.pp_tok.specs.Pieces.{piece_at}
use Rattle.pp_tok.specs.Sole.{kind_of, sole_kind_of}

pub sole_kind_of_first : (bytes : List ℕ) → 0 < length bytes →
    sole_kind_of bytes ≡ option_and_then (λ p. if p.length == length bytes then kind_of p.what else None) (piece_at Other (slice_index bytes 0) (drop 1 bytes))
unfolding sole_kind_of
sole_kind_of_first [] lt = absurd (omega arith)
sole_kind_of_first (b ∷ bs) lt = refl
