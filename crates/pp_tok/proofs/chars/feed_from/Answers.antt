use Rattle.std.proofs.Common.{◌≡◌, ◌-◌, ◌<◌, ℕ, List, length, drop, take, true, subst, arith}
use Rattle.std.specs.Prelude.{◌==◌, slice_index}
use Rattle.std.proofs.lemmas.List.{take_rest}
use Rattle.pp_tok.specs.CharVectors.{HasNoFeed}
use Rattle.pp_tok.proofs.Joins.{no_feed_in, feed_found}
use Rattle.pp_tok.proofs.chars.feed_from.Goals as goal

pub returns-in-Some : goal.returns-in-Some
returns-in-Some c =
    let bytes = c.args.bytes.now in
    let at = c.args.at in
    let rest = take_rest bytes at in
    let first = c.in-Some.ensures.0 in
    let i = c.in-Some.i in
    feed_found bytes at i c.requires (subst (λ r. i < length r) rest first.high)
    (subst (λ (r : List ℕ). (k : ℕ) → k < i → (slice_index r k == 10) ≡ true → ⊥) rest (λ k lt. first.before k (omega arith) lt))
    (subst (λ (r : List ℕ). (slice_index r i == 10) ≡ true) rest c.in-Some.ensures.1)

pub returns-in-None : goal.returns-in-None
returns-in-None c =
    let rest = take_rest c.args.bytes.now c.args.at in
    subst HasNoFeed rest (no_feed_in (take (length c.args.bytes.now - c.args.at) (drop c.args.at c.args.bytes.now)) (λ k lt. c.in-None.ensures k (omega arith) lt))
