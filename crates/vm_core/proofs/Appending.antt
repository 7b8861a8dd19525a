-- What is told over several calls.
use Rattle.std.proofs.Common.{◌≡◌, ℕ, ◌+◌, List, [], ◌++◌, length, take, min, Option, Some, None, Result, Ok, Err, sym, ap, ◌∙◌}
use Rattle.std.proofs.lemmas.List.{append_assoc, append-nil, take-append-le, take_min}
use Rattle.std.proofs.lemmas.Option.{none-some, same_Some}
use Rattle.std.proofs.Math.Nat.{min-le_right}
use Rattle.std.proofs.Math.Seq.{take-append-add}
use Rattle.qv_outside.specs.Sink.{Puts}
use Rattle.qv_outside.specs.Told.{Appends, AppendsPrefix}
use Rattle.qv_outside.specs.declared.sink.SinkFailed.{SinkFailed}

-- nothing is added where the list stays, and the other way round
pub appends_nil : {X : Type 0} (old new : Option (List X)) → new ≡ old → Appends old new []
appends_nil None new e = e
appends_nil (Some xs) new e = e ∙ ap (λ ys. Some ys) (sym (append-nil xs))

pub appends_none : {X : Type 0} (old new : Option (List X)) → Appends old new [] → new ≡ old
appends_none None new p = p
appends_none (Some xs) new p = p ∙ ap (λ ys. Some ys) (append-nil xs)

pub appends_joined : {X : Type 0} (a b c : Option (List X)) (xs ys : List X) → Appends a b xs → Appends b c ys → Appends a c (xs ++ ys)
appends_joined None None c xs ys p q = q
appends_joined None (Some b) c xs ys p q = absurd (none-some b (sym p))
appends_joined (Some a) None c xs ys p q = absurd (none-some (a ++ xs) p)
appends_joined (Some a) (Some b) c xs ys p q = q ∙ ap (λ zs. Some (zs ++ ys)) (same_Some b (a ++ xs) p) ∙ ap (λ zs. Some zs) (append_assoc a xs ys)

-- a prefix of the first is one of both, and so are the first and a prefix of the second
pub prefix_front : (a b : Option (List ℕ)) (xs ys : List ℕ) → AppendsPrefix a b xs → AppendsPrefix a b (xs ++ ys)
prefix_front None b xs ys p = p
prefix_front (Some a) b xs ys (k, p) = (min k (length xs), p ∙ ap (λ zs. Some (a ++ zs)) (sym (take-append-le (min k (length xs)) xs ys (min-le_right k (length xs)) ∙ take_min k xs)))

prefix_behind : (a b c : Option (List ℕ)) (xs ys : List ℕ) → Appends a b xs → AppendsPrefix b c ys → AppendsPrefix a c (xs ++ ys)
prefix_behind None None c xs ys p q = q
prefix_behind None (Some b) c xs ys p q = absurd (none-some b (sym p))
prefix_behind (Some a) None c xs ys p q = absurd (none-some (a ++ xs) p)
prefix_behind (Some a) (Some b) c xs ys p (k, q) = (
  length xs + k,
  q ∙ ap (λ zs. Some (zs ++ take k ys)) (same_Some b (a ++ xs) p) ∙ ap (λ zs. Some zs) (append_assoc a xs (take k ys) ∙ ap (λ zs. a ++ zs) (sym (take-append-add xs ys k))),
)

-- two puts are a put of both
pub put_both : (a b c : Option (List ℕ)) (xs ys : List ℕ) (result : Result Unit SinkFailed) → Appends a b xs → Puts b c ys result → Puts a c (xs ++ ys) result
put_both a b c xs ys (Ok _) p q = appends_joined a b c xs ys p q
put_both a b c xs ys (Err _) p q = prefix_behind a b c xs ys p q
