-- The bytes that a call lends: those of its texts, since absent ones are empty.
use Rattle.std.proofs.Common.{◌≡◌, ℕ, ◌+◌, List, [], ◌∷◌, length, take, Option, Some, None, sym, ap, ◌∙◌, arith}
use Rattle.std.specs.Option.{IsSomeAnd}
use Rattle.std.specs.List.{filter, sum_by}
use Rattle.std.proofs.lemmas.List.Sums.{length-filter}
use Rattle.qv_outside.specs.Event.{text_bytes}
use Rattle.qv_outside.specs.Signature.{is_input}
use Rattle.qv_outside.specs.Hosts.{HasShape, AreInputs, event_of, kinds_of}
use Rattle.qv_outside.specs.declared.signature.Kind.{Kind}
use Rattle.qv_outside.specs.declared.signature.Sig.{Sig}
use Rattle.qv_outside.specs.declared.host.TrapCall.{TrapCall}

inputs_bytes : (kinds : List Kind) (ints : List ℕ) (wanted : List Kind) (a b : List ℕ) → AreInputs kinds ints wanted (a ∷ b ∷ []) → sum_by (length {A = ℕ}) (take (length wanted) (a ∷ b ∷ [])) ≡ length a + length b
inputs_bytes kinds ints [] a b h = omega (arith, ap length h.0, ap length h.1.0)
inputs_bytes kinds ints (k ∷ []) a b h = omega (arith, ap length h.1.0)
inputs_bytes kinds ints (k ∷ l ∷ []) a b h = omega arith
inputs_bytes kinds ints (k ∷ l ∷ m ∷ wanted) a b h = absurd h.1.1

pub bytes_lent : (c : TrapCall) (sig : Option Sig) → IsSomeAnd sig (HasShape c) → text_bytes (event_of c ∷ []) ≡ length c.first.now + length c.second.now
bytes_lent c None h = absurd h
bytes_lent c (Some s) h =
    let wanted = filter is_input (kinds_of s) in
    let n : c.input_count ≡ length wanted = h.input_count ∙ sym (length-filter is_input (kinds_of s)) in
    let e : sum_by (length {A = ℕ}) (take c.input_count (c.first.now ∷ c.second.now ∷ [])) ≡ length c.first.now + length c.second.now = ap (λ m. sum_by (length {A = ℕ}) (take m (c.first.now ∷ c.second.now ∷ []))) n ∙ inputs_bytes (kinds_of s) c.ints wanted c.first.now c.second.now h.inputs in
    omega (arith, e)
