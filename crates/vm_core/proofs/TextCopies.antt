-- A text that is copied, with zeros behind it.
use Rattle.std.proofs.Common.{◌≡◌, ℕ, ◌+◌, ◌-◌, ◌<◌, ◌≤◌, Bool, true, false, List, ◌++◌, length, take, drop, replicate, Option, Some, None, refl, sym, ap, ◌∙◌, arith, length-append, length-take, length-drop}
use Rattle.std.specs.Prelude.{nat_le, if◌then◌else◌, ◌==◌, position}
use Rattle.std.proofs.lemmas.Bool.Decides.{nat_tests}
use Rattle.std.proofs.lemmas.List.{append_assoc, drop-drop, length-replicate, length-take-le}
use Rattle.std.proofs.lemmas.List.Quantifiers.{position-Some}
use Rattle.std.proofs.lemmas.Option.{none-some, same_Some}
use Rattle.std.proofs.Math.Seq.{drop-append-add, take-append_seam}
use Rattle.masked_mem.specs.Memory.{bytes_at, put_at, filled_at, copied_at}
use Rattle.trap_sig.specs.Gather.{text_within, bounded}
use Rattle.vm_core.specs.State.{State, Goes, Stops}
use Rattle.vm_core.specs.Traps.{argument_of, padded, replied, text_moved, text_put}
use Rattle.vm_core.specs.declared.stop.Stop.TheVariants.{TrapRange}

-- the bytes are so many at the place, and lie within the memory
pub record StandsAt (memory : List ℕ) (at len : ℕ) (text : List ℕ) : Type 0 where
  pub is : text ≡ bytes_at memory at (length text)
  pub short : length text ≤ len
  pub within : at + length text ≤ length memory

stands : (memory : List ℕ) (at len n : ℕ) (text : List ℕ) → n ≤ len → at + n ≤ length memory → bytes_at memory at n ≡ text → StandsAt memory at len text
stands memory at len n text short within is =
    let many : n ≤ length (drop at memory) = omega (arith, within, length-drop at memory) in
    let count : length text ≡ n = ap length (sym is) ∙ length-take-le n (drop at memory) many in
    record { is = sym is ∙ ap (λ k. bytes_at memory at k) (sym count); short = omega (arith, count, short); within = omega (arith, count, within) }

range_stands : (memory : List ℕ) (at len : ℕ) (text : List ℕ) (b : Bool) → nat_le (at + len) (length memory) ≡ b → (if b then Some (bytes_at memory at len) else None) ≡ Some text → StandsAt memory at len text
range_stands memory at len text true fits is = stands memory at len len text (omega arith) (grind (arith, nat_tests, fits)) (same_Some (bytes_at memory at len) text is)
range_stands memory at len text false fits is = absurd (none-some text is)

bounded_stands : (memory : List ℕ) (at len : ℕ) (text : List ℕ) (found : Option ℕ) → position (λ b. b == 0) (bytes_at memory at len) ≡ found → bounded memory at len found ≡ Some text → StandsAt memory at len text
bounded_stands memory at len text (Some n) e is =
    let zero : ℕ = 0 in
    let here : n < length (bytes_at memory at len) = (position-Some (λ b. b == 0) (bytes_at memory at len) n zero e).0 in
    let size = length-take len (drop at memory) in
    let rest = length-drop at memory in
    stands memory at len n text (omega (arith, here, size, rest)) (omega (arith, here, size, rest)) (same_Some (bytes_at memory at n) text is)
bounded_stands memory at len text None e is = range_stands memory at len text (nat_le (at + len) (length memory)) refl is

pub text_stands : (memory : List ℕ) (at len : ℕ) (text : List ℕ) → text_within memory at len ≡ Some text → StandsAt memory at len text
text_stands memory at len text is = bounded_stands memory at len text (position (λ b. b == 0) (bytes_at memory at len)) refl is

-- it is copied, and the rest filled
pub text_copied : (memory : List ℕ) (to from len : ℕ) (text : List ℕ) → StandsAt memory from len text → to + len ≤ length memory →
    filled_at (copied_at memory to from (length text)) (to + length text) (len - length text) 0 ≡ put_at memory to (padded text len)
text_copied memory to from len text s fits =
    let n : ℕ = length text in
    let front : List ℕ = take to memory in
    let short : n ≤ len = s.short in
    let front_len : length front ≡ to = length-take-le to memory (omega (arith, fits)) in
    let both_len : length (front ++ text) ≡ to + n = omega (arith, front_len, length-append front text) in
    let copied : copied_at memory to from n ≡ (front ++ text) ++ drop (to + n) memory = ap (λ t. front ++ t ++ drop (to + n) memory) (sym s.is) in
    let kept : take (to + n) (front ++ text ++ drop (to + n) memory) ≡ front ++ text = ap (λ k. take k (front ++ text ++ drop (to + n) memory)) (sym both_len) ∙ take-append_seam (front ++ text) (drop (to + n) memory) in
    let rest_at : to + n + (len - n) ≡ length (front ++ text) + (len - n) = omega (arith, both_len) in
    let behind : drop (to + n + (len - n)) (front ++ text ++ drop (to + n) memory) ≡ drop (len - n) (drop (to + n) memory) =
    ap (λ k. drop k (front ++ text ++ drop (to + n) memory)) rest_at ∙ drop-append-add (front ++ text) (drop (to + n) memory) (len - n) in
    let zero_byte : ℕ = 0 in
    let padded_len : length (padded text len) ≡ len = omega (arith, length-append text (replicate (len - n) 0), length-replicate (len - n) zero_byte, short) in
    let end : to + n + (len - n) ≡ to + length (padded text len) = omega (arith, padded_len, short) in
    let dropped : drop (len - n) (drop (to + n) memory) ≡ drop (to + length (padded text len)) memory = drop-drop (len - n) (to + n) memory ∙ ap (λ k. drop k memory) end in
    ap (λ m. filled_at m (to + n) (len - n) 0) copied
    ∙ ap (λ xs. xs ++ replicate (len - n) 0 ++ drop (to + n + (len - n)) (front ++ text ++ drop (to + n) memory)) kept
    ∙ ap (λ ys. front ++ text ++ replicate (len - n) 0 ++ ys) (behind ∙ dropped)
    ∙ ap (λ xs. xs ++ drop (to + length (padded text len)) memory) (append_assoc front text (replicate (len - n) 0))

-- so trap 102 has acted
pub text_moved_is : (s : State) (to from len : ℕ) (text memory : List ℕ) → to ≡ argument_of s 0 → from ≡ argument_of s 1 → len ≡ argument_of s 2 → nat_le (to + len) (length s.memory) ≡ true → text_within s.memory from len ≡ Some text →
    memory ≡ filled_at (copied_at s.memory to from (length text)) (to + length text) (len - length text) 0 → text_moved s (argument_of s 0) (argument_of s 1) (argument_of s 2) ≡ Goes (replied s memory to)
text_moved_is s to from len text memory to_is from_is len_is fits found is =
    let within : to + len ≤ length s.memory = grind (arith, nat_tests, fits) in
    ap (λ t. text_moved s t (argument_of s 1) (argument_of s 2)) (sym to_is) ∙ ap (λ f. text_moved s to f (argument_of s 2)) (sym from_is) ∙ ap (λ n. text_moved s to from n) (sym len_is)
    ∙ ap (λ (b : Bool). if b then text_put s to len (text_within s.memory from len) else Stops (TrapRange 102 0) s) fits
    ∙ ap (λ t. text_put s to len t) found
    ∙ ap (λ m. Goes (replied s m to)) (sym (is ∙ text_copied s.memory to from len text (text_stands s.memory from len text found) within))
