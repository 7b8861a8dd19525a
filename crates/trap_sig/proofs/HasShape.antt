-- A call that was gathered has the shape of its signature.
use Rattle.std.proofs.Common.{◌≡◌, ℕ, ◌-◌, ◌≤◌, true, List, [], ◌∷◌, ◌++◌, length, take, drop, replicate, None, sym, ap, ◌∙◌, subst}
use Rattle.std.specs.Prelude.{count_by, nat_le, ◌&&◌}
use Rattle.std.specs.List.{zip, filter, list_all}
use Rattle.std.proofs.lemmas.Bool.{and_parts}
use Rattle.qv_outside.specs.declared.signature.Kind.{Kind}
use Rattle.qv_outside.specs.declared.signature.Sig.{Sig}
use Rattle.qv_outside.specs.declared.host.TrapCall.{TrapCall}
use Rattle.qv_outside.specs.Signature.{fits, is_int, is_input, is_output, length_is_int}
use Rattle.qv_outside.specs.Hosts.{HasShape, kinds_of, AreInputs, asked_len}
use Rattle.trap_sig.specs.Gather.{leaving, ints_of, inputs_of, output_of, length_asked}
use Rattle.trap_sig.specs.Inputs.{with_absent}
use Rattle.trap_sig.proofs.Lending.{length_inputs}
use Rattle.trap_sig.proofs.Shape.{all_stay, length_found, inputs_fit, length_fits, int_count}

pub lengths_are_ints : (kinds : List Kind) → fits kinds ≡ true → list_all (length_is_int kinds) kinds ≡ true
lengths_are_ints kinds h =
    let front = (and_parts (nat_le (length kinds) 14 && list_all (length_is_int kinds) kinds && nat_le (count_by is_input kinds) 2) (nat_le (count_by is_output kinds) 1) h).0 in
    let middle = (and_parts (nat_le (length kinds) 14 && list_all (length_is_int kinds) kinds) (nat_le (count_by is_input kinds) 2) front).0 in
    (and_parts (nat_le (length kinds) 14) (list_all (length_is_int kinds) kinds) middle).1

-- the parts of a call hold what its arguments say
pub record Holds (c : TrapCall) (memory : List ℕ) (kinds : List Kind) (words : List ℕ) (texts : List (List ℕ)) : Type 0 where
  pub taken : take c.int_count c.ints ≡ ints_of (zip kinds words)
  pub zeros : drop c.int_count c.ints ≡ replicate (14 - c.int_count) 0
  pub long : c.int_count ≤ length c.ints
  pub gathered : texts ≡ inputs_of memory words (zip kinds words)
  pub lent : c.first.now ∷ c.second.now ∷ [] ≡ with_absent texts
  pub count : c.input_count ≡ length texts
  pub asked : c.out_len ≡ length_asked words (output_of (zip kinds words))

-- the shape of a signature of these kinds
record ShapeBy (c : TrapCall) (kinds : List Kind) : Type 0 where
  int_count : c.int_count ≡ count_by is_int kinds
  padding : drop c.int_count c.ints ≡ replicate (14 - c.int_count) 0
  input_count : c.input_count ≡ count_by is_input kinds
  inputs : AreInputs kinds c.ints (filter is_input kinds) (c.first.now ∷ c.second.now ∷ [])
  out_len : c.out_len ≡ asked_len kinds c.ints kinds

shape_by : (c : TrapCall) (memory : List ℕ) (kinds : List Kind) (words : List ℕ) (texts : List (List ℕ)) → fits kinds ≡ true → length words ≡ length kinds → leaving memory kinds words ≡ None → Holds c memory kinds words texts → ShapeBy c kinds
shape_by c memory kinds words texts fit same none h =
    let lengths = lengths_are_ints kinds fit in
    let found = length_found kinds words c.ints c.int_count same h.taken in
    let P : List (List ℕ) → Type 0 = λ x. AreInputs kinds c.ints (filter is_input kinds) x in
    let lent : inputs_of memory words (zip kinds words) ++ replicate (2 - length texts) [] ≡ c.first.now ∷ c.second.now ∷ [] = ap (λ (x : List (List ℕ)). x ++ replicate (2 - length texts) []) (sym h.gathered) ∙ sym h.lent in
    record {
      int_count = int_count kinds words c.ints c.int_count same h.taken h.long;
      padding = h.zeros;
      input_count = h.count ∙ ap length h.gathered ∙ length_inputs memory kinds words same;
      inputs = subst P lent (inputs_fit kinds memory words c.ints found kinds words (2 - length texts) lengths same (all_stay memory kinds words none));
      out_len = h.asked ∙ length_fits kinds memory words c.ints found kinds words lengths same;
    }

pub has_shape : (c : TrapCall) (memory : List ℕ) (kinds : List Kind) (words : List ℕ) (texts : List (List ℕ)) → fits kinds ≡ true → length words ≡ length kinds → leaving memory kinds words ≡ None → Holds c memory kinds words texts → (sig : Sig) → kinds_of sig ≡ kinds → HasShape c sig
has_shape c memory kinds words texts fit same none h sig e =
    let P : List Kind → Type 0 = λ ks. ShapeBy c ks in
    let s : ShapeBy c (kinds_of sig) = subst P (sym e) (shape_by c memory kinds words texts fit same none h) in
    record { int_count = s.int_count; padding = s.padding; input_count = s.input_count; inputs = s.inputs; out_len = s.out_len }
