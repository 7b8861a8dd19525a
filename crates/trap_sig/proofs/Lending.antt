-- The bytes that arguments lend, gathered one after another.
use Rattle.std.proofs.Common.{◌≡◌, ℕ, ◌+◌, ◌<◌, ◌≤◌, Bool, true, false, cond, not, List, [], ◌∷◌, ◌++◌, length, drop, get_or, map, Some, None, refl, sym, ap, ◌∙◌, arith, below_more}
use Rattle.std.specs.Prelude.{count_by}
use Rattle.std.specs.Option.{unwrap_or, is_some}
use Rattle.std.specs.List.{zip, filter}
use Rattle.std.proofs.lemmas.List.{append_assoc, length-append, length-map, append-nil, at_drop_all}
use Rattle.std.proofs.lemmas.List.Sums.{length-filter}
use Rattle.std.proofs.lemmas.Slice.Zip.{length-zip}
use Rattle.qv_outside.specs.declared.signature.Kind.{Kind}
use Rattle.qv_outside.specs.declared.signature.Kind.TheVariants.{Int}
use Rattle.qv_outside.specs.Signature.{is_input}
use Rattle.trap_sig.specs.Gather.{inputs_of, reached, leaves, leaving}
use Rattle.trap_sig.proofs.First.{position_here, position_nowhere}
use Rattle.trap_sig.proofs.Args.{arg_is, arg_at, count_zip}

-- the first i arguments stay within the memory, and their bytes have been gathered
pub record Lending (memory : List ℕ) (kinds : List Kind) (words : List ℕ) (texts : List (List ℕ)) (i : ℕ) : Type 0 where
  pub inside : (k : ℕ) → k < i → leaves memory words (get_or (zip kinds words) k (Int, 0)) ≡ false
  pub gathered : texts ++ inputs_of memory words (drop i (zip kinds words)) ≡ inputs_of memory words (zip kinds words)

module _ (memory : List ℕ) (kinds : List Kind) (words : List ℕ) (same : length words ≡ length kinds) where
  inputs_at : (i : ℕ) (b : Bool) → i < length kinds → is_input (get_or kinds i Int) ≡ b → inputs_of memory words (drop i (zip kinds words)) ≡ map (λ (a : Kind × ℕ). unwrap_or (reached memory words a.0 a.1) []) (cond b ((get_or kinds i Int, get_or words i 0) ∷ filter (λ (a : Kind × ℕ). is_input a.0) (drop (i + 1) (zip kinds words))) (filter (λ (a : Kind × ℕ). is_input a.0) (drop (i + 1) (zip kinds words))))
  inputs_at i b lt e =
      let rest = filter (λ (a : Kind × ℕ). is_input a.0) (drop (i + 1) (zip kinds words)) in
      ap (inputs_of memory words) (arg_at kinds words i lt same) ∙ ap (λ t. map (λ (a : Kind × ℕ). unwrap_or (reached memory words a.0 a.1) []) (cond t ((get_or kinds i Int, get_or words i 0) ∷ rest) rest)) e

  -- as many as there are arguments that lend
  pub length_inputs : length (inputs_of memory words (zip kinds words)) ≡ count_by is_input kinds
  length_inputs = length-map _ _ ∙ length-filter (λ (a : Kind × ℕ). is_input a.0) (zip kinds words) ∙ count_zip is_input kinds words same

  -- one more argument that lends has its place
  pub has_room : (texts : List (List ℕ)) (i : ℕ) → i < length kinds → count_by is_input kinds ≤ 2 → Lending memory kinds words texts i → is_input (get_or kinds i Int) ≡ true → length texts < 2
  has_room texts i lt two l is =
      let e = ap length (ap (λ (x : List (List ℕ)). texts ++ x) (sym (inputs_at i true lt is)) ∙ l.gathered) ∙ length_inputs in
      omega (arith, e, length-append texts (map (λ (a : Kind × ℕ). unwrap_or (reached memory words a.0 a.1) []) ((get_or kinds i Int, get_or words i 0) ∷ filter (λ (a : Kind × ℕ). is_input a.0) (drop (i + 1) (zip kinds words)))))

  gathers : (texts : List (List ℕ)) (i : ℕ) (bytes : List ℕ) (b : Bool) → i < length kinds → is_input (get_or kinds i Int) ≡ b → unwrap_or (reached memory words (get_or kinds i Int) (get_or words i 0)) [] ≡ bytes → texts ++ inputs_of memory words (drop i (zip kinds words)) ≡ inputs_of memory words (zip kinds words) → cond b (texts ++ bytes ∷ []) texts ++ inputs_of memory words (drop (i + 1) (zip kinds words)) ≡ inputs_of memory words (zip kinds words)
  gathers texts i bytes true lt is got h =
      let rest = inputs_of memory words (drop (i + 1) (zip kinds words)) in
      append_assoc texts (bytes ∷ []) rest ∙ ap (λ (x : List ℕ). texts ++ x ∷ rest) (sym got) ∙ ap (λ (x : List (List ℕ)). texts ++ x) (sym (inputs_at i true lt is)) ∙ h
  gathers texts i bytes false lt is got h = ap (λ (x : List (List ℕ)). texts ++ x) (sym (inputs_at i false lt is)) ∙ h

  -- an argument that stays within the memory
  pub lends : (texts next : List (List ℕ)) (i : ℕ) (bytes : List ℕ) → i < length kinds → Some bytes ≡ reached memory words (get_or kinds i Int) (get_or words i 0) → next ≡ cond (is_input (get_or kinds i Int)) (texts ++ bytes ∷ []) texts → Lending memory kinds words texts i → Lending memory kinds words next (i + 1)
  lends texts next i bytes lt got is l = record {
    inside = below_more _ _ l.inside (ap (leaves memory words) (arg_is kinds words i lt same) ∙ ap (λ r. not (is_some r)) (sym got));
    gathered = ap (λ (x : List (List ℕ)). x ++ inputs_of memory words (drop (i + 1) (zip kinds words))) is ∙ gathers texts i bytes (is_input (get_or kinds i Int)) lt refl (ap (λ r. unwrap_or r []) (sym got)) l.gathered;
  }

  -- the first that leaves it
  pub left_at : (texts : List (List ℕ)) (i : ℕ) → i < length kinds → None ≡ reached memory words (get_or kinds i Int) (get_or words i 0) → Lending memory kinds words texts i → leaving memory kinds words ≡ Some i
  left_at texts i lt got l =
      position_here (leaves memory words) (zip kinds words) i (Int, 0) (omega (arith, length-zip kinds words)) l.inside (ap (leaves memory words) (arg_is kinds words i lt same) ∙ ap (λ r. not (is_some r)) (sym got))

  -- all stay within it
  pub none_left : (texts : List (List ℕ)) (i : ℕ) → length kinds ≤ i → Lending memory kinds words texts i → leaving memory kinds words ≡ None
  none_left texts i le l = position_nowhere (leaves memory words) (zip kinds words) (Int, 0) (λ k lt. l.inside k (omega (arith, lt, length-zip kinds words)))

  pub all_lent : (texts : List (List ℕ)) (i : ℕ) → length kinds ≤ i → Lending memory kinds words texts i → texts ≡ inputs_of memory words (zip kinds words)
  all_lent texts i le l = sym (append-nil texts) ∙ ap (λ (x : List (List ℕ)). texts ++ x) (sym (at_drop_all (inputs_of memory words) (zip kinds words) i (omega (arith, length-zip kinds words)))) ∙ l.gathered
