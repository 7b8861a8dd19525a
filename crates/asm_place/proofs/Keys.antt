-- Keys of names.
use Rattle.std.proofs.Common.{◌≡◌, ℕ, Bool, true, false, ◌&&◌, ◌||◌, List, Option, Some, None, refl, sym, ap, ◌∙◌, arith}
use Rattle.std.specs.Prelude.{not, ◌==◌, if◌then◌else◌}
use Rattle.std.specs.Cmp.{IsTotalOrder}
use Rattle.std.specs.Cmp.Lexicographic.{options_total, slice_cmp}
use Rattle.std.specs.Option.{option_cmp, option_eq}
use Rattle.std.specs.Ordering.{eq_by_cmp, is_eq, nat_cmp, ordering_then}
use Rattle.std.specs.Str.{bytes_eq}
use Rattle.std.specs.declared.cmp.Ordering.{Ordering}
use Rattle.std.specs.declared.cmp.Ordering.TheVariants.{Less, Equal, Greater}
use Rattle.std.proofs.Math.Bool.{and-true}
use Rattle.std.proofs.lemmas.Bool.Decides.{nat_tests}
use Rattle.std.proofs.lemmas.Cmp.{nat_cmp_total, nat_list_cmp_total, on_total, then_total}
use Rattle.std.proofs.lemmas.Map.Lookups.{CmpEqualImpliesEq, exact_bytes, exact_pairs, exact_unsigned}
use Rattle.std.proofs.lemmas.Map.Text.{is_eq-slice_cmp}
use Rattle.std.proofs.lemmas.Slice.Eq.{bytes_eq-Decides}
use Rattle.asm_place.specs.Symbols.{Key, is_local, key_of, key_order, owner, same_name}

pub keys_total : IsTotalOrder key_order
keys_total = then_total (on_total (λ k. k.0) (options_total nat_cmp_total)) (on_total (λ k. k.1) nat_list_cmp_total)

exact_options : CmpEqualImpliesEq (option_cmp nat_cmp)
exact_options None None h = refl
exact_options None (Some b) h = cc
exact_options (Some a) None h = cc
exact_options (Some a) (Some b) h = ap (λ n. Some n) (exact_unsigned a b h)

-- keys that compare alike are one
pub exact_keys : CmpEqualImpliesEq key_order
exact_keys = exact_pairs (option_cmp nat_cmp) (slice_cmp nat_cmp) exact_options exact_bytes

is_eq-then : (r s : Ordering) → is_eq (ordering_then r s) ≡ (is_eq r && is_eq s)
is_eq-then Less s = refl
is_eq-then Equal s = refl
is_eq-then Greater s = refl

same_number : (a b : ℕ) → is_eq (nat_cmp a b) ≡ (a == b)
same_number a b = grind (arith, nat_tests)

same_owner : (a b : Option ℕ) → is_eq (option_cmp nat_cmp a b) ≡ option_eq (λ a b. a == b) a b
same_owner None None = refl
same_owner None (Some b) = refl
same_owner (Some a) None = refl
same_owner (Some a) (Some b) = same_number a b

-- keys are one where their files and their names are
pub same_key : (a b : Key) → eq_by_cmp key_order a b ≡ (option_eq (λ a b. a == b) a.0 b.0 && bytes_eq a.1 b.1)
same_key a b =
    is_eq-then (option_cmp nat_cmp a.0 b.0) (slice_cmp nat_cmp a.1 b.1)
    ∙ ap (λ t. t && is_eq (slice_cmp nat_cmp a.1 b.1)) (same_owner a.0 b.0)
    ∙ ap (λ t. option_eq (λ a b. a == b) a.0 b.0 && t) (is_eq-slice_cmp a.1 b.1)

pub equal_is : (r : Ordering) → is_eq r ≡ true → r ≡ Equal
equal_is Less h = cc
equal_is Equal h = refl
equal_is Greater h = cc

-- two names are one where their keys are

no_bytes : (b : Bool) → (b && false) ≡ false
no_bytes true = refl
no_bytes false = refl

-- names of the same bytes
one_owner : (local : Bool) (file other_file : ℕ) → (option_eq (λ a b. a == b) (if local then Some file else None) (if local then Some other_file else None) && true) ≡ (not local || file == other_file)
one_owner true file other_file = and-true (file == other_file)
one_owner false file other_file = refl

by_bytes : (b : Bool) (file : ℕ) (name : List ℕ) (other_file : ℕ) (other : List ℕ) → bytes_eq name other ≡ b → (option_eq (λ a b. a == b) (owner file name) (owner other_file other) && b) ≡ (b && (not (is_local name) || file == other_file))
by_bytes false file name other_file other h = no_bytes (option_eq (λ a b. a == b) (owner file name) (owner other_file other))
by_bytes true file name other_file other h =
    let same : name ≡ other = (bytes_eq-Decides name other).0 h in
    ap (λ n. option_eq (λ a b. a == b) (owner file name) (owner other_file n) && true) (sym same) ∙ one_owner (is_local name) file other_file

pub same_key-name : (file : ℕ) (name : List ℕ) (other_file : ℕ) (other : List ℕ) → eq_by_cmp key_order (key_of file name) (key_of other_file other) ≡ same_name file name other_file other
same_key-name file name other_file other = same_key (key_of file name) (key_of other_file other) ∙ by_bytes (bytes_eq name other) file name other_file other refl
