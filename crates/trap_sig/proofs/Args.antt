-- The kinds of arguments beside their words, one argument after another.
use Rattle.std.proofs.Common.{◌≡◌, ℕ, zero, suc, ◌+◌, ◌<◌, ◌≤◌, Bool, true, false, cond, List, [], ◌∷◌, length, get_or, drop, Some, None, refl, sym, ap, subst, ◌∙◌, arith}
use Rattle.std.specs.Prelude.{count_by}
use Rattle.std.specs.List.{zip, list_all}
use Rattle.std.proofs.lemmas.Bool.{false≢true, true_from_ne_false}
use Rattle.std.proofs.lemmas.List.{drop_more, at_drop_all}
use Rattle.std.proofs.lemmas.List.Folds.{list_all_at}
use Rattle.std.proofs.lemmas.List.Sums.{sum_by-cons}
use Rattle.std.proofs.lemmas.Slice.Zip.{length-zip, get_or-zip}
use Rattle.qv_outside.specs.declared.signature.Kind.{Kind}
use Rattle.qv_outside.specs.declared.signature.Kind.TheVariants.{Int, Text, InBytes, OutBytes}
use Rattle.qv_outside.specs.Signature.{int_at, length_is_int, is_output}
use Rattle.trap_sig.specs.Gather.{IsPlaced, output_of}

-- the argument at a place
pub arg_is : (kinds : List Kind) (words : List ℕ) (i : ℕ) → i < length kinds → length words ≡ length kinds → get_or (zip kinds words) i (Int, 0) ≡ (get_or kinds i Int, get_or words i 0)
arg_is kinds words i lt same = get_or-zip kinds words i (Int, 0) lt (omega arith)

-- and those behind it
pub arg_at : (kinds : List Kind) (words : List ℕ) (i : ℕ) → i < length kinds → length words ≡ length kinds → drop i (zip kinds words) ≡ (get_or kinds i Int, get_or words i 0) ∷ drop (i + 1) (zip kinds words)
arg_at kinds words i lt same =
    let long : i < length (zip kinds words) = omega (arith, length-zip kinds words) in
    drop_more (zip kinds words) i (Int, 0) long ∙ ap (λ (a : Kind × ℕ). a ∷ drop (i + 1) (zip kinds words)) (arg_is kinds words i lt same)

-- how many arguments have such a kind
pub count_zip : (p : Kind → Bool) (kinds : List Kind) (words : List ℕ) → length words ≡ length kinds → count_by (λ (a : Kind × ℕ). p a.0) (zip kinds words) ≡ count_by p kinds
count_zip p [] words same = refl
count_zip p (k ∷ ks) [] same = absurd (omega (arith, same))
count_zip p (k ∷ ks) (w ∷ ws) same =
    let one : Kind → ℕ = λ k. cond (p k) 1 0 in
    sum_by-cons (λ (a : Kind × ℕ). one a.0) (k, w) (zip ks ws) ∙ ap (λ n. one k + n) (count_zip p ks ws (omega (arith, same))) ∙ sym (sum_by-cons one k ks)

-- the length of an argument is the word of another
int_within : (kinds : List Kind) (place : ℕ) → int_at kinds place ≡ true → place < length kinds
int_within [] place h = absurd (false≢true h)
int_within (k ∷ ks) zero h = omega arith
int_within (k ∷ ks) (suc n) h = omega (arith, int_within ks n h)

is_placed : (kinds : List Kind) (k : Kind) → length_is_int kinds k ≡ true → IsPlaced (length kinds) k
is_placed kinds Int h = tt
is_placed kinds Text h = tt
is_placed kinds (InBytes place) h = int_within kinds place h
is_placed kinds (OutBytes place) h = int_within kinds place h

pub placed_at : (kinds : List Kind) (words : List ℕ) (i : ℕ) → list_all (length_is_int kinds) kinds ≡ true → length words ≡ length kinds → i < length kinds → IsPlaced (length words) (get_or kinds i Int)
placed_at kinds words i all same lt =
    let P : ℕ → Type 0 = λ n. IsPlaced n (get_or kinds i Int) in
    subst P (sym same) (is_placed kinds (get_or kinds i Int) (true_from_ne_false _ (λ isnt. false≢true (sym (list_all_at (length_is_int kinds) kinds i Int lt isnt) ∙ all))))

-- the argument that asks for room
no_output : (k : Kind) → ((place : ℕ) → k ≡ OutBytes place → ⊥) → is_output k ≡ false
no_output Int h = refl
no_output Text h = refl
no_output (InBytes place) h = refl
no_output (OutBytes place) h = absurd (h place refl)

pub output_here : (kinds : List Kind) (words : List ℕ) (i place : ℕ) → i < length kinds → length words ≡ length kinds → get_or kinds i Int ≡ OutBytes place → output_of (drop i (zip kinds words)) ≡ output_of (zip kinds words) → Some (OutBytes place, get_or words i 0) ≡ output_of (zip kinds words)
output_here kinds words i place lt same is h =
    let later = output_of (drop (i + 1) (zip kinds words)) in
    sym (ap output_of (arg_at kinds words i lt same) ∙ ap (λ k. cond (is_output k) (Some (k, get_or words i 0)) later) is) ∙ h

pub output_later : (kinds : List Kind) (words : List ℕ) (i : ℕ) → i < length kinds → length words ≡ length kinds → ((place : ℕ) → get_or kinds i Int ≡ OutBytes place → ⊥) → output_of (drop i (zip kinds words)) ≡ output_of (zip kinds words) → output_of (drop (i + 1) (zip kinds words)) ≡ output_of (zip kinds words)
output_later kinds words i lt same isnt h =
    let later = output_of (drop (i + 1) (zip kinds words)) in
    sym (ap output_of (arg_at kinds words i lt same) ∙ ap (λ b. cond b (Some (get_or kinds i Int, get_or words i 0)) later) (no_output (get_or kinds i Int) isnt)) ∙ h

pub output_nowhere : (kinds : List Kind) (words : List ℕ) (i : ℕ) → length kinds ≤ i → output_of (drop i (zip kinds words)) ≡ output_of (zip kinds words) → None ≡ output_of (zip kinds words)
output_nowhere kinds words i le h = sym (at_drop_all output_of (zip kinds words) i (omega (arith, length-zip kinds words))) ∙ h
