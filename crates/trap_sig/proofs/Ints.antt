-- The words of the Int arguments, gathered one after another.
use Rattle.std.proofs.Common.{◌≡◌, ℕ, ◌+◌, ◌-◌, ◌<◌, ◌≤◌, Bool, true, false, cond, List, [], ◌∷◌, ◌++◌, length, take, drop, set, get_or, map, replicate, sym, ap, ◌∙◌, arith}
use Rattle.std.specs.List.{zip, filter}
use Rattle.std.proofs.lemmas.List.{take_more_set, append_assoc, drop-set-lt, drop-drop, drop-replicate, length-set, append-nil, at_drop_all}
use Rattle.std.proofs.lemmas.Slice.Zip.{length-zip}
use Rattle.qv_outside.specs.declared.signature.Kind.{Kind}
use Rattle.qv_outside.specs.declared.signature.Kind.TheVariants.{Int}
use Rattle.qv_outside.specs.Signature.{is_int}
use Rattle.trap_sig.specs.Gather.{ints_of}
use Rattle.trap_sig.proofs.Args.{arg_at}

-- the first i arguments have been gathered
pub record Gathering (kinds : List Kind) (words ints : List ℕ) (count i : ℕ) : Type 0 where
  pub few : count ≤ i
  pub long : length ints ≡ 14
  pub taken : take count ints ++ ints_of (drop i (zip kinds words)) ≡ ints_of (zip kinds words)
  pub zeros : drop count ints ≡ replicate (14 - count) 0

ints_at : (kinds : List Kind) (words : List ℕ) (i : ℕ) (b : Bool) → i < length kinds → length words ≡ length kinds → is_int (get_or kinds i Int) ≡ b → ints_of (drop i (zip kinds words)) ≡ cond b (get_or words i 0 ∷ ints_of (drop (i + 1) (zip kinds words))) (ints_of (drop (i + 1) (zip kinds words)))
ints_at kinds words i true lt same e =
    let rest = filter (λ (a : Kind × ℕ). is_int a.0) (drop (i + 1) (zip kinds words)) in
    ap ints_of (arg_at kinds words i lt same) ∙ ap (λ t. map (λ (a : Kind × ℕ). a.1) (cond t ((get_or kinds i Int, get_or words i 0) ∷ rest) rest)) e
ints_at kinds words i false lt same e =
    let rest = filter (λ (a : Kind × ℕ). is_int a.0) (drop (i + 1) (zip kinds words)) in
    ap ints_of (arg_at kinds words i lt same) ∙ ap (λ t. map (λ (a : Kind × ℕ). a.1) (cond t ((get_or kinds i Int, get_or words i 0) ∷ rest) rest)) e

pushed : (ints rest all : List ℕ) (count w : ℕ) → count < length ints → take count ints ++ w ∷ rest ≡ all → take (count + 1) (set ints count w) ++ rest ≡ all
pushed ints rest all count w room h = ap (λ (x : List ℕ). x ++ rest) (take_more_set ints count w room) ∙ append_assoc (take count ints) (w ∷ []) rest ∙ h

zeros_left : (ints : List ℕ) (most count w : ℕ) → drop count ints ≡ replicate (most - count) 0 → drop (count + 1) (set ints count w) ≡ replicate (most - (count + 1)) 0
zeros_left ints most count w h =
    let n : most - count - 1 ≡ most - (count + 1) = omega arith in
    drop-set-lt (count + 1) ints count w (omega arith) ∙ sym (drop-drop 1 count ints) ∙ ap (λ (x : List ℕ). drop 1 x) h ∙ drop-replicate 1 (most - count) 0 ∙ ap (λ m. replicate m 0) n

-- an Int comes behind those that were gathered
pub int_comes : (kinds : List Kind) (words ints : List ℕ) (count i : ℕ) → length kinds ≤ 14 → i < length kinds → length words ≡ length kinds → is_int (get_or kinds i Int) ≡ true → Gathering kinds words ints count i → Gathering kinds words (set ints count (get_or words i 0)) (count + 1) (i + 1)
int_comes kinds words ints count i most lt same is g =
    let rest = ints_of (drop (i + 1) (zip kinds words)) in
    let w = get_or words i 0 in
    let room : count < length ints = omega (arith, g.few, g.long) in
    record {
      few = omega (arith, g.few);
      long = length-set ints count w ∙ g.long;
      taken = pushed ints rest _ count w room (ap (λ (x : List ℕ). take count ints ++ x) (sym (ints_at kinds words i true lt same is)) ∙ g.taken);
      zeros = zeros_left ints 14 count w g.zeros;
    }

-- another argument is passed over
pub other_comes : (kinds : List Kind) (words ints : List ℕ) (count i : ℕ) → i < length kinds → length words ≡ length kinds → is_int (get_or kinds i Int) ≡ false → Gathering kinds words ints count i → Gathering kinds words ints count (i + 1)
other_comes kinds words ints count i lt same isnt g = record {
  few = omega (arith, g.few);
  long = g.long;
  taken = ap (λ (x : List ℕ). take count ints ++ x) (sym (ints_at kinds words i false lt same isnt)) ∙ g.taken;
  zeros = g.zeros;
}

pub all_taken : (kinds : List Kind) (words ints : List ℕ) (count i : ℕ) → length kinds ≤ i → Gathering kinds words ints count i → take count ints ≡ ints_of (zip kinds words)
all_taken kinds words ints count i le g =
    sym (append-nil (take count ints)) ∙ ap (λ (x : List ℕ). take count ints ++ x) (sym (at_drop_all ints_of (zip kinds words) i (omega (arith, length-zip kinds words)))) ∙ g.taken
