-- The directory of a name, as far as it was looked at.
use Rattle.std.proofs.Common.{◌≡◌, ℕ, ◌<◌, Bool, true, false, ◌||◌, List, [], ◌∷◌, ◌++◌, ◌+◌, length, take, get_or, refl, sym, ap, ◌∙◌, arith}
use Rattle.std.specs.Prelude.{if◌then◌else◌}
use Rattle.std.specs.List.{list_any}
use Rattle.std.specs.Str.{IsUtf8, IsCharBoundary}
use Rattle.std.proofs.lemmas.List.{take_more}
use Rattle.std.proofs.lemmas.Str.{IsCharBoundary-after_ascii}
use Rattle.std.proofs.lemmas.Bool.Decides.{nat_tests}
use Rattle.pp_dir.specs.Forms.{directory_of, is_slash}

-- ---- a name and one byte more

or_true : (x : Bool) → (x || true) ≡ true
or_true true = refl
or_true false = refl

has_slash : (bs : List ℕ) (b : ℕ) → is_slash b ≡ true → list_any is_slash (bs ++ b ∷ []) ≡ true
has_slash [] b is = rw is refl
has_slash (c ∷ bs) b is = rw (has_slash bs b is) (or_true (is_slash c))

has_no_more : (bs : List ℕ) (b : ℕ) → is_slash b ≡ false → list_any is_slash (bs ++ b ∷ []) ≡ list_any is_slash bs
has_no_more [] b is = rw is refl
has_no_more (c ∷ bs) b is = rw (has_no_more bs b is) refl

with_slash : (bs : List ℕ) (b : ℕ) → is_slash b ≡ true → directory_of (bs ++ b ∷ []) ≡ bs ++ b ∷ []
unfolding directory_of
with_slash [] b is = rw is refl
with_slash (c ∷ bs) b is = rw (has_slash (c ∷ bs) b is) (ap (λ (ds : List ℕ). c ∷ ds) (with_slash bs b is))

with_other : (bs : List ℕ) (b : ℕ) → is_slash b ≡ false → directory_of (bs ++ b ∷ []) ≡ directory_of bs
unfolding directory_of
with_other [] b is = rw is refl
with_other (c ∷ bs) b is = rw (has_no_more (c ∷ bs) b is, with_other bs b is) refl

-- ---- the place behind the last `/`

step_by : (s : Bool) (bs : List ℕ) (i end b : ℕ) → is_slash b ≡ s → take (i + 1) bs ≡ take i bs ++ b ∷ [] → take end bs ≡ directory_of (take i bs)
    → take (if s then i + 1 else end) bs ≡ directory_of (take (i + 1) bs)
step_by true bs i end b is more so_far = more ∙ sym (with_slash (take i bs) b is) ∙ ap directory_of (sym more)
step_by false bs i end b is more so_far = so_far ∙ sym (with_other (take i bs) b is) ∙ ap directory_of (sym more)

pub directory_step : (bs : List ℕ) (i end : ℕ) → i < length bs → take end bs ≡ directory_of (take i bs) → take (if is_slash (get_or bs i 0) then i + 1 else end) bs ≡ directory_of (take (i + 1) bs)
directory_step bs i end lt so_far = step_by (is_slash (get_or bs i 0)) bs i end (get_or bs i 0) refl (take_more bs i 0 lt) so_far

-- ---- a character ends behind a slash

behind_slash : (bs : List ℕ) (i : ℕ) → IsUtf8 bs → i < length bs → get_or bs i 0 ≡ 47 → IsCharBoundary bs (i + 1)
behind_slash bs i utf8 lt is = IsCharBoundary-after_ascii bs i utf8 lt (omega (arith, is))

boundary_by : (b : Bool) (bs : List ℕ) (i end : ℕ) → (b ≡ true → get_or bs i 0 ≡ 47) → IsUtf8 bs → i < length bs → (0 < end → IsCharBoundary bs end) → 0 < (if b then i + 1 else end) → IsCharBoundary bs (if b then i + 1 else end)
boundary_by true bs i end is utf8 lt before more = behind_slash bs i utf8 lt (is refl)
boundary_by false bs i end is utf8 lt before more = before more

is_it : (b : ℕ) → is_slash b ≡ true → b ≡ 47
is_it b is = grind (arith, nat_tests)

pub boundary_step : (bs : List ℕ) (i end : ℕ) → IsUtf8 bs → i < length bs → (0 < end → IsCharBoundary bs end) → 0 < (if is_slash (get_or bs i 0) then i + 1 else end) → IsCharBoundary bs (if is_slash (get_or bs i 0) then i + 1 else end)
boundary_step bs i end = boundary_by (is_slash (get_or bs i 0)) bs i end (is_it (get_or bs i 0))
