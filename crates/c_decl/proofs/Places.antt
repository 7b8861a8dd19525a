-- Where numbered tokens stand.
use Rattle.std.proofs.Common.{◌≡◌, ℕ, zero, suc, ◌-◌, List, [], ◌∷◌, length, drop, slice_get, Option, Some, None, refl, ap, sym, ◌∙◌, arith}
use Rattle.qv_base.specs.declared.place.Place.{Place}
use Rattle.c_tok.specs.declared.token.CTok.{CTok}
use Rattle.c_decl.specs.Tokens.{Token, numbered, nowhere}
use Rattle.c_decl.specs.Units.{place_in}
use Rattle.c_decl.specs.Parsed.{place_left}
use Rattle.c_decl.proofs.Numbered.{numbered_length}

abbrev pub place_or : Option CTok → Place
place_or None = nowhere.place
place_or (Some t) = t.place

last_place : (k : ℕ) (ts : List CTok) → place_in (numbered k ts) [] ≡ place_or (slice_get ts (length ts - 1))
unfolding numbered
last_place k [] = refl
last_place k (t ∷ []) = refl
last_place k (t ∷ u ∷ ts) =
    let e : suc (length (u ∷ ts) - 1) ≡ length (t ∷ u ∷ ts) - 1 = omega arith in
    last_place (suc k) (u ∷ ts) ∙ ap (λ (n : ℕ). place_or (slice_get (t ∷ u ∷ ts) n)) e

some_drop : (k n : ℕ) (ts : List CTok) (all : List Token) (t : CTok) → slice_get ts n ≡ Some t → place_in all (drop n (numbered k ts)) ≡ t.place
unfolding numbered
some_drop k zero [] all t e = cc
some_drop k (suc n) [] all t e = cc
some_drop k zero (u ∷ ts) all t e = cc
some_drop k (suc n) (u ∷ ts) all t e = some_drop (suc k) n ts all t e

none_drop : (k n : ℕ) (ts : List CTok) → slice_get ts n ≡ None → drop n (numbered k ts) ≡ []
unfolding numbered
none_drop k zero [] e = refl
none_drop k (suc n) [] e = refl
none_drop k zero (t ∷ ts) e = cc
none_drop k (suc n) (t ∷ ts) e = none_drop (suc k) n ts e

pub place_some : (ts : List CTok) (left : ℕ) (t : CTok) → slice_get ts (length ts - left) ≡ Some t → t.place ≡ place_left (numbered 0 ts) left
place_some ts left t e = rw (numbered_length 0 ts) (sym (some_drop 0 (length ts - left) ts (numbered 0 ts) t e))

pub place_none : (ts : List CTok) (left : ℕ) → slice_get ts (length ts - left) ≡ None → place_or (slice_get ts (length ts - 1)) ≡ place_left (numbered 0 ts) left
place_none ts left e = rw (numbered_length 0 ts, none_drop 0 (length ts - left) ts e) (sym (last_place 0 ts))
