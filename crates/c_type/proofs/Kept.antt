-- What is kept of tags stays right where one is declared and where a record is completed.
use Rattle.std.proofs.Common.{◌≡◌, ◌≢◌, ℕ, ◌<◌, zero, suc, List, [], ◌∷◌, ◌++◌, refl, sym, ap, arith}
use Rattle.std.specs.Prelude.{◌⊎◌, fold, max, Option, Some, None, option_map, option_and_then, slice_get, slice_set}
use mathlib.Core.Logic.{inl, inr}
use Rattle.c_type.specs.declared.layout.Layout.{Layout}
use Rattle.c_type.specs.declared.tags.Entry.{Entry}
use Rattle.c_type.specs.declared.tags.TagKind.{TagKind}
use Rattle.c_type.specs.Kept.{shown}
use Rattle.c_type.specs.Layout.{Placed, closed, layout_of, nothing, placed, tag_placed, with_member, with_next}
use Rattle.c_type.specs.Types as ty
use Rattle.c_type.specs.View.{tag_of, tags_of}
use Rattle.c_type.proofs.Extends.{none-some, some-some}

-- ---- lists

pub get-shown : (entries : List Entry) (k : ℕ) → slice_get (tags_of (shown entries)) k ≡ option_map (λ e. tag_of e.tag) (slice_get entries k)
get-shown [] k = refl
get-shown (e ∷ es) zero = refl
get-shown (e ∷ es) (suc k) = get-shown es k

module _ {A : Type 0} where
  pub get-push : (xs : List A) (y : A) (k : ℕ) (x : A) → slice_get (xs ++ y ∷ []) k ≡ Some x → (slice_get xs k ≡ Some x) ⊎ (x ≡ y)
  get-push [] y zero x is = inr (sym (some-some is))
  get-push [] y (suc k) x is = absurd (none-some is)
  get-push (z ∷ xs) y zero x is = inl is
  get-push (z ∷ xs) y (suc k) x is = get-push xs y k x is

  pub get-kept : (xs : List A) (y : A) (k : ℕ) (x : A) → slice_get xs k ≡ Some x → slice_get (xs ++ y ∷ []) k ≡ Some x
  get-kept [] y k x is = absurd (none-some is)
  get-kept (z ∷ xs) y zero x is = is
  get-kept (z ∷ xs) y (suc k) x is = get-kept xs y k x is

  pub get-set : (xs : List A) (i j : ℕ) (y x : A) → slice_get (slice_set xs i y) j ≡ Some x → (slice_get xs j ≡ Some x) × (j ≢ i) ⊎ ((j ≡ i) × (x ≡ y))
  get-set [] i j y x is = absurd (none-some is)
  get-set (z ∷ xs) zero zero y x is = inr (refl, sym (some-some is))
  get-set (z ∷ xs) zero (suc j) y x is = inl (is, λ e. omega (arith, e))
  get-set (z ∷ xs) (suc i) zero y x is = inl (is, λ e. omega (arith, e))
  get-set (z ∷ xs) (suc i) (suc j) y x is = elim (get-set xs i j y x is) [ inl h ↦ inl (h.0, λ e. h.1 (omega (arith, e))) | inr h ↦ inr (ap suc h.0, h.1) ]

  pub set-other : (xs : List A) (i j : ℕ) (y : A) → j ≢ i → slice_get (slice_set xs i y) j ≡ slice_get xs j
  set-other [] i j y ne = refl
  set-other (z ∷ xs) zero zero y ne = absurd (ne refl)
  set-other (z ∷ xs) zero (suc j) y ne = refl
  set-other (z ∷ xs) (suc i) zero y ne = refl
  set-other (z ∷ xs) (suc i) (suc j) y ne = set-other xs i j y (λ e. ne (ap suc e))

  pub set-same : (xs : List A) (i : ℕ) (x y : A) → slice_get xs i ≡ Some x → slice_get (slice_set xs i y) i ≡ Some y
  set-same [] i x y is = absurd (none-some is)
  set-same (z ∷ xs) zero x y is = refl
  set-same (z ∷ xs) (suc i) x y is = set-same xs i x y is

-- ---- alignment

grow-aligned : (lay : ty.CType → Option Layout) (kind : TagKind) (ms : List ty.Member) (o : Option Placed) (q : Placed)
    → ((p : Placed) → o ≡ Some p → 0 < p.together.align) → fold (with_next lay kind) o ms ≡ Some q → 0 < q.together.align
grow-aligned lay kind [] o q start is = start q is
grow-aligned lay kind (m ∷ ms) o q start is = grow-aligned lay kind ms (with_next lay kind o m) q (next o start (lay m.type_of)) is
  where
    next : (o : Option Placed) → ((p : Placed) → o ≡ Some p → 0 < p.together.align) → (l : Option Layout)
        → (p : Placed) → option_and_then (λ q. option_map (with_member kind q) l) o ≡ Some p → 0 < p.together.align
    next None start l p is = absurd (none-some is)
    next (Some q) start None p is = absurd (none-some is)
    next (Some q) start (Some l) p is =
        let before : 0 < q.together.align = start q refl in
        let after : max q.together.align l.align ≡ p.together.align = ap (λ (p : Placed). p.together.align) (some-some is) in
        omega (arith, before, after)

pub placed-aligned : (lay : ty.CType → Option Layout) (kind : TagKind) (ms : List ty.Member) (q : Placed) → placed lay kind ms ≡ Some q → 0 < q.together.align
placed-aligned lay kind ms q is =
    grow-aligned lay kind ms (Some nothing) q (λ p e. let one : 1 ≡ p.together.align = ap (λ (p : Placed). p.together.align) (some-some e) in omega (arith, one)) is

pub tag-aligned : (r : ℕ → Option Layout) (o : Option ty.Tag) (l : Layout) → option_map closed (tag_placed r o) ≡ Some l → 0 < l.align
tag-aligned r None l is = absurd (none-some is)
tag-aligned r (Some t) l is = by t.members is
  where
    closed-aligned : (ms : List ty.Member) (p : Option Placed) → placed (layout_of r) t.kind ms ≡ p → option_map closed p ≡ Some l → 0 < l.align
    closed-aligned ms None e is = absurd (none-some is)
    closed-aligned ms (Some p) e is =
        let one = placed-aligned (layout_of r) t.kind ms p e in
        let two : p.together.align ≡ l.align = ap (λ (l : Layout). l.align) (some-some is) in
        omega (arith, one, two)

    by : (o : Option (List ty.Member)) → option_map closed (option_and_then (placed (layout_of r) t.kind) o) ≡ Some l → 0 < l.align
    by None is = absurd (none-some is)
    by (Some ms) is = closed-aligned ms (placed (layout_of r) t.kind ms) refl is
