-- What is laid out stays so where more records are.
use Rattle.std.proofs.Common.{◌≡◌, ℕ, ◌+◌, zero, suc, List, [], ◌∷◌, refl, sym, ap, subst, ◌∙◌, arith}
use Rattle.std.proofs.Math.Path.{fun_ext}
use Rattle.std.specs.Prelude.{fold, Option, Some, None, unwrap_or, option_map, option_and_then, slice_get}
use Rattle.c_type.specs.declared.layout.Layout.{Layout}
use Rattle.c_type.specs.declared.tags.TagKind.{TagKind}
use Rattle.c_type.specs.Layout.{Placed, closed, layout_of, nothing, placed, records_within, repeated, tag_placed, with_member, with_next}
use Rattle.c_type.specs.Types as ty
use Rattle.c_type.specs.Types.{CType, Member, Tag, Tags}

pub none-some : {A : Type 0} {x : A} → None ≡ Some x → ⊥
none-some {A} h = subst Is h tt
  where
    Is : Option A → Type 0
    Is None = Unit {0}
    Is (Some y) = ⊥

pub some-some : {A : Type 0} {x y : A} → Some x ≡ Some y → x ≡ y
some-some {x = x} h = ap (λ o. unwrap_or o x) h

abbrev pub Extends : (ℕ → Option Layout) → (ℕ → Option Layout) → Type 0
Extends r s = (k : ℕ) (l : Layout) → r k ≡ Some l → s k ≡ Some l

module _ (r s : ℕ → Option Layout) (more : Extends r s) where
  repeated-extends : (n : Option ℕ) (o p : Option Layout) (l : Layout) → ((m : Layout) → o ≡ Some m → p ≡ Some m) → repeated n o ≡ Some l → repeated n p ≡ Some l
  repeated-extends None o p l h is = is
  repeated-extends (Some n) None p l h is = absurd (none-some is)
  repeated-extends (Some n) (Some m) p l h is = ap (repeated (Some n)) (h m refl) ∙ is

  pub type-extends : (t : CType) (l : Layout) → layout_of r t ≡ Some l → layout_of s t ≡ Some l
  type-extends ty.void l is = is
  type-extends (ty.int k) l is = is
  type-extends (ty.pointer t) l is = is
  type-extends (ty.array t n) l is = repeated-extends n (layout_of r t) (layout_of s t) l (type-extends t) is
  type-extends (ty.function f) l is = is
  type-extends (ty.struct k) l is = more k l is
  type-extends (ty.enum k) l is = is

  fold-none : (kind : TagKind) (ms : List Member) → fold (with_next (layout_of r) kind) None ms ≡ None
  fold-none kind [] = refl
  fold-none kind (m ∷ ms) = fold-none kind ms

  step : (kind : TagKind) (ms : List Member) (p : Placed) (q : Placed) (m : Member) (o u : Option Layout) → ((l : Layout) → o ≡ Some l → u ≡ Some l)
      → ((p : Placed) → fold (with_next (layout_of r) kind) (Some p) ms ≡ Some q → fold (with_next (layout_of s) kind) (Some p) ms ≡ Some q)
      → fold (with_next (layout_of r) kind) (option_map (with_member kind p) o) ms ≡ Some q → fold (with_next (layout_of s) kind) (option_map (with_member kind p) u) ms ≡ Some q
  step kind ms p q m None u h rest is = absurd (none-some (sym (fold-none kind ms) ∙ is))
  step kind ms p q m (Some l) u h rest is =
      ap (λ v. fold (with_next (layout_of s) kind) (option_map (with_member kind p) v) ms) (h l refl) ∙ rest (with_member kind p l) is

  fold-extends : (kind : TagKind) (ms : List Member) (p q : Placed)
      → fold (with_next (layout_of r) kind) (Some p) ms ≡ Some q → fold (with_next (layout_of s) kind) (Some p) ms ≡ Some q
  fold-extends kind [] p q is = is
  fold-extends kind (m ∷ ms) p q is =
      step kind ms p q m (layout_of r m.type_of) (layout_of s m.type_of) (type-extends m.type_of) (λ p. fold-extends kind ms p q) is

  pub placed-extends : (kind : TagKind) (ms : List Member) (q : Placed) → placed (layout_of r) kind ms ≡ Some q → placed (layout_of s) kind ms ≡ Some q
  placed-extends kind ms q is = fold-extends kind ms nothing q is

  members-extend : (kind : TagKind) (o : Option (List Member)) (q : Placed)
      → option_and_then (placed (layout_of r) kind) o ≡ Some q → option_and_then (placed (layout_of s) kind) o ≡ Some q
  members-extend kind None q is = is
  members-extend kind (Some ms) q is = placed-extends kind ms q is

  pub tag-extends : (o : Option Tag) (q : Placed) → tag_placed r o ≡ Some q → tag_placed s o ≡ Some q
  tag-extends None q is = is
  tag-extends (Some t) q is = members-extend t.kind t.members q is

-- what is complete stays
abbrev pub Grows : Tags → Tags → Type 0
Grows old new = (k : ℕ) (t : Tag) (ms : List Member) → slice_get old k ≡ Some t → t.members ≡ Some ms → slice_get new k ≡ Some t

same-tag : (r : ℕ → Option Layout) (o p : Option Tag) (l : Layout) → ((t : Tag) (ms : List Member) → o ≡ Some t → t.members ≡ Some ms → p ≡ Some t)
    → option_map closed (tag_placed r o) ≡ Some l → option_map closed (tag_placed r p) ≡ Some l
same-tag r None p l h is = absurd (none-some is)
same-tag r (Some t) p l h is = by t.members refl is
  where
    by : (o : Option (List Member)) → t.members ≡ o → option_map closed (option_and_then (placed (layout_of r) t.kind) o) ≡ Some l → option_map closed (tag_placed r p) ≡ Some l
    by None e is = absurd (none-some is)
    by (Some ms) e is = ap (λ p. option_map closed (tag_placed r p)) (h t ms refl e) ∙ ap (λ o. option_map closed (option_and_then (placed (layout_of r) t.kind) o)) e ∙ is

pub closed-extends : (o p : Option Placed) (l : Layout) → ((q : Placed) → o ≡ Some q → p ≡ Some q) → option_map closed o ≡ Some l → option_map closed p ≡ Some l
closed-extends None p l h is = absurd (none-some is)
closed-extends (Some q) p l h is = ap (option_map closed) (h q refl) ∙ is

pub within-extends : (old new : Tags) → Grows old new → (n : ℕ) → Extends (records_within old n) (records_within new n)
within-extends old new grows zero k l is = is
within-extends old new grows (suc n) k l is =
    same-tag (records_within new n) (slice_get old k) (slice_get new k) l (grows k)
    (closed-extends (tag_placed (records_within old n) (slice_get old k)) (tag_placed (records_within new n) (slice_get old k)) l
    (tag-extends (records_within old n) (records_within new n) (within-extends old new grows n) (slice_get old k)) is)

-- once all is laid out, a deeper look finds no more
module _ (tags : Tags) (kept : ℕ → Option Layout) (again : (k : ℕ) → option_map closed (tag_placed kept (slice_get tags k)) ≡ kept k) where
  pub deeper : (n c m : ℕ) → n ≡ m + c → ((k : ℕ) → records_within tags c k ≡ kept k) → (k : ℕ) → records_within tags n k ≡ kept k
  deeper n c zero e is k =
      let same : n ≡ c = omega (arith, e) in
      ap (λ n. records_within tags n k) same ∙ is k
  deeper n c (suc m) e is k =
      let before : records_within tags (m + c) ≡ kept = fun_ext (deeper (m + c) c m refl is) in
      let same : n ≡ suc (m + c) = omega (arith, e) in
      ap (λ n. records_within tags n k) same ∙ ap (λ r. option_map closed (tag_placed r (slice_get tags k))) before ∙ again k
