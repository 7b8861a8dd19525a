-- Steps of laying a record out.
use Rattle.std.proofs.Common.{◌≡◌, ℕ, suc, ◌+◌, ◌-◌, ◌^◌, ◌<◌, ◌≤◌, false, cond, List, [], ◌∷◌, ◌++◌, length, drop, get_or, refl, sym, ap, subst, ◌∙◌, arith}
use Rattle.std.proofs.Math.Seq.{drop-cons}
use Rattle.std.specs.Prelude.{min, max, fold, nat_le, Option, Some, None, option_map}
use Rattle.c_type.specs.declared.kind.IntKind.{IntKind}
use Rattle.c_type.specs.declared.kind.IntKind.TheVariants.{Char, SignedChar, UnsignedChar, Short, UnsignedShort, Int, UnsignedInt, Long, UnsignedLong}
use Rattle.c_type.specs.declared.layout.Layout.{Layout}
use Rattle.c_type.specs.declared.tags.Entry.{Entry}
use Rattle.c_type.specs.declared.tags.Member.{Member}
use Rattle.c_type.specs.declared.tags.TagKind.{TagKind}
use Rattle.c_type.specs.Kinds.{bytes}
use Rattle.c_type.specs.Kept.{AllAligned, kept, planned}
use Rattle.c_type.specs.Layout.{Placed, closed, joined, layout, layout_of, most_bytes, place, repeated, told, with_member, with_next}
use Rattle.c_type.specs.Plans.{IsTooLarge, next}
use Rattle.c_type.specs.Types as ty
use Rattle.c_type.specs.View.{members_of, type_of}
use Rattle.c_type.proofs.Extends.{none-some, some-some}

-- ---- a member's type

kind-aligned : (k : IntKind) → 0 < bytes k
kind-aligned Char = omega arith
kind-aligned SignedChar = omega arith
kind-aligned UnsignedChar = omega arith
kind-aligned Short = omega arith
kind-aligned UnsignedShort = omega arith
kind-aligned Int = omega arith
kind-aligned UnsignedInt = omega arith
kind-aligned Long = omega arith
kind-aligned UnsignedLong = omega arith

repeated-aligned : (n : Option ℕ) (o : Option Layout) → ((l : Layout) → o ≡ Some l → 0 < l.align) → (l : Layout) → repeated n o ≡ Some l → 0 < l.align
repeated-aligned None o h l is = absurd (none-some is)
repeated-aligned (Some n) None h l is = absurd (none-some is)
repeated-aligned (Some n) (Some m) h l is =
    let below = h m refl in
    let same : m.align ≡ l.align = ap (λ (l : Layout). l.align) (some-some is) in
    omega (arith, below, same)

module _ (r : ℕ → Option Layout) (aligned : (k : ℕ) (l : Layout) → r k ≡ Some l → 0 < l.align) where
  scalar-aligned : (n : ℕ) (l : Layout) → 0 < n → Some (layout n n) ≡ Some l → 0 < l.align
  scalar-aligned n l below is = let same : n ≡ l.align = ap (λ (l : Layout). l.align) (some-some is) in omega (arith, below, same)

  type-aligned : (t : ty.CType) (l : Layout) → layout_of r t ≡ Some l → 0 < l.align
  type-aligned ty.void l is = absurd (none-some is)
  type-aligned (ty.int k) l is = scalar-aligned _ l (kind-aligned k) is
  type-aligned (ty.pointer t) l is = scalar-aligned 4 l (omega arith) is
  type-aligned (ty.array t n) l is = repeated-aligned n (layout_of r t) (type-aligned t) l is
  type-aligned (ty.function s) l is = absurd (none-some is)
  type-aligned (ty.struct k) l is = aligned k l is
  type-aligned (ty.enum k) l is = scalar-aligned 4 l (omega arith) is

told-aligned : (o : Option Layout) (m : Layout) → ((l : Layout) → o ≡ Some l → 0 < l.align) → Some m ≡ option_map told o → 0 < m.align
told-aligned None m h is = absurd (none-some (sym is))
told-aligned (Some l) m h is =
    let below = h l refl in
    let same : m.align ≡ l.align = ap (λ (l : Layout). l.align) (some-some is) in
    omega (arith, below, same)

pub member-aligned : (entries : List Entry) (t : ty.CType) (m : Layout) → AllAligned entries → Some m ≡ option_map told (layout_of (kept entries) t) → 0 < m.align
member-aligned entries t m aligned is = told-aligned (layout_of (kept entries) t) m (type-aligned (kept entries) aligned t) is

small-told : (p n s : ℕ) → max s (p + min n (2 ^ 32 - 1)) ≤ 2 ^ 26 → min n (2 ^ 32 - 1) ≡ n
small-told p n s le = omega (arith, le)

large-told : (p n s : ℕ) → 2 ^ 26 < max s (p + min n (2 ^ 32 - 1)) → 2 ^ 26 < max s (p + n)
large-told p n s lt = omega (arith, lt)

pub member-next : (k : TagKind) (others m : Layout) (o : Option Layout) (r : Layout × ℕ) → Some m ≡ option_map told o → r ≡ (joined k others m, place k others.size m.align)
    → r.0.size ≤ 2 ^ 26 → Some r ≡ next k others o
member-next k others m None r is e small = absurd (none-some (sym is))
member-next k others m (Some l) r is e small =
    let m-is : m ≡ told l = some-some is in
    let r-is : r ≡ (joined k others (told l), place k others.size l.align) = e ∙ ap (λ m. (joined k others m, place k others.size m.align)) m-is in
    let size-is : max others.size (place k others.size l.align + min l.size (2 ^ 32 - 1)) ≤ 2 ^ 26 = subst (λ (r : Layout × ℕ). r.0.size ≤ 2 ^ 26) r-is small in
    ap Some (r-is ∙ ap (λ n. (layout (max others.size (place k others.size l.align + n)) (max others.align l.align), place k others.size l.align)) (small-told (place k others.size l.align) l.size others.size size-is))

pub member-too-large : (k : TagKind) (others m : Layout) (o : Option Layout) → Some m ≡ option_map told o → 2 ^ 26 < (joined k others m).size → IsTooLarge k others o
member-too-large k others m None is lt = tt
member-too-large k others m (Some l) is lt =
    large-told (place k others.size l.align) l.size others.size (subst (λ m. 2 ^ 26 < (joined k others m).size) (some-some is) lt)

pub no-member : (k : TagKind) (others : Layout) (o : Option Layout) → None ≡ option_map told o → IsTooLarge k others o
no-member k others None is = tt
no-member k others (Some l) is = absurd (none-some is)

pub ruleset members = (member-aligned, member-next, member-too-large, no-member)

-- ---- all members

module _ (lay : ty.CType → Option Layout) (k : TagKind) where
  fold-none : (ms : List ty.Member) → fold (with_next lay k) None ms ≡ None
  fold-none [] = refl
  fold-none (m ∷ ms) = fold-none ms

  not-le : (a b : ℕ) → b < a → nat_le a b ≡ false
  not-le a b lt = grind arith

  too-large : (ms : List ty.Member) (p : Placed) → 2 ^ 26 < p.together.size → planned (fold (with_next lay k) (Some p) ms) ≡ None
  too-large [] p lt = ap (λ b. cond b (Some (record { layout = closed p; offsets = p.offsets })) None) (not-le (closed p).size most_bytes (omega (arith, lt)))
  too-large (m ∷ ms) p lt = by (lay m.type_of) (too-large ms)
    where
      by : (o : Option Layout) → ((p : Placed) → 2 ^ 26 < p.together.size → planned (fold (with_next lay k) (Some p) ms) ≡ None)
          → planned (fold (with_next lay k) (option_map (with_member k p) o) ms) ≡ None
      by None rest = ap planned (fold-none ms)
      by (Some l) rest = rest (with_member k p l) (omega (arith, lt))

  stops : (o : Option Layout) (p : Placed) (ms : List ty.Member) → IsTooLarge k p.together o → planned (fold (with_next lay k) (option_map (with_member k p) o) ms) ≡ None
  stops None p ms large = ap planned (fold-none ms)
  stops (Some l) p ms large = too-large ms (with_member k p l) large

  goes : (o : Option Layout) (together : Layout) (offsets : List ℕ) (r : Layout × ℕ) → Some r ≡ next k together o
      → option_map (with_member k (record { together = together; offsets = offsets })) o ≡ Some (record { together = r.0; offsets = offsets ++ r.1 ∷ [] })
  goes None together offsets r is = absurd (none-some (sym is))
  goes (Some l) together offsets r is = ap (λ (r : Layout × ℕ). Some (record { together = r.0; offsets = offsets ++ r.1 ∷ [] })) (sym (some-some is))

abbrev pub so_far : (ℕ → Option Layout) → TagKind → Layout → List ℕ → List Member → Option Placed
so_far r k together offsets ms = fold (with_next (layout_of r) k) (Some (record { together = together; offsets = offsets })) (members_of ms)

pub plan-stops : (r : ℕ → Option Layout) (k : TagKind) (together : Layout) (offsets : List ℕ) (ms : List Member) (i : ℕ) (m : Member) (all : Option Placed)
    → i < length ms → m ≡ get_or ms i m → IsTooLarge k together (layout_of r (type_of m.type_of)) → so_far r k together offsets (drop i ms) ≡ all → None ≡ planned all
plan-stops r k together offsets ms i m all lt at large is =
    let here : drop i ms ≡ m ∷ drop (suc i) ms = drop-cons ms i m lt ∙ ap (λ m. m ∷ drop (suc i) ms) (sym at) in
    sym (stops (layout_of r) k (layout_of r (type_of m.type_of)) (record { together = together; offsets = offsets }) (members_of (drop (suc i) ms)) large)
    ∙ sym (ap (λ ms. planned (so_far r k together offsets ms)) here) ∙ ap planned is

pub plan-goes : (r : ℕ → Option Layout) (k : TagKind) (together : Layout) (offsets : List ℕ) (ms : List Member) (i j : ℕ) (m : Member) (n : Layout × ℕ) (all : Option Placed)
    → i < length ms → m ≡ get_or ms i m → j ≡ i + 1 → Some n ≡ next k together (layout_of r (type_of m.type_of)) → so_far r k together offsets (drop i ms) ≡ all
    → so_far r k n.0 (offsets ++ n.1 ∷ []) (drop j ms) ≡ all
plan-goes r k together offsets ms i j m n all lt at then got is =
    let here : drop i ms ≡ m ∷ drop (suc i) ms = drop-cons ms i m lt ∙ ap (λ m. m ∷ drop (suc i) ms) (sym at) in
    let j-is : j ≡ suc i = omega (arith, then) in
    ap (λ j. so_far r k n.0 (offsets ++ n.1 ∷ []) (drop j ms)) j-is
    ∙ sym (ap (λ o. fold (with_next (layout_of r) k) o (members_of (drop (suc i) ms))) (goes (layout_of r) k (layout_of r (type_of m.type_of)) together offsets n got))
    ∙ sym (ap (so_far r k together offsets) here) ∙ is

pub ruleset plans = (plan-stops, plan-goes)
