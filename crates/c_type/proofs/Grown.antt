-- What is kept of tags is right, and stays so where a tag is declared and where a record is completed.
use Rattle.std.proofs.Common.{◌≡◌, ◌≢◌, ℕ, ◌+◌, ◌-◌, ◌<◌, ◌≤◌, zero, suc, Bool, true, false, List, [], ◌∷◌, ◌++◌, length, map, cond, refl, sym, ap, ◌∙◌, arith}
use Rattle.std.proofs.Common as std
use Rattle.std.proofs.Math.Path.{fun_ext}
use Rattle.std.proofs.lemmas.List.{length-map}
use Rattle.std.specs.Prelude.{nat_le, Option, Some, None, is_some, option_map, option_and_then, slice_get, slice_set}
use mathlib.Core.Logic.{inl, inr}
use Rattle.c_type.specs.declared.layout.Layout.{Layout}
use Rattle.c_type.specs.declared.tags.Entry.{Entry}
use Rattle.c_type.specs.declared.tags.Member.{Member}
use Rattle.c_type.specs.declared.tags.Plan.{Plan}
use Rattle.c_type.specs.declared.tags.Tag.{Tag}
use Rattle.c_type.specs.Kept.{AllAligned, IsKept, count, kept, kept_of, offsets_of, planned, shown}
use Rattle.c_type.specs.Layout.{Placed, closed, layout_of, most_bytes, offset, placed, records, records_within, tag_placed}
use Rattle.c_type.specs.Types as ty
use Rattle.c_type.specs.View.{members_of, tag_of, tags_of}
use Rattle.c_type.proofs.Extends.{Extends, Grows, closed-extends, deeper, none-some, some-some, tag-extends, within-extends}
use Rattle.c_type.proofs.Kept.{get-kept, get-push, get-set, get-shown, set-other, tag-aligned}

pub true-false : true ≡ false → ⊥
true-false h = std.subst Is h tt
  where
    Is : Bool → Type 0
    Is true = Unit {0}
    Is false = ⊥

some-none : {A : Type 0} {o : Option A} → is_some o ≡ true → o ≡ None → ⊥
some-none is e = true-false (sym is ∙ ap is_some e)

abbrev Tagged : List Entry → ty.Tags
Tagged entries = tags_of (shown entries)

abbrev Planned : (ℕ → Option Layout) → List Entry → Type 0
Planned r entries = (k : ℕ) (e : Entry) → slice_get entries k ≡ Some e → e.plan ≡ planned (tag_placed r (Some (tag_of e.tag)))

abbrev Complete : List Entry → Type 0
Complete entries = (k : ℕ) (e : Entry) (ms : List Member) → slice_get entries k ≡ Some e → e.tag.members ≡ Some ms → is_some e.plan ≡ true

-- ---- an entry

plan-layout : (p : Option Placed) (o : Option Plan) → o ≡ planned p → is_some o ≡ true → option_map closed p ≡ option_map (λ q. q.layout) o
plan-layout None o e is = absurd (some-none is e)
plan-layout (Some p) o e is = by (nat_le (closed p).size most_bytes) e
  where
    by : (b : Bool) → o ≡ cond b (Some (record { layout = closed p; offsets = p.offsets })) None → Some (closed p) ≡ option_map (λ q. q.layout) o
    by true e = sym (ap (option_map (λ (q : Plan). q.layout)) e)
    by false e = absurd (some-none is e)

module _ (r : ℕ → Option Layout) where
  open-placed : (t : Tag) → t.members ≡ None → tag_placed r (Some (tag_of t)) ≡ None
  open-placed t is = ap (λ o. option_and_then (placed (layout_of r) t.kind) (option_map members_of o)) is

  entry-is : (e : Entry) → e.plan ≡ planned (tag_placed r (Some (tag_of e.tag))) → ((ms : List Member) → e.tag.members ≡ Some ms → is_some e.plan ≡ true)
      → option_map closed (tag_placed r (Some (tag_of e.tag))) ≡ kept_of (Some e)
  entry-is e is whole = by e.tag.members refl
    where
      by : (o : Option (List Member)) → e.tag.members ≡ o → option_map closed (tag_placed r (Some (tag_of e.tag))) ≡ option_map (λ q. q.layout) e.plan
      by None m =
          let none = open-placed e.tag m in
          ap (option_map closed) none ∙ sym (ap (option_map (λ (q : Plan). q.layout)) (is ∙ ap planned none))
      by (Some ms) m = plan-layout (tag_placed r (Some (tag_of e.tag))) e.plan is (whole ms m)

  layouts-are : (entries : List Entry) → Planned r entries → Complete entries → (k : ℕ) → option_map closed (tag_placed r (slice_get (Tagged entries) k)) ≡ kept entries k
  layouts-are entries plans whole k = ap (λ o. option_map closed (tag_placed r o)) (get-shown entries k) ∙ by (slice_get entries k) refl
    where
      by : (o : Option Entry) → slice_get entries k ≡ o → option_map closed (tag_placed r (option_map (λ e. tag_of e.tag) o)) ≡ kept_of o
      by None is = refl
      by (Some e) is = entry-is e (plans k e is) (λ ms m. whole k e ms is m)

plan-extends : (r s : ℕ → Option Layout) → Extends r s → (o : Option ty.Tag) (plan : Option Plan) → plan ≡ planned (tag_placed r o) → is_some plan ≡ true → plan ≡ planned (tag_placed s o)
plan-extends r s more o plan e is = by (tag_placed r o) refl
  where
    by : (p : Option Placed) → tag_placed r o ≡ p → plan ≡ planned (tag_placed s o)
    by None h = absurd (some-none is (e ∙ ap planned h))
    by (Some p) h = e ∙ ap planned (h ∙ sym (tag-extends r s more o p h))

entry-extends : (r s : ℕ → Option Layout) → Extends r s → (e : Entry) → e.plan ≡ planned (tag_placed r (Some (tag_of e.tag)))
    → ((ms : List Member) → e.tag.members ≡ Some ms → is_some e.plan ≡ true) → e.plan ≡ planned (tag_placed s (Some (tag_of e.tag)))
entry-extends r s more e is whole = by e.tag.members refl
  where
    by : (o : Option (List Member)) → e.tag.members ≡ o → e.plan ≡ planned (tag_placed s (Some (tag_of e.tag)))
    by None m = is ∙ ap planned (open-placed r e.tag m ∙ sym (open-placed s e.tag m))
    by (Some ms) m = plan-extends r s more (Some (tag_of e.tag)) e.plan is (whole ms m)

-- ---- what the definition says

map-none : (o : Option Plan) → option_map (λ q. q.layout) o ≡ None → o ≡ None
map-none None is = refl
map-none (Some q) is = absurd (none-some (sym is))

open-none : (entries : List Entry) → Complete entries → (k : ℕ) → kept entries k ≡ None → (n : ℕ) → records_within (Tagged entries) n k ≡ None
open-none entries whole k none zero = refl
open-none entries whole k none (suc n) = ap (λ o. option_map closed (tag_placed (records_within (Tagged entries) n) o)) (get-shown entries k) ∙ by (slice_get entries k) refl
  where
    within : (e : Entry) → slice_get entries k ≡ Some e → (o : Option (List Member)) → e.tag.members ≡ o
        → option_map closed (tag_placed (records_within (Tagged entries) n) (Some (tag_of e.tag))) ≡ None
    within e is None m = ap (option_map closed) (open-placed (records_within (Tagged entries) n) e.tag m)
    within e is (Some ms) m = absurd (some-none (whole k e ms is m) (map-none e.plan (sym (ap kept_of is) ∙ none)))

    by : (o : Option Entry) → slice_get entries k ≡ o → option_map closed (tag_placed (records_within (Tagged entries) n) (option_map (λ e. tag_of e.tag) o)) ≡ None
    by None is = refl
    by (Some e) is = within e is e.tag.members refl

laid-from : (entries : List Entry) → Complete entries → (n : ℕ) → Extends (kept entries) (records_within (Tagged entries) n) → (k : ℕ) → records_within (Tagged entries) n k ≡ kept entries k
laid-from entries whole n holds k = by (kept entries k) refl
  where
    by : (o : Option Layout) → kept entries k ≡ o → records_within (Tagged entries) n k ≡ kept entries k
    by None is = open-none entries whole k is n ∙ sym is
    by (Some l) is = holds k l is ∙ sym is

count-below : (ts : List Tag) → count ts ≤ length (tags_of ts)
count-below [] = omega arith
count-below (t ∷ ts) = by (is_some t.members) (count-below ts)
  where
    by : (b : Bool) → count ts ≤ length (tags_of ts) → cond b (suc (count ts)) (count ts) ≤ suc (length (tags_of ts))
    by true rest = omega (arith, rest)
    by false rest = omega (arith, rest)

pub records-kept : (entries : List Entry) → IsKept entries → records (Tagged entries) ≡ kept entries
records-kept entries is =
    let n = length (Tagged entries) in
    let c = count (shown entries) in
    let below = count-below (shown entries) in
    fun_ext (deeper (Tagged entries) (kept entries) (layouts-are (kept entries) entries is.planned is.complete) n c (n - c) (omega (arith, below)) is.laid)

-- a deeper look finds no more
pub deeper-kept : (entries : List Entry) → IsKept entries → (old : List Tag) → shown entries ≡ old → (n k : ℕ) → length old ≤ n → records_within (tags_of old) n k ≡ records (tags_of old) k
deeper-kept entries is old view n k le =
    let c = count (shown entries) in
    let below = count-below (shown entries) in
    let long : length (Tagged entries) ≡ length (shown entries) = length-map (shown entries) tag_of in
    let same : length (shown entries) ≡ length old = ap length view in
    ap (λ ts. records_within (tags_of ts) n k) (sym view)
    ∙ deeper (Tagged entries) (kept entries) (layouts-are (kept entries) entries is.planned is.complete) n c (n - c) (omega (arith, below, long, same, le)) is.laid k
    ∙ sym (ap (λ r. r k) (records-kept entries is))
    ∙ ap (λ ts. records (tags_of ts) k) view

pub kept-aligned : (entries : List Entry) → IsKept entries → AllAligned entries
kept-aligned entries is k l e = tag-aligned (kept entries) (slice_get (Tagged entries) k) l (layouts-are (kept entries) entries is.planned is.complete k ∙ e)

-- where members stand
plan-offsets : (p : Option Placed) (o : Option Plan) → o ≡ planned p → is_some o ≡ true → option_map (λ q. q.offsets) p ≡ option_map (λ q. q.offsets) o
plan-offsets None o e is = absurd (some-none is e)
plan-offsets (Some p) o e is = by (nat_le (closed p).size most_bytes) e
  where
    by : (b : Bool) → o ≡ cond b (Some (record { layout = closed p; offsets = p.offsets })) None → Some p.offsets ≡ option_map (λ q. q.offsets) o
    by true e = sym (ap (option_map (λ (q : Plan). q.offsets)) e)
    by false e = absurd (some-none is e)

entry-offsets : (r : ℕ → Option Layout) (e : Entry) → e.plan ≡ planned (tag_placed r (Some (tag_of e.tag)))
    → ((ms : List Member) → e.tag.members ≡ Some ms → is_some e.plan ≡ true)
    → option_map (λ q. q.offsets) (tag_placed r (Some (tag_of e.tag))) ≡ offsets_of (Some e)
entry-offsets r e is whole = by e.tag.members refl
  where
    by : (o : Option (List Member)) → e.tag.members ≡ o → option_map (λ q. q.offsets) (tag_placed r (Some (tag_of e.tag))) ≡ option_map (λ q. q.offsets) e.plan
    by None m =
        let none = open-placed r e.tag m in
        ap (option_map (λ (q : Placed). q.offsets)) none ∙ sym (ap (option_map (λ (q : Plan). q.offsets)) (is ∙ ap planned none))
    by (Some ms) m = plan-offsets (tag_placed r (Some (tag_of e.tag))) e.plan is (whole ms m)

get-offset : (p : Option Placed) (i : ℕ) → option_and_then (λ p. slice_get p.offsets i) p ≡ option_and_then (λ offsets. slice_get offsets i) (option_map (λ q. q.offsets) p)
get-offset None i = refl
get-offset (Some p) i = refl

pub offset-kept : (entries : List Entry) → IsKept entries → (k i : ℕ) → offset (Tagged entries) k i ≡ option_and_then (λ offsets. slice_get offsets i) (offsets_of (slice_get entries k))
offset-kept entries is k i =
    ap (λ r. option_and_then (λ (p : Placed). slice_get p.offsets i) (tag_placed r (slice_get (Tagged entries) k))) (records-kept entries is)
    ∙ get-offset (tag_placed (kept entries) (slice_get (Tagged entries) k)) i
    ∙ ap (option_and_then (λ offsets. slice_get offsets i)) (ap (λ o. option_map (λ (q : Placed). q.offsets) (tag_placed (kept entries) o)) (get-shown entries k) ∙ by (slice_get entries k) refl)
  where
    by : (o : Option Entry) → slice_get entries k ≡ o → option_map (λ q. q.offsets) (tag_placed (kept entries) (option_map (λ e. tag_of e.tag) o)) ≡ offsets_of o
    by None at = refl
    by (Some e) at = entry-offsets (kept entries) e (is.planned k e at) (λ ms m. is.complete k e ms at m)

-- ---- a tag is declared

module _ (e : Entry) (no_plan : e.plan ≡ None) (no_members : e.tag.members ≡ None) where
  kept-push : (entries : List Entry) (k : ℕ) → kept (entries ++ e ∷ []) k ≡ kept entries k
  kept-push [] zero = ap (option_map (λ (q : Plan). q.layout)) no_plan
  kept-push [] (suc k) = refl
  kept-push (x ∷ xs) zero = refl
  kept-push (x ∷ xs) (suc k) = kept-push xs k

  count-push : (entries : List Entry) → count (shown (entries ++ e ∷ [])) ≡ count (shown entries)
  count-push [] = ap (λ o. cond (is_some o) 1 0) no_members
  count-push (x ∷ xs) = ap (λ n. cond (is_some x.tag.members) (suc n) n) (count-push xs)

  grows-push : (entries : List Entry) → Grows (Tagged entries) (Tagged (entries ++ e ∷ []))
  grows-push entries k t ms is whole = get-shown (entries ++ e ∷ []) k ∙ by (slice_get entries k) refl (sym (get-shown entries k) ∙ is)
    where
      by : (o : Option Entry) → slice_get entries k ≡ o → option_map (λ e. tag_of e.tag) o ≡ Some t → option_map (λ e. tag_of e.tag) (slice_get (entries ++ e ∷ []) k) ≡ Some t
      by None at h = absurd (none-some h)
      by (Some x) at h = ap (option_map (λ (e : Entry). tag_of e.tag)) (get-kept entries e k x at) ∙ h

  complete-push : (entries : List Entry) → Complete entries → Complete (entries ++ e ∷ [])
  complete-push entries whole k x ms is m = elim (get-push entries e k x is) [
    | inl h ↦ whole k x ms h m
    | inr same ↦ absurd (none-some (sym no_members ∙ sym (ap (λ (x : Entry). x.tag.members) same) ∙ m))
  ]

  pub declared : (entries : List Entry) → IsKept entries → IsKept (entries ++ e ∷ [])
  declared entries is =
      let same : kept (entries ++ e ∷ []) ≡ kept entries = fun_ext (kept-push entries) in
      let whole = complete-push entries is.complete in
      record {
        planned = λ k x at. elim (get-push entries e k x at) [
          | inl h ↦ is.planned k x h ∙ ap (λ r. planned (tag_placed r (Some (tag_of x.tag)))) (sym same)
          | inr new ↦ ap (λ (x : Entry). x.plan) new ∙ no_plan
              ∙ sym (ap planned (open-placed (kept (entries ++ e ∷ [])) x.tag (ap (λ (x : Entry). x.tag.members) new ∙ no_members)))
        ];
        complete = whole;
        laid = laid-from (entries ++ e ∷ []) whole (count (shown (entries ++ e ∷ [])))
            (λ k l h. ap (λ n. records_within (Tagged (entries ++ e ∷ [])) n k) (count-push entries)
            ∙ within-extends (Tagged entries) (Tagged (entries ++ e ∷ [])) (grows-push entries) (count (shown entries)) k l (is.laid k ∙ sym (kept-push entries k) ∙ h));
      }

-- ---- a record is completed

module _ (entries : List Entry) (k : ℕ) (e x : Entry) (ms : List Member) (plan : Plan) (is : IsKept entries) (at : slice_get entries k ≡ Some e)
    (no_members : e.tag.members ≡ None) (members : x.tag.members ≡ Some ms) (new_plan : x.plan ≡ Some plan)
    (fits : planned (tag_placed (kept entries) (Some (tag_of x.tag))) ≡ Some plan) where
  abbrev after : List Entry
  after = slice_set entries k x

  whole : is_some x.plan ≡ true
  whole = ap is_some new_plan

  not-kept : kept entries k ≡ None
  not-kept = ap kept_of at ∙ ap (option_map (λ (q : Plan). q.layout)) (is.planned k e at ∙ ap planned (open-placed (kept entries) e.tag no_members))

  more : Extends (kept entries) (kept after)
  more j l h = ap kept_of (set-other entries k j x (λ same. none-some (sym not-kept ∙ ap (kept entries) (sym same) ∙ h))) ∙ h

  complete-set : Complete after
  complete-set j y ys h m = elim (get-set entries k j x y h) [
    | inl old ↦ is.complete j y ys old.0 m
    | inr new ↦ ap (λ (y : Entry). is_some y.plan) new.1 ∙ whole
  ]

  old-plans : Planned (kept entries) after
  old-plans j y h = elim (get-set entries k j x y h) [
    | inl old ↦ is.planned j y old.0
    | inr new ↦ ap (λ (y : Entry). y.plan) new.1 ∙ new_plan ∙ sym fits ∙ ap (λ (y : Entry). planned (tag_placed (kept entries) (Some (tag_of y.tag)))) (sym new.1)
  ]

  grows-set : Grows (Tagged entries) (Tagged after)
  grows-set j t ts h m = get-shown after j ∙ by (slice_get entries j) refl (sym (get-shown entries j) ∙ h)
    where
      by : (o : Option Entry) → slice_get entries j ≡ o → option_map (λ e. tag_of e.tag) o ≡ Some t → option_map (λ e. tag_of e.tag) (slice_get after j) ≡ Some t
      by None here f = absurd (none-some f)
      by (Some y) here f =
          let other : j ≢ k = λ same.
          let y-is-e : e ≡ y = some-some (sym at ∙ ap (slice_get entries) (sym same) ∙ here) in
          let tag-is : tag_of y.tag ≡ t = some-some f in
          none-some (sym (ap (λ (e : Entry). option_map members_of e.tag.members) (sym y-is-e) ∙ ap (option_map members_of) no_members) ∙ ap (λ (t : ty.Tag). t.members) tag-is ∙ m) in
          ap (option_map (λ (e : Entry). tag_of e.tag)) (set-other entries k j x other ∙ here) ∙ f

count-set : (entries : List Entry) (k : ℕ) (e x : Entry) (ms : List Member) → slice_get entries k ≡ Some e → e.tag.members ≡ None → x.tag.members ≡ Some ms
    → count (shown (slice_set entries k x)) ≡ suc (count (shown entries))
count-set [] k e x ms at was now = absurd (none-some at)
count-set (z ∷ zs) zero e x ms at was now =
    let z-is : z ≡ e = some-some at in
    ap (λ o. cond (is_some o) (suc (count (shown zs))) (count (shown zs))) now
    ∙ sym (ap (λ o. suc (cond (is_some o) (suc (count (shown zs))) (count (shown zs)))) (ap (λ (z : Entry). z.tag.members) z-is ∙ was))
count-set (z ∷ zs) (suc k) e x ms at was now = ap (λ n. cond (is_some z.tag.members) (suc n) n) (count-set zs k e x ms at was now) ∙ by (is_some z.tag.members) (count (shown zs))
  where
    by : (b : Bool) (n : ℕ) → cond b (suc (suc n)) (suc n) ≡ suc (cond b (suc n) n)
    by true n = refl
    by false n = refl

pub completed-kept : (entries : List Entry) (k : ℕ) (e x : Entry) (ms : List Member) (plan : Plan) → IsKept entries → slice_get entries k ≡ Some e → e.tag.members ≡ None
    → x.tag.members ≡ Some ms → x.plan ≡ Some plan → planned (tag_placed (kept entries) (Some (tag_of x.tag))) ≡ Some plan → IsKept (slice_set entries k x)
completed-kept entries k e x ms plan is at was now new fits =
    let after = slice_set entries k x in
    let plans = old-plans entries k e x ms plan is at was now new fits in
    let whole = complete-set entries k e x ms plan is at was now new fits in
    let grows = grows-set entries k e x ms plan is at was now new fits in
    let bigger = more entries k e x ms plan is at was now new fits in
    let c = count (shown entries) in
    let deep : Extends (kept entries) (records_within (Tagged after) c) =
    λ j l h. within-extends (Tagged entries) (Tagged after) grows c j l (is.laid j ∙ h) in
    record {
      planned = λ j y h. entry-extends (kept entries) (kept after) bigger y (plans j y h) (λ ys m. whole j y ys h m);
      complete = whole;
      laid = laid-from after whole (count (shown after)) (λ j l h.
          ap (λ n. records_within (Tagged after) n j) (count-set entries k e x ms at was now)
          ∙ closed-extends (tag_placed (kept entries) (slice_get (Tagged after) j)) (tag_placed (records_within (Tagged after) c) (slice_get (Tagged after) j)) l
          (tag-extends (kept entries) (records_within (Tagged after) c) deep (slice_get (Tagged after) j)) (layouts-are (kept entries) after plans whole j ∙ h));
    }
