-- A record is completed as the definition says.
use Rattle.std.proofs.Common.{◌≡◌, ℕ, zero, suc, Bool, true, false, List, [], ◌∷◌, cond, refl, sym, ap, ◌∙◌}
use Rattle.std.specs.Prelude.{◌&&◌, not, nat_le, Option, Some, None, is_some, option_map, option_and_then, slice_get, slice_set}
use Rattle.c_type.specs.declared.tags.Entry.{Entry}
use Rattle.c_type.specs.declared.tags.Member.{Member}
use Rattle.c_type.specs.declared.tags.Plan.{Plan}
use Rattle.c_type.specs.declared.tags.Tag.{Tag}
use Rattle.c_type.specs.declared.tags.TagKind.{TagKind}
use Rattle.c_type.specs.Kept.{IsKept, kept, open_at, planned, shown, with_members}
use Rattle.c_type.specs.Layout.{Placed, closed, completed, fits, is_open, is_record, layout_of, most_bytes, placed, records}
use Rattle.c_type.specs.Types as ty
use Rattle.c_type.specs.View.{members_of, tag_of, tags_of}
use Rattle.c_type.proofs.Extends.{none-some, some-some}
use Rattle.c_type.proofs.Grown.{completed-kept, records-kept, true-false}
use Rattle.c_type.proofs.Kept.{get-shown}

-- the entry of an incomplete record
pub record Found (o : Option Entry) (kind : TagKind) : Type 0 where
  pub entry : Entry
  pub at : o ≡ Some entry
  pub open_now : is_open (tag_of entry.tag) ≡ true
  pub kind_is : kind ≡ entry.tag.kind
  pub no_members : entry.tag.members ≡ None

from-open : (a : Bool) (o : Option (List Member)) → (a && not (is_some (option_map members_of o))) ≡ true → o ≡ None
from-open true None is = refl
from-open true (Some ms) is = absurd (true-false (sym is))
from-open false o is = absurd (true-false (sym is))

pub found : (o : Option Entry) (kind : TagKind) → Some kind ≡ open_at o → Found o kind
found None kind is = absurd (none-some (sym is))
found (Some e) kind is = by (is_open (tag_of e.tag)) refl is
  where
    by : (b : Bool) → is_open (tag_of e.tag) ≡ b → Some kind ≡ cond b (Some e.tag.kind) None → Found (Some e) kind
    by true open_now is = record { entry = e; at = refl; open_now = open_now; kind_is = some-some is; no_members = from-open (is_record e.tag.kind) e.tag.members open_now }
    by false shut is = absurd (none-some (sym is))

fits-if : (p : Option Placed) (plan : Plan) → Some plan ≡ planned p → fits p ≡ true
fits-if None plan is = absurd (none-some (sym is))
fits-if (Some p) plan is = by (nat_le (closed p).size most_bytes) is
  where
    by : (b : Bool) → Some plan ≡ cond b (Some (record { layout = closed p; offsets = p.offsets })) None → b ≡ true
    by true is = refl
    by false is = absurd (none-some (sym is))

fits-not : (p : Option Placed) → None ≡ planned p → fits p ≡ false
fits-not None is = refl
fits-not (Some p) is = by (nat_le (closed p).size most_bytes) is
  where
    by : (b : Bool) → ◌≡◌ {A = Option Plan} None (cond b (Some (record { layout = closed p; offsets = p.offsets })) None) → b ≡ false
    by true is = absurd (none-some is)
    by false is = refl

both : {A : Type 0} (a b : Bool) (x y : A) → a ≡ true → b ≡ true → cond (a && b) x y ≡ x
both true true x y p q = refl
both true false x y p q = absurd (true-false (sym q))
both false b x y p q = absurd (true-false (sym p))

first-not : {A : Type 0} (a b : Bool) (x y : A) → a ≡ false → cond (a && b) x y ≡ y
first-not true b x y p = absurd (true-false p)
first-not false b x y p = refl

second-not : {A : Type 0} (a b : Bool) (x y : A) → b ≡ false → cond (a && b) x y ≡ y
second-not true true x y p = absurd (true-false p)
second-not true false x y p = refl
second-not false b x y p = refl

set-tagged : (entries : List Entry) (k : ℕ) (x : Entry) → slice_set (tags_of (shown entries)) k (tag_of x.tag) ≡ tags_of (shown (slice_set entries k x))
set-tagged [] k x = refl
set-tagged (e ∷ es) zero x = refl
set-tagged (e ∷ es) (suc k) x = ap (λ ts. tag_of e.tag ∷ ts) (set-tagged es k x)

module _ (entries : List Entry) (is : IsKept entries) (k : ℕ) (ms : List Member) where
  abbrev tags : ty.Tags
  tags = tags_of (shown entries)

  abbrev with_all : ty.Tag → Option ty.Tags
  with_all t = Some (slice_set tags k (record t { members = Some (members_of ms) }))

  looked : (e : Entry) → slice_get entries k ≡ Some e → completed tags k (members_of ms)
      ≡ cond (is_open (tag_of e.tag) && fits (placed (layout_of (kept entries)) e.tag.kind (members_of ms))) (with_all (tag_of e.tag)) None
  looked e at =
      ap (option_and_then (λ t. cond (is_open t && fits (placed (layout_of (records tags)) t.kind (members_of ms))) (with_all t) None))
      (get-shown entries k ∙ ap (option_map (λ (e : Entry). tag_of e.tag)) at)
      ∙ ap (λ r. cond (is_open (tag_of e.tag) && fits (placed (layout_of r) e.tag.kind (members_of ms))) (with_all (tag_of e.tag)) None) (records-kept entries is)

  module _ (kind : TagKind) (f : Found (slice_get entries k) kind) where
    plan-at : (plan : Option Plan) → plan ≡ planned (placed (layout_of (kept entries)) kind (members_of ms)) → plan ≡ planned (placed (layout_of (kept entries)) f.entry.tag.kind (members_of ms))
    plan-at plan e = e ∙ ap (λ k. planned (placed (layout_of (kept entries)) k (members_of ms))) f.kind_is

    pub completed-is : (plan : Plan) → Some plan ≡ planned (placed (layout_of (kept entries)) kind (members_of ms))
        → completed tags k (members_of ms) ≡ Some (tags_of (shown (slice_set entries k (with_members f.entry ms plan))))
    completed-is plan e =
        looked f.entry f.at
        ∙ both (is_open (tag_of f.entry.tag)) (fits (placed (layout_of (kept entries)) f.entry.tag.kind (members_of ms))) (with_all (tag_of f.entry.tag)) None
        f.open_now (fits-if (placed (layout_of (kept entries)) f.entry.tag.kind (members_of ms)) plan (plan-at (Some plan) e))
        ∙ ap Some (set-tagged entries k (with_members f.entry ms plan))

    pub completed-not : None ≡ planned (placed (layout_of (kept entries)) kind (members_of ms)) → completed tags k (members_of ms) ≡ None
    completed-not e =
        looked f.entry f.at
        ∙ second-not (is_open (tag_of f.entry.tag)) (fits (placed (layout_of (kept entries)) f.entry.tag.kind (members_of ms))) (with_all (tag_of f.entry.tag)) None
        (fits-not (placed (layout_of (kept entries)) f.entry.tag.kind (members_of ms)) (plan-at None e))

    pub kept-after : (plan : Plan) → Some plan ≡ planned (placed (layout_of (kept entries)) kind (members_of ms)) → IsKept (slice_set entries k (with_members f.entry ms plan))
    kept-after plan e = completed-kept entries k f.entry (with_members f.entry ms plan) ms plan is f.at f.no_members refl refl (sym (plan-at (Some plan) e))

  pub completed-shut : None ≡ open_at (slice_get entries k) → completed tags k (members_of ms) ≡ None
  completed-shut shut = by (slice_get entries k) refl
    where
      closed-by : (e : Entry) → slice_get entries k ≡ Some e → (b : Bool) → is_open (tag_of e.tag) ≡ b → None ≡ cond b (Some e.tag.kind) None → completed tags k (members_of ms) ≡ None
      closed-by e at true o h = absurd (none-some h)
      closed-by e at false o h =
          looked e at ∙ first-not (is_open (tag_of e.tag)) (fits (placed (layout_of (kept entries)) e.tag.kind (members_of ms))) (with_all (tag_of e.tag)) None o

      by : (o : Option Entry) → slice_get entries k ≡ o → completed tags k (members_of ms) ≡ None
      by None at =
          ap (option_and_then (λ t. cond (is_open t && fits (placed (layout_of (records tags)) t.kind (members_of ms))) (with_all t) None))
          (get-shown entries k ∙ ap (option_map (λ (e : Entry). tag_of e.tag)) at)
      by (Some e) at = closed-by e at (is_open (tag_of e.tag)) refl (shut ∙ ap open_at at)

-- the same of the tags as contracts see them
seen : (entries : List Entry) (old : List Tag) (k : ℕ) (ms : List Member) (o : Option ty.Tags) → shown entries ≡ old
    → completed (tags_of (shown entries)) k (members_of ms) ≡ o → completed (tags_of old) k (members_of ms) ≡ o
seen entries old k ms o view is = sym (ap (λ ts. completed (tags_of ts) k (members_of ms)) view) ∙ is

pub shut : (slice entries : List Entry) (old : List Tag) (k : ℕ) (ms : List Member) → IsKept entries → slice ≡ entries → shown entries ≡ old
    → None ≡ open_at (slice_get slice k) → completed (tags_of old) k (members_of ms) ≡ None
shut slice entries old k ms is same view none = seen entries old k ms None view (completed-shut entries is k ms (none ∙ ap (λ es. open_at (slice_get es k)) same))

pub found-in : (slice entries : List Entry) (k : ℕ) (kind : TagKind) → slice ≡ entries → Some kind ≡ open_at (slice_get slice k) → Found (slice_get entries k) kind
found-in slice entries k kind same is = found (slice_get entries k) kind (is ∙ ap (λ es. open_at (slice_get es k)) same)

pub plan-in : (slice entries : List Entry) (kind : TagKind) (given ms : List Member) (field plan : Option Plan) → slice ≡ entries → given ≡ ms → field ≡ plan
    → field ≡ planned (placed (layout_of (kept slice)) kind (members_of given)) → plan ≡ planned (placed (layout_of (kept entries)) kind (members_of ms))
plan-in slice entries kind given ms field plan same given-is field-is e =
    sym field-is ∙ e ∙ ap (λ es. planned (placed (layout_of (kept es)) kind (members_of given))) same
    ∙ ap (λ ms. planned (placed (layout_of (kept entries)) kind (members_of ms))) given-is

pub unfit : (entries : List Entry) (old : List Tag) (k : ℕ) (ms : List Member) (kind : TagKind) → IsKept entries → shown entries ≡ old → Found (slice_get entries k) kind
    → None ≡ planned (placed (layout_of (kept entries)) kind (members_of ms)) → completed (tags_of old) k (members_of ms) ≡ None
unfit entries old k ms kind is view f e = seen entries old k ms None view (completed-not entries is k ms kind f e)

pub fit : (entries : List Entry) (old : List Tag) (k : ℕ) (ms : List Member) (kind : TagKind) (plan : Plan) → IsKept entries → shown entries ≡ old → (f : Found (slice_get entries k) kind)
    → Some plan ≡ planned (placed (layout_of (kept entries)) kind (members_of ms))
    → completed (tags_of old) k (members_of ms) ≡ Some (tags_of (shown (slice_set entries k (with_members f.entry ms plan))))
fit entries old k ms kind plan is view f e = seen entries old k ms (Some (tags_of (shown (slice_set entries k (with_members f.entry ms plan))))) view (completed-is entries is k ms kind f plan e)
