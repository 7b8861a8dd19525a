-- What the code keeps of tags.
use Rattle.std.specs.Prelude.{◌≡◌, ℕ, suc, ◌<◌, nat_le, true, if◌then◌else◌, List, [], ◌∷◌, map, Option, Some, None, is_some, option_map, option_and_then, slice_get}
use Rattle.c_type.specs.declared.layout.Layout.{Layout}
use Rattle.c_type.specs.declared.tags.Entry.{Entry}
use Rattle.c_type.specs.declared.tags.Member.{Member}
use Rattle.c_type.specs.declared.tags.Plan.{Plan}
use Rattle.c_type.specs.declared.tags.Tag.{Tag}
use Rattle.c_type.specs.declared.tags.TagKind.{TagKind}
use Rattle.c_type.specs.Layout.{Placed, closed, is_open, most_bytes, records_within, tag_placed}
use Rattle.c_type.specs.View.{tag_of, tags_of}

-- the tags as contracts see them
abbrev pub shown : List Entry → List Tag
shown entries = map (λ e. e.tag) entries

-- the layout that is kept of a record
abbrev pub kept_of : Option Entry → Option Layout
kept_of None = None
kept_of (Some e) = option_map (λ p. p.layout) e.plan

-- where the members of a record are kept to stand
abbrev pub offsets_of : Option Entry → Option (List ℕ)
offsets_of None = None
offsets_of (Some e) = option_map (λ p. p.offsets) e.plan

abbrev pub kept : List Entry → ℕ → Option Layout
kept entries k = kept_of (slice_get entries k)

-- the plan of a record whose members are placed so, if it fits
abbrev pub plan_of : Placed → Option Plan
plan_of p = if nat_le (closed p).size most_bytes then Some (record { layout = closed p; offsets = p.offsets }) else None

abbrev pub planned : Option Placed → Option Plan
planned p = option_and_then plan_of p

-- the kind of an incomplete record's tag
abbrev pub open_at : Option Entry → Option TagKind
open_at None = None
open_at (Some e) = if is_open (tag_of e.tag) then Some e.tag.kind else None

-- a record's entry with its members
abbrev pub with_members : Entry → List Member → Plan → Entry
with_members e ms p = record { tag = record e.tag { members = Some ms }; plan = Some p }

-- how many records are complete
abbrev pub count : List Tag → ℕ
count [] = 0
count (t ∷ ts) = if is_some t.members then suc (count ts) else count ts

-- each complete record has the plan of its members, and what is kept is what the definition says: no record holds
-- others deeper than there are complete ones
pub record IsKept (entries : List Entry) : Type 0 where
  pub planned : (k : ℕ) (e : Entry) → slice_get entries k ≡ Some e → e.plan ≡ planned (tag_placed (kept entries) (Some (tag_of e.tag)))
  pub complete : (k : ℕ) (e : Entry) (ms : List Member) → slice_get entries k ≡ Some e → e.tag.members ≡ Some ms → is_some e.plan ≡ true
  pub laid : (k : ℕ) → records_within (tags_of (shown entries)) (count (shown entries)) k ≡ kept entries k

-- no alignment is 0
abbrev pub AllAligned : List Entry → Type 0
AllAligned entries = (k : ℕ) (l : Layout) → kept entries k ≡ Some l → 0 < l.align
