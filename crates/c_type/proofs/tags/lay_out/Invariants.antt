use Rattle.std.proofs.Common.{◌≡◌, ◌<◌, ◌≤◌, ◌^◌, drop}
use Rattle.c_type.specs.Kept.{kept}
use Rattle.c_type.specs.Layout.{layout_of, placed}
use Rattle.c_type.specs.View.{members_of}
use Rattle.c_type.proofs.Plans.{so_far}
use Rattle.c_type.proofs.tags.lay_out.Given as goal

abbrev pub invariant-loop-member : goal.invariant-loop-member
invariant-loop-member l = record {
  placed : so_far (kept l.entries) l.kind l.together l.offsets (drop l.member-index l.members) ≡ placed (layout_of (kept l.fn.entries)) l.kind (members_of l.fn.members);
  small : l.together.size ≤ 2 ^ 26;
  aligned : 0 < l.together.align;
}
