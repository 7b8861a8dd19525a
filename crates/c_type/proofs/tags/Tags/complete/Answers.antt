use Rattle.std.proofs.Common.{ap, sym, subst, ◌∙◌}
use Rattle.std.specs.Prelude.{Some, None, is_some, unwrap_or}
use Rattle.c_type.specs.Kept.{AllAligned, IsKept, shown}
use Rattle.c_type.specs.View.{tags_of}
use Rattle.c_type.proofs.Completed.{fit, found-in, kept-after, plan-in, shut, unfit}
use Rattle.c_type.proofs.Grown.{kept-aligned}
use Rattle.c_type.proofs.tags.Tags.complete.Goals as goal

pub returns-in_default-clause-done : goal.returns-in_default-clause-done
returns-in_default-clause-done c = sym (ap is_some
    (shut c.as_slice.result.now c.self.inside.entries.items c.args.self.now c.args.tag c.args.members c.self.invariant c.as_slice.ensures.value c.self.view_is c.in_default.ensures))

pub returns-in_default-clause-after : goal.returns-in_default-clause-after
returns-in_default-clause-after c = sym (ap (λ o. unwrap_or o (tags_of c.args.self.now))
    (shut c.as_slice.result.now c.self.inside.entries.items c.args.self.now c.args.tag c.args.members c.self.invariant c.as_slice.ensures.value c.self.view_is c.in_default.ensures))

pub lay_out-requires : goal.lay_out-requires
lay_out-requires c = subst AllAligned (sym c.as_slice-2.ensures.value) (kept-aligned c.self.inside.entries.items c.self.invariant)

pub returns-in_default-2-clause-done : goal.returns-in_default-2-clause-done
returns-in_default-2-clause-done c =
    let f = found-in c.as_slice.result.now c.self.inside.entries.items c.args.tag c.in-Some.kind c.as_slice.ensures.value c.in-Some.ensures in
    let e = plan-in c.as_slice-2.result.now c.self.inside.entries.items c.in-Some.kind c.as_slice-3.result.now c.args.members c.in_ok-plan.field-0 None
    c.as_slice-2.ensures.value c.as_slice-3.ensures c.in_default-2.is c.in_ok-plan.ensures in
    sym (ap is_some (unfit c.self.inside.entries.items c.args.self.now c.args.tag c.args.members c.in-Some.kind c.self.invariant c.self.view_is f e))

pub returns-in_default-2-clause-after : goal.returns-in_default-2-clause-after
returns-in_default-2-clause-after c =
    let f = found-in c.as_slice.result.now c.self.inside.entries.items c.args.tag c.in-Some.kind c.as_slice.ensures.value c.in-Some.ensures in
    let e = plan-in c.as_slice-2.result.now c.self.inside.entries.items c.in-Some.kind c.as_slice-3.result.now c.args.members c.in_ok-plan.field-0 None
    c.as_slice-2.ensures.value c.as_slice-3.ensures c.in_default-2.is c.in_ok-plan.ensures in
    sym (ap (λ o. unwrap_or o (tags_of c.args.self.now))
    (unfit c.self.inside.entries.items c.args.self.now c.args.tag c.args.members c.in-Some.kind c.self.invariant c.self.view_is f e))

pub invariant_of-self : goal.invariant_of-self
invariant_of-self c =
    let f = found-in c.as_slice.result.now c.self.inside.entries.items c.args.tag c.in-Some.kind c.as_slice.ensures.value c.in-Some.ensures in
    let e = plan-in c.as_slice-2.result.now c.self.inside.entries.items c.in-Some.kind c.as_slice-3.result.now c.args.members c.in_ok-plan.field-0 (Some c.in-Some-2.plan)
    c.as_slice-2.ensures.value c.as_slice-3.ensures c.in-Some-2.is c.in_ok-plan.ensures in
    subst IsKept (sym (c.set_members.ensures f.entry f.at)) (kept-after c.self.inside.entries.items c.self.invariant c.args.tag c.args.members c.in-Some.kind f c.in-Some-2.plan e)

pub returns-clause-done : goal.returns-clause-done
returns-clause-done c =
    let f = found-in c.as_slice.result.now c.self.inside.entries.items c.args.tag c.in-Some.kind c.as_slice.ensures.value c.in-Some.ensures in
    let e = plan-in c.as_slice-2.result.now c.self.inside.entries.items c.in-Some.kind c.as_slice-3.result.now c.args.members c.in_ok-plan.field-0 (Some c.in-Some-2.plan)
    c.as_slice-2.ensures.value c.as_slice-3.ensures c.in-Some-2.is c.in_ok-plan.ensures in
    sym (ap is_some (fit c.self.inside.entries.items c.args.self.now c.args.tag c.args.members c.in-Some.kind c.in-Some-2.plan c.self.invariant c.self.view_is f e))

pub returns-clause-after : goal.returns-clause-after
returns-clause-after c =
    let f = found-in c.as_slice.result.now c.self.inside.entries.items c.args.tag c.in-Some.kind c.as_slice.ensures.value c.in-Some.ensures in
    let e = plan-in c.as_slice-2.result.now c.self.inside.entries.items c.in-Some.kind c.as_slice-3.result.now c.args.members c.in_ok-plan.field-0 (Some c.in-Some-2.plan)
    c.as_slice-2.ensures.value c.as_slice-3.ensures c.in-Some-2.is c.in_ok-plan.ensures in
    ap (λ es. tags_of (shown es)) (c.set_members.ensures f.entry f.at)
    ∙ sym (ap (λ o. unwrap_or o (tags_of c.args.self.now)) (fit c.self.inside.entries.items c.args.self.now c.args.tag c.args.members c.in-Some.kind c.in-Some-2.plan c.self.invariant c.self.view_is f e))
