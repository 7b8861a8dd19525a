use Rattle.std.proofs.Common.{◌≡◌, Some, None, ap, sym, ◌∙◌}
use Rattle.pp_macro.specs.Expand.{due}
use Rattle.pp_macro.specs.Nests.{found_macro, macro_of}
use Rattle.pp_macro.proofs.Enough.{ended_due, found_due, stays_due, taken_next, taken_none}
use Rattle.pp_macro.proofs.expander.next_due.Goals as goal

pub returns-in-Some-2 : goal.returns-in-Some-2
returns-in-Some-2 c inner again count =
    let is : due c.args.table.now c.args.names.now c.in-Some.token c.pop.new.self ≡ Some (macro_of c.in-Some-2.found) = sym c.in_ok-found.ensures ∙ ap found_macro c.in-Some-2.is in
    c.loop-token.invariant inner again count
    ∙ rw (taken_next _ _ _ _ c.in_ok-token.ensures c.in-Some.is) (found_due c.args.table.now c.args.names.now inner again count c.in-Some.token c.pop.new.self c.loop-token.out (macro_of c.in-Some-2.found) is)

pub loop-token-preserved : goal.loop-token-preserved
loop-token-preserved c inner again count =
    let none : due c.args.table.now c.args.names.now c.in-Some.token c.pop.new.self ≡ None = sym c.in_ok-found.ensures ∙ ap found_macro c.in_default-2.is in
    c.loop-token.invariant inner again count
    ∙ rw (taken_next _ _ _ _ c.in_ok-token.ensures c.in-Some.is, c.in_ok-push.ensures.ok)
    (stays_due c.args.table.now c.args.names.now inner again count c.in-Some.token c.pop.new.self c.loop-token.out none)

pub returns : goal.returns
returns c inner again count =
    c.loop-token.invariant inner again count ∙ rw (taken_none _ _ _ c.in_ok-token.ensures c.in_default.is) (ended_due c.args.table.now c.args.names.now inner again count c.loop-token.out)
