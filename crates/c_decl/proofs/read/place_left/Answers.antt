use Rattle.std.proofs.Common.{◌≡◌, ◌-◌, length, slice_get, None, Some, rules, arith, ap, ◌∙◌}
use Rattle.std.proofs.lemmas.Grind.{common_steps}
use Rattle.c_decl.proofs.Places.{place_some, place_none, place_or}
use Rattle.c_decl.proofs.read.place_left.Goals as goal

pub returns-in-Some : goal.returns-in-Some
returns-in-Some c =
    let e : slice_get c.args.toks.now (length c.args.toks.now - c.args.left) ≡ Some c.in-Some.next.now = first_of (cc, search rules, grind (arith, common_steps)) in
    place_some c.args.toks.now c.args.left c.in-Some.next.now e

pub returns-in-Some-at : goal.returns-in-Some-at
returns-in-Some-at c =
    let e : slice_get c.args.toks.now (length c.args.toks.now - c.args.left) ≡ None = first_of (cc, search rules, grind (arith, common_steps)) in
    let k : Some c.in-Some-at.last.now ≡ slice_get c.args.toks.now (length c.args.toks.now - 1) = first_of (cc, search rules, grind (arith, common_steps)) in
    ap place_or k ∙ place_none c.args.toks.now c.args.left e

pub returns-in-None : goal.returns-in-None
returns-in-None c =
    let e : slice_get c.args.toks.now (length c.args.toks.now - c.args.left) ≡ None = first_of (cc, search rules, grind (arith, common_steps)) in
    let k : None ≡ slice_get c.args.toks.now (length c.args.toks.now - 1) = first_of (cc, search rules, grind (arith, common_steps)) in
    ap place_or k ∙ place_none c.args.toks.now c.args.left e
