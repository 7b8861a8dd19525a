use Rattle.std.proofs.Common.{◌≡◌, [], ◌∷◌, rules, arith}
use Rattle.std.proofs.lemmas.Grind.{common_steps}
use Rattle.c_unit.proofs.Floats.{float_here, float_later, float_none}
use Rattle.c_unit.proofs.unit.first_float.Goals as goal

pub returns-then-is_float : goal.returns-then-is_float
returns-then-is_float c =
    let cons : c.loop-first.rest.now ≡ c.in-Some.first.now ∷ c.in-Some.more.now = first_of (search rules, grind (arith, common_steps)) in
    float_here _ _ _ _ _ c.loop-first.invariant cons c.if-is_float.true c.is_float.ensures

pub loop-first-preserved : goal.loop-first-preserved
loop-first-preserved c =
    let cons : c.loop-first.rest.now ≡ c.in-Some.first.now ∷ c.in-Some.more.now = first_of (search rules, grind (arith, common_steps)) in
    float_later _ _ _ _ _ c.loop-first.invariant cons c.if-is_float.false c.is_float.ensures

pub returns : goal.returns
returns c =
    let none : c.loop-first.rest.now ≡ [] = first_of (search rules, grind (arith, common_steps)) in
    float_none _ _ c.loop-first.invariant none
