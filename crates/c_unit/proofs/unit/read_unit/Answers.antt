use Rattle.std.proofs.Common.{◌≡◌, Option, Err, sym, ap, ◌∙◌, rules}
use Rattle.c_decl.specs.declared.fault.Halt.{Halt}
use Rattle.c_decl.specs.declared.fault.Halt.TheVariants as halt
use Rattle.c_decl.specs.declared.marking.Marking.{Marking}
use Rattle.c_decl.specs.Parsed.{whole_or}
use Rattle.c_unit.proofs.Told.{outcome_at, given_ok, given_err}
use Rattle.c_unit.proofs.unit.read_unit.Goals as goal

pub returns-in-Ok : goal.returns-in-Ok
returns-in-Ok c =
    given_ok c.args.toks.now _ c.in-Ok.x c.within_limits.new.cursor c.unless_marked.result (outcome_at c.args.toks.now _ _ c.new-cursor.ensures c.new.ensures c.in-Ok.ensures)
    (c.unless_marked.ensures ∙ ap (λ (z : Option Marking). whole_or c.args.toks.now c.in-Ok.x.tree z) c.marked.ensures)

pub returns-in-Err-Syntax : goal.returns-in-Err-Syntax
returns-in-Err-Syntax c =
    let f : c.in-Err-Syntax.field-0 ≡ halt.Syntax c.in-Err-Syntax.left = first_of (search rules, cc) in
    given_err c.args.toks.now _ c.in-Err-Syntax.left c.place_left.result
    (outcome_at c.args.toks.now _ _ c.new-cursor.ensures c.new.ensures (c.in-Err-Syntax.ensures (λ w. absurd (let e = sym f ∙ w in cc)) ∙ ap (λ (z : Halt). Err z) f)) c.place_left.ensures
