use Rattle.std.proofs.Common.{rules, ◌≡◌, ◌≢◌, Ok, Err, arith, refl, sym, ap, ◌∙◌}
use Rattle.std.proofs.lemmas.Grind.{common_steps}
use Rattle.pp_macro.specs.declared.fault.ExpandFault.TheVariants.{NoMemory}
use Rattle.pp_macro.specs.Fill.{brought, joined}
use Rattle.pp_macro.proofs.Fills.{finished, refused, taken_alone, taken_joined}
use Rattle.pp_macro.proofs.fill.Arguments.fill.Goals as goal

pub returns-in_err-left-in-Paste : goal.returns-in_err-left-in-Paste
returns-in_err-left-in-Paste c =
    let stops = λ (e : c.in_err-left-in-Paste.field-0.0 ≢ NoMemory).
    let fails : joined c.args.at c.in-Paste.paste c.loop-piece.left (brought c.args.self.now.raw.now c.args.self.now.expanded.now c.in-Paste.right) ≡ Err c.in_err-left-in-Paste.field-0.0 =
    ap (joined c.args.at c.in-Paste.paste c.loop-piece.left) (sym c.in_ok-right-in-Paste.ensures) ∙ c.in_err-left-in-Paste.ensures e in
    refused c.args.self.now.raw.now c.args.self.now.expanded.now c.args.at _ c.loop-piece.out c.loop-piece.left c.loop-piece.pieces c.loop-piece.invariant
    c.pop-in-loop-piece.new.self c.in-Some-pop.piece c.in-Some-pop.ensures c.in-Paste.paste c.in-Paste.right _ c.in-Paste.ensures.0 c.in-Paste.ensures.1 c.in-Paste.ensures.2 _ fails in
    first_of (search rules, grind (arith, common_steps))

pub loop-piece-preserved-in-Paste : goal.loop-piece-preserved-in-Paste
loop-piece-preserved-in-Paste c =
    let joins : joined c.args.at c.in-Paste.paste c.loop-piece.left (brought c.args.self.now.raw.now c.args.self.now.expanded.now c.in-Paste.right) ≡ Ok c.in_ok-left-in-Paste.left =
    ap (joined c.args.at c.in-Paste.paste c.loop-piece.left) (sym c.in_ok-right-in-Paste.ensures) ∙ c.in_ok-left-in-Paste.ensures in
    taken_joined c.args.self.now.raw.now c.args.self.now.expanded.now c.args.at _ c.loop-piece.out c.loop-piece.left c.loop-piece.pieces c.loop-piece.invariant
    c.pop-in-loop-piece.new.self c.in-Some-pop.piece c.in-Some-pop.ensures c.in-Paste.paste c.in-Paste.right _ c.in-Paste.ensures.0 c.in-Paste.ensures.1 c.in-Paste.ensures.2 _ joins

pub loop-piece-preserved : goal.loop-piece-preserved
loop-piece-preserved c =
    taken_alone c.args.self.now.raw.now c.args.self.now.expanded.now c.args.at _ c.loop-piece.out c.loop-piece.left c.loop-piece.pieces c.loop-piece.invariant
    c.pop-in-loop-piece.new.self c.in-Some-pop.piece c.in-Some-pop.ensures c.in-Alone.piece _ c.in-Alone.ensures.0 c.in-Alone.ensures.1 c.in-Alone.ensures.2
    ∙ rw (c.in_ok-append-in-Alone.ensures, c.in_ok-left-in-Alone.ensures) refl

pub returns : goal.returns
returns c =
    finished c.args.self.now.raw.now c.args.self.now.expanded.now c.args.at _ c.loop-piece.out c.loop-piece.left c.loop-piece.pieces c.loop-piece.invariant c.in_default-pop.ensures.0
    ∙ rw c.in_ok-append.ensures refl
