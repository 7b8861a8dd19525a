use Rattle.std.proofs.Common.{rules, ◌≢◌, ◌∙◌, arith, refl}
use Rattle.std.proofs.lemmas.Grind.{common_steps}
use Rattle.pp_macro.specs.declared.fault.ExpandFault.TheVariants.{NoMemory}
use Rattle.pp_macro.proofs.Enough.{finished, halted, turned}
use Rattle.pp_macro.proofs.expander.Expander.walk.Goals as goal

pub returns-in_err-filling-clause-reads : goal.returns-in_err-filling-clause-reads
returns-in_err-filling-clause-reads g c =
    let stops = λ (e : c.in_err-filling.field-0.0 ≢ NoMemory).
    halted c.args.self.now.table.now c.args.self.now.names.now c.args.self.now.depth _ _ _ _ _ c.in_ok-token.ensures _ _ c.loop-unread.invariant.0
    c.in-Some.token c.in-Some.found c.in-Some.is _ (rw c.get.ensures at (c.in_err-filling.ensures.reads e)) in
    first_of (search rules, grind (arith, common_steps))

pub loop-unread-preserved : goal.loop-unread-preserved
loop-unread-preserved g c = (
  turned c.args.self.now.table.now c.args.self.now.names.now c.args.self.now.depth _ _ _ _ _ c.in_ok-token.ensures _ _ c.loop-unread.invariant.0
      c.in-Some.token c.in-Some.found c.in-Some.is _ _ _
      (omega (arith, c.in_ok-filling.ensures.low)) (omega (arith, c.in_ok-filling.ensures.low)) (rw c.get.ensures at c.in_ok-filling.ensures.reads)
      ∙ rw (c.in_ok-put_back.ensures, c.began-place.ensures) refl,
  omega (arith, c.in_ok-filling.ensures.low),
)

pub loop-unread-preserved-in_ok-put_back : goal.loop-unread-preserved-in_ok-put_back
loop-unread-preserved-in_ok-put_back g c = (
  turned c.args.self.now.table.now c.args.self.now.names.now c.args.self.now.depth _ _ _ _ _ c.in_ok-token.ensures _ _ c.loop-unread.invariant.0
      c.in-Some.token c.in-Some.found c.in-Some.is _ _ _
      (omega (arith, c.in_ok-filling.ensures.low)) (omega (arith, c.in_ok-filling.ensures.low)) (rw c.get.ensures at c.in_ok-filling.ensures.reads)
      ∙ rw (c.in_ok-put_back.ensures, c.began-place.ensures) refl,
  omega (arith, c.in_ok-filling.ensures.low),
)

pub returns-clause-reads : goal.returns-clause-reads
returns-clause-reads g c =
    finished c.args.self.now.table.now c.args.self.now.names.now c.args.self.now.depth _ _ _ _ _ c.in_ok-token.ensures _ _ c.loop-unread.invariant.0 c.in_default.is
