use Rattle.std.proofs.Common.{rules, ◌≡◌, ◌≢◌, ◌∙◌, ◌<◌, get_or, length, arith, refl}
use Rattle.std.proofs.lemmas.Grind.{common_steps}
use Rattle.pp_macro.specs.declared.fault.ExpandFault.TheVariants.{NoMemory}
use Rattle.pp_macro.specs.Calls.{each}
use Rattle.pp_macro.specs.Expand.{expand_in}
use Rattle.pp_macro.proofs.Eaches.{done, goes, halts}
use Rattle.pp_macro.proofs.expander.Expander.each.Goals as goal

pub returns-in_err-argument-clause-reads : goal.returns-in_err-argument-clause-reads
returns-in_err-argument-clause-reads g c =
    let some : c.loop-at.at < length c.args.args.now = omega arith in
    let is : c.as_slice.result.now ≡ get_or c.args.args.now c.loop-at.at c.as_slice.result.now = rw c.as_slice.ensures c.index-args-at.is in
    let stops = λ (e : c.in_err-argument.field-0.0 ≢ NoMemory).
    halts (expand_in c.args.self.now.table.now c.args.self.now.names.now c.args.self.now.depth) c.args.place c.args.body.now (each (expand_in c.args.self.now.table.now c.args.self.now.names.now c.args.self.now.depth) c.args.place c.args.body.now 0 c.args.count.now c.args.args.now) c.loop-at.all c.loop-at.at c.loop-at.count c.args.args.now c.loop-at.invariant.0
    c.as_slice.result.now _ some is (rw c.wants.ensures at (c.in_err-argument.ensures.reads e)) in
    first_of (search rules, grind (arith, common_steps))

pub loop-at-preserved : goal.loop-at-preserved
loop-at-preserved g c =
    let some : c.loop-at.at < length c.args.args.now = omega arith in
    let is : c.as_slice.result.now ≡ get_or c.args.args.now c.loop-at.at c.as_slice.result.now = rw c.as_slice.ensures c.index-args-at.is in (
      goes (expand_in c.args.self.now.table.now c.args.self.now.names.now c.args.self.now.depth) c.args.place c.args.body.now (each (expand_in c.args.self.now.table.now c.args.self.now.names.now c.args.self.now.depth) c.args.place c.args.body.now 0 c.args.count.now c.args.args.now) c.loop-at.all c.loop-at.at c.loop-at.count c.args.args.now c.loop-at.invariant.0
          c.as_slice.result.now _ c.argument.new.count some is (rw c.wants.ensures at c.in_ok-argument.ensures.reads)
          ∙ rw c.in_ok-push.ensures.ok refl,
      omega (arith, c.in_ok-argument.ensures.low),
    )

pub returns-clause-reads : goal.returns-clause-reads
returns-clause-reads g c =
    done (expand_in c.args.self.now.table.now c.args.self.now.names.now c.args.self.now.depth) c.args.place c.args.body.now (each (expand_in c.args.self.now.table.now c.args.self.now.names.now c.args.self.now.depth) c.args.place c.args.body.now 0 c.args.count.now c.args.args.now) c.loop-at.all c.loop-at.at c.loop-at.count c.args.args.now c.loop-at.invariant.0 (omega arith)
