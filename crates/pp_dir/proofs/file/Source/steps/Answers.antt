use Rattle.std.proofs.Common.{Option, Result, Ok, sym, subst, ◌∙◌, map, string_bytes}
use Rattle.qv_base.specs.declared.NoMemory.{NoMemory}
use Rattle.pp_dir.specs.declared.fault.PpStop.{PpStop}
use Rattle.pp_dir.specs.declared.passage.Passage.{Passage}
use Rattle.pp_dir.specs.Forms.{passages_of}
use Rattle.pp_dir.specs.Groups.{Flow}
use Rattle.pp_dir.specs.Endings.{EndsWithin, Keeps, Stops, keeper_of, state_in}
use Rattle.pp_dir.specs.Parting.{Parts}
use Rattle.pp_dir.specs.Sources as at
use Rattle.pp_dir.proofs.Parting.{no_passages}
use Rattle.pp_dir.proofs.Searching.{keeps_then}
use Rattle.pp_dir.proofs.Sources.{no_steps, step_goes, step_stops}
use Rattle.pp_dir.proofs.file.Source.steps.Goals as goal

pub returns-in-Err-clause-told : goal.returns-in-Err-clause-told
returns-in-Err-clause-told g c = λ m is.
    let dirs = map string_bytes c.args.self.now.dirs.now in
    let depth = c.args.self.now.depth in
    let file = c.args.self.now.file.now in
    let now : Flow = (c.loop-rest.groups, c.loop-rest.state) in
    let taken = subst (λ (o : Option Passage). Parts c.loop-rest.rest (Ok o) c.next_passage.new.self) c.in-Some.is (subst (λ (r : Result (Option Passage) NoMemory). Parts c.loop-rest.rest r c.next_passage.new.self) c.in_ok-passage.was c.next_passage.ensures) in
    let ends = subst (λ (r : Result (Unit {0}) PpStop). EndsWithin (at.step m dirs depth file c.in-Some.passage now) r c.step.new.groups c.step.new.state) c.in-Err.is (c.step.ensures.told m (c.loop-rest.invariant.keeps.same ∙ is)) in
    subst (λ o. Stops state_in o c.in-Err.stop) (sym (c.loop-rest.invariant.told m is)) (step_stops m dirs depth file (passages_of c.loop-rest.rest) (passages_of c.next_passage.new.self) c.in-Some.passage now c.in-Err.stop taken.0 ends)

pub loop-rest-preserved : goal.loop-rest-preserved
loop-rest-preserved g c =
    let dirs = map string_bytes c.args.self.now.dirs.now in
    let depth = c.args.self.now.depth in
    let file = c.args.self.now.file.now in
    let now : Flow = (c.loop-rest.groups, c.loop-rest.state) in
    let taken = subst (λ (o : Option Passage). Parts c.loop-rest.rest (Ok o) c.next_passage.new.self) c.in-Some.is (subst (λ (r : Result (Option Passage) NoMemory). Parts c.loop-rest.rest r c.next_passage.new.self) c.in_ok-passage.was c.next_passage.ensures) in
    record {
      told = λ m is.
          let ends = subst (λ (r : Result (Unit {0}) PpStop). EndsWithin (at.step m dirs depth file c.in-Some.passage now) r c.step.new.groups c.step.new.state) c.in-Ok.is (c.step.ensures.told m (c.loop-rest.invariant.keeps.same ∙ is)) in
          c.loop-rest.invariant.told m is ∙ step_goes m dirs depth file (passages_of c.loop-rest.rest) (passages_of c.next_passage.new.self) c.in-Some.passage now (c.step.new.groups, c.step.new.state) taken.0 ends;
      keeps = keeps_then (keeper_of g.F.Files c.args.files.now) (keeper_of g.F.Files c.loop-rest.files) (keeper_of g.F.Files c.step.new.files) tt (Ok tt) c.loop-rest.invariant.keeps (subst (λ (r : Result (Unit {0}) PpStop). Keeps (keeper_of g.F.Files c.loop-rest.files) (keeper_of g.F.Files c.step.new.files) r) c.in-Ok.is c.step.ensures.keeps);
    }

pub returns-clause-told : goal.returns-clause-told
returns-clause-told g c = λ m is.
    let none = subst (λ (o : Option Passage). Parts c.loop-rest.rest (Ok o) c.next_passage.new.self) c.in_default.is (subst (λ (r : Result (Option Passage) NoMemory). Parts c.loop-rest.rest r c.next_passage.new.self) c.in_ok-passage.was c.next_passage.ensures) in
    c.loop-rest.invariant.told m is ∙ no_steps m (map string_bytes c.args.self.now.dirs.now) c.args.self.now.depth c.args.self.now.file.now (passages_of c.loop-rest.rest) (c.loop-rest.groups, c.loop-rest.state) (no_passages c.loop-rest.rest none)
