use Rattle.std.proofs.Common.{◌≡◌, ◌∙◌, ℕ, List, refl, subst, arith}
use Rattle.std.proofs.lemmas.List.{take_all}
use Rattle.qv_ops.specs.declared.instr.Instr.{Instr}
use Rattle.qv_outside.specs.Hosts.{Table}
use Rattle.vm_core.proofs.CallsRanLaws.{Returning, all_returned, ends_by_at, goes_on_at, none_returning}
use Rattle.vm_core.proofs.Loop.{ran_at}
use Rattle.vm_core.specs.declared.stop.Stop.{Stop}
use Rattle.vm_core.specs.Machine.{State, step}
use Rattle.vm_core.specs.Module.{code_of, state_of}
use Rattle.vm_core.specs.Ran.{Outside, Ran, outcome_of, outside}
use Rattle.qv_tool.proofs.play.make_calls.Goals as goal

-- a run of the module as it stands, whose code and table are these
begun : (code code_now : List Instr) (table table_now : Table) (n : ℕ) (s t after : State) (old new : Outside) (stop : Stop) → code_now ≡ code → table_now ≡ table → s ≡ t → Ran (step code_now table_now) n s after old new (outcome_of stop) → Ran (step code table) n t after old new (outcome_of stop)
begun code code_now table table_now n s t after old new stop same_code same_table same ran = let S : State → Type 0 = λ x. Ran (step code table) n x after old new (outcome_of stop) in subst S same (ran_at same_code same_table ran)

pub loop-args-init : goal.loop-args-init
loop-args-init g c = record {
  so_far = none_returning (step (code_of c.args.machine.now) (g.H.Host.table c.args.host.now)) c.args.steps (state_of c.args.machine.now).memory (outside (g.H.Host.asked c.args.host.now) (g.H.Host.replied c.args.host.now) (g.O.Sink.written c.args.out.now));
  code = refl;
  table = refl;
  kept = refl;
  host_later = omega arith;
  out_later = omega arith;
}

pub returns-in_default : goal.returns-in_default
returns-in_default g c = record {
  ran = ends_by_at (step (code_of c.args.machine.now) (g.H.Host.table c.args.host.now)) c.args.steps c.args.calls.now c.loop-args.args-index _ (state_of c.args.machine.now).memory (state_of c.loop-args.machine).memory c.loop-args.last c.run.result _ (outside (g.H.Host.asked c.args.host.now) (g.H.Host.replied c.args.host.now) (g.O.Sink.written c.args.out.now)) _ _ c.loop-args-test.true c.loop-args.invariant.so_far
      (begun _ _ _ _ c.args.steps _ _ _ _ _ c.run.result (c.start.ensures.code ∙ c.loop-args.invariant.code) c.loop-args.invariant.table c.start.ensures.state c.run.ensures.ran) c.in_default.not-Returned;
  host_cause = λ is. omega (arith, c.loop-args.invariant.host_later, c.run.ensures.host_fault is);
  out_cause = λ is. omega (arith, c.loop-args.invariant.out_later, c.run.ensures.out_fault is);
  table = c.run.ensures.table ∙ c.loop-args.invariant.table;
  kept = c.run.ensures.kept ∙ c.loop-args.invariant.kept;
}

pub loop-args-preserved : goal.loop-args-preserved
loop-args-preserved g c = record {
  so_far = goes_on_at (step (code_of c.args.machine.now) (g.H.Host.table c.args.host.now)) c.args.steps c.args.calls.now c.loop-args.args-index _ (state_of c.args.machine.now).memory (state_of c.loop-args.machine).memory c.loop-args.last c.run.result _ (outside (g.H.Host.asked c.args.host.now) (g.H.Host.replied c.args.host.now) (g.O.Sink.written c.args.out.now)) _ _ c.loop-args-test.true c.loop-args.invariant.so_far
      (begun _ _ _ _ c.args.steps _ _ _ _ _ c.run.result (c.start.ensures.code ∙ c.loop-args.invariant.code) c.loop-args.invariant.table c.start.ensures.state c.run.ensures.ran) c.in-Returned.word c.in-Returned.is;
  code = c.run.ensures.code ∙ (c.start.ensures.code ∙ c.loop-args.invariant.code);
  table = c.run.ensures.table ∙ c.loop-args.invariant.table;
  kept = c.run.ensures.kept ∙ c.loop-args.invariant.kept;
  host_later = omega (arith, c.loop-args.invariant.host_later, c.run.ensures.host_later);
  out_later = omega (arith, c.loop-args.invariant.out_later, c.run.ensures.out_later);
}

pub returns-clause-ran : goal.returns-clause-ran
returns-clause-ran g c =
    let R : List (List ℕ) → Type 0 = λ xs. Returning (step (code_of c.args.machine.now) (g.H.Host.table c.args.host.now)) c.args.steps xs (state_of c.args.machine.now).memory (state_of c.loop-args.machine).memory
    (outside (g.H.Host.asked c.args.host.now) (g.H.Host.replied c.args.host.now) (g.O.Sink.written c.args.out.now)) (outside (g.H.Host.asked c.loop-args.host) (g.H.Host.replied c.loop-args.host) (g.O.Sink.written c.loop-args.out)) c.loop-args.last in
    all_returned (step (code_of c.args.machine.now) (g.H.Host.table c.args.host.now)) c.args.steps c.args.calls.now _ _ _ _ c.loop-args.last (subst R (take_all c.loop-args.args-index c.args.calls.now c.loop-args-test.false) c.loop-args.invariant.so_far)
