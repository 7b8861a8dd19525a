use Rattle.std.proofs.Common.{◌∙◌, Ok, Some, Option, List, refl, sym, ap, subst}
use Rattle.asm_link.specs.Shown.{texts_of}
use Rattle.asm_link.specs.declared.fault.AsmFile.{AsmFile}
use Rattle.pp_dir.specs.Endings.{keeper_of}
use Rattle.qv_image.specs.Shown.{qvm_of}
use Rattle.qcc_front.specs.Assembles.{Assembles}
use Rattle.qcc_front.specs.Job.{job_shown}
use Rattle.qcc_front.specs.Source.{SourceRun}
use Rattle.qcc_front.specs.Sum.{sum_run}
use Rattle.qv_tool.specs.declared.report.Report.{Report}
use Rattle.qv_tool.specs.Built.{IsBuilt, IsFollower}
use Rattle.qv_tool.specs.Verdict.{Verdict, Builds, of_task, read_for}
use Rattle.qv_tool.specs.Work.{Stores}
use Rattle.qv_tool.specs.World.{around_of}
use Rattle.qv_tool.proofs.Calling.{built_works, calls_by}
use Rattle.qv_tool.proofs.Compiling.{program_of, uncompiled_works, unready_by}
use Rattle.qv_tool.proofs.Playing.{agrees}
use Rattle.qv_tool.proofs.Refusing.{served_by}
use Rattle.qv_tool.proofs.Working.{torn_works}
use Rattle.qv_tool.proofs.qall.qall.Goals as goal

pub returns-in-Err-clause-works : goal.returns-in-Err-clause-works
returns-in-Err-clause-works g c = λ command asked.
    let job = job_shown c.args.job.now in
    let go : SourceRun → Verdict = Builds c.args.steps c.args.calls.now c.args.image.now in
    uncompiled_works command job go (λ held. ap (of_task held) asked) (λ held. ap (read_for held) asked) (served_by command _ asked) (unready_by command _ asked tt) _ _ _ c.in-Err.stop c.uncompiled.result c.in-Err.ensures.told c.in-Err.ensures.keeps c.uncompiled.ensures

pub returns-in-None-clause-works : goal.returns-in-None-clause-works
returns-in-None-clause-works g c = λ command asked.
    let job = job_shown c.args.job.now in
    let go : SourceRun → Verdict = Builds c.args.steps c.args.calls.now c.args.image.now in
    let p = program_of command job go (λ held. ap (of_task held) asked) c.in-Ok.compiled _ c.in-Ok.ensures.told c.in-Ok.ensures.assembles in
    let run : SourceRun = sum_run p.0 in
    let A : List AsmFile → Type 0 = λ ts. Assembles p.0 (texts_of ts) in
    let built : IsBuilt run (qvm_of c.in_ok-built.built) = c.in_ok-built.ensures p.0 (subst A (sym c.deref.ensures.value) p.1) in
    let follower : IsFollower run c.deref-2.result.now = record { image = qvm_of c.in_ok-built.built; is_image = c.in_ok-bytes.ensures.image; built = built; file = c.deref-2.ensures.value ∙ c.in_ok-bytes.ensures.bytes } in
    let S : Option Report → Type 0 = λ r. Stores (keeper_of g.F.Files c.compile.new.files) (keeper_of g.F.Files c.store.new.files) c.args.image.now c.deref-2.result.now (Ok r) in
    built_works (Some command) _ _ (served_by command _ asked) (calls_by command _ asked tt) c.play.ensures.table c.args.steps c.args.calls.now (keeper_of g.F.Files c.compile.new.files) c.args.image.now c.deref-2.result.now run follower c.play.result
    p.2 c.in-Ok.ensures.keeps.same (subst S c.in-None.is c.in_ok-store.ensures)
    (agrees run (qvm_of c.in_ok-built.built) built c.args.calls.now c.requires.calls c.args.steps (around_of g.O.Sink g.H.Host c.args.out.now c.args.host.now) _) c.play.ensures.plays

pub returns-clause-works : goal.returns-clause-works
returns-clause-works g c = λ command asked.
    let job = job_shown c.args.job.now in
    let go : SourceRun → Verdict = Builds c.args.steps c.args.calls.now c.args.image.now in
    let p = program_of command job go (λ held. ap (of_task held) asked) c.in-Ok.compiled _ c.in-Ok.ensures.told c.in-Ok.ensures.assembles in
    let run : SourceRun = sum_run p.0 in
    let A : List AsmFile → Type 0 = λ ts. Assembles p.0 (texts_of ts) in
    let built : IsBuilt run (qvm_of c.in_ok-built.built) = c.in_ok-built.ensures p.0 (subst A (sym c.deref.ensures.value) p.1) in
    let follower : IsFollower run c.deref-2.result.now = record { image = qvm_of c.in_ok-built.built; is_image = c.in_ok-bytes.ensures.image; built = built; file = c.deref-2.ensures.value ∙ c.in_ok-bytes.ensures.bytes } in
    let S : Option Report → Type 0 = λ r. Stores (keeper_of g.F.Files c.compile.new.files) (keeper_of g.F.Files c.store.new.files) c.args.image.now c.deref-2.result.now (Ok r) in
    torn_works (Some command) _ _ _ (go run) (keeper_of g.F.Files c.compile.new.files) c.args.image.now c.deref-2.result.now (served_by command _ asked)
    p.2 c.in-Ok.ensures.keeps.same c.in-Ok.ensures.keeps.writes_stay (c.deref-2.result.now, refl, follower) c.in-Some.fault (subst S c.in-Some.is c.in_ok-store.ensures)
