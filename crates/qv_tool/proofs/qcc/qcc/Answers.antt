use Rattle.std.proofs.Common.{rules, ◌≡◌, ◌∙◌, length, Some, ap, [], ◌∷◌, map}
use Rattle.pp_dir.specs.Endings.{keeper_of}
use Rattle.qcc_front.specs.Job.{job_shown}
use Rattle.qcc_front.specs.Source.{SourceRun}
use Rattle.qcc_front.specs.Sum.{sum_run}
use Rattle.qv_tool.specs.Task.{text_name}
use Rattle.qv_tool.specs.Verdict.{Verdict, Compiles, of_task, read_for}
use Rattle.qv_tool.proofs.Compiling.{one_text, program_of, text_written, uncompiled_works, unready_by}
use Rattle.qv_tool.proofs.Refusing.{served_by}
use Rattle.qv_tool.proofs.Working.{delivered_works}
use Rattle.qv_tool.proofs.qcc.qcc.Goals as goal

pub sole-text-requires : goal.sole-text-requires
sole-text-requires g c = ap length c.deref.ensures.value ∙ one_text c.args.unit.now (job_shown c.args.job.now) c.in-Ok.compiled.texts.items c.requires c.in-Ok.ensures.names

pub returns-in-Err : goal.returns-in-Err
returns-in-Err g c = λ around command asked.
    let job = job_shown c.args.job.now in
    let go : SourceRun → Verdict = Compiles (map (text_name c.args.folder.now) job.units) in
    uncompiled_works command job go (λ held. ap (of_task held) asked) (λ held. ap (read_for held) asked) (served_by command _ asked) (unready_by command _ asked tt) around _ _ c.in-Err.stop c.uncompiled.result c.in-Err.ensures.told c.in-Err.ensures.keeps c.uncompiled.ensures

pub returns : goal.returns
returns g c = λ around command asked.
    let job = job_shown c.args.job.now in
    let go : SourceRun → Verdict = Compiles (map (text_name c.args.folder.now) job.units) in
    let p = program_of command job go (λ held. ap (of_task held) asked) c.in-Ok.compiled _ c.in-Ok.ensures.told c.in-Ok.ensures.assembles in
    let named : c.as_str.result.now ≡ text_name c.args.folder.now c.args.unit.now = search rules in
    let bytes : c.deref-2.result.now ≡ c.sole-text.result.now.text.items = search rules in
    let one : c.in-Ok.compiled.texts.items ≡ c.sole-text.result.now ∷ [] = search rules in
    delivered_works (Some command) around _ _ (go (sum_run p.0)) (keeper_of g.F.Files c.compile.new.files) c.as_str.result.now c.deref-2.result.now (served_by command _ asked) p.2 c.in-Ok.ensures.keeps.same c.in-Ok.ensures.keeps.writes_stay
    (text_written c.args.folder.now c.args.unit.now c.as_str.result.now c.deref-2.result.now job c.sole-text.result.now c.in-Ok.compiled.texts.items p.0 c.requires one named bytes p.1) (λ held done. done) c.deliver.result c.deliver.ensures
