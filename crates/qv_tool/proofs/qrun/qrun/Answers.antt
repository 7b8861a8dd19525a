use Rattle.std.proofs.Common.{◌≡◌, ◌∙◌, Some, Ok, Err, refl, sym, ap, subst, List, ℕ}
use Rattle.qv_image.specs.Read.{IsRead, read_bytes}
use Rattle.qv_image.specs.Shown.{qvm_of}
use Rattle.qv_outside.specs.FileMap.{FileMap, content}
use Rattle.pp_dir.specs.Endings.{keeper_of}
use Rattle.qv_tool.specs.Verdict.{Verdict, Runs, of_image, of_source, of_task, verdict}
use Rattle.qv_tool.proofs.Calling.{calls_by, played_works}
use Rattle.qv_tool.proofs.Refusing.{damaged_works, served_by}
use Rattle.qv_tool.proofs.Told.{if_told, needs_one, read_goes, read_stays, verdict_on}
use Rattle.qv_tool.proofs.Working.{unread_works}
use Rattle.qv_tool.proofs.qrun.qrun.Goals as goal

pub returns-in-Err-clause-works : goal.returns-in-Err-clause-works
returns-in-Err-clause-works g c = λ command asked.
    let go : FileMap → List ℕ → Verdict = λ held bytes. of_image c.args.steps c.args.calls.now (read_bytes bytes) in
    unread_works (Some command) _ _ _ c.args.image.now go (served_by command _ asked) (needs_one command _ c.args.image.now _ asked (λ held. refl))
    (if_told (λ held. verdict held (Some command) ≡ of_source c.args.image.now (go held) (content held c.args.image.now)) _ (λ held. ap (of_task held) asked)) c.in-Err.fault c.unread.result c.in-Err.ensures.told c.in-Err.ensures.named c.in-Err.ensures.cause c.unread.ensures

pub returns-in-Ok-read_image-clause-works : goal.returns-in-Ok-read_image-clause-works
returns-in-Ok-read_image-clause-works g c = λ command asked.
    let go : FileMap → List ℕ → Verdict = λ held bytes. of_image c.args.steps c.args.calls.now (read_bytes bytes) in
    played_works (Some command) _ _ (served_by command _ asked) (calls_by command _ asked tt) c.play.ensures.table (qvm_of c.in-Ok-read_image.image) c.args.steps c.args.calls.now c.play.result
    (verdict_on (Some command) _ (Runs c.args.steps c.args.calls.now (qvm_of c.in-Ok-read_image.image)) _ (ap (of_image c.args.steps c.args.calls.now) (ap read_bytes (sym c.deref.ensures.value) ∙ c.in-Ok-read_image.ensures.read))
    (read_goes (Some command) c.args.image.now go _ _ c.in-Ok.bytes (if_told (λ held. verdict held (Some command) ≡ of_source c.args.image.now (go held) (content held c.args.image.now)) _ (λ held. ap (of_task held) asked)) c.in-Ok.ensures.told))
    (read_stays _ _ c.args.image.now (Ok c.in-Ok.bytes) c.in-Ok.ensures.told) c.play.ensures.plays

pub returns-clause-works : goal.returns-clause-works
returns-clause-works g c = λ command asked.
    let go : FileMap → List ℕ → Verdict = λ held bytes. of_image c.args.steps c.args.calls.now (read_bytes bytes) in
    let R : List ℕ → Type 0 = λ bytes. IsRead (read_bytes bytes) (Err c.in-Err-read_image.fault) in
    damaged_works command _ _ (keeper_of g.F.Files c.read.new.self) (served_by command _ asked) (of_image c.args.steps c.args.calls.now) (λ fault. refl) (read_bytes c.in-Ok.bytes.items)
    (read_goes (Some command) c.args.image.now go _ _ c.in-Ok.bytes (if_told (λ held. verdict held (Some command) ≡ of_source c.args.image.now (go held) (content held c.args.image.now)) _ (λ held. ap (of_task held) asked)) c.in-Ok.ensures.told)
    (read_stays _ _ c.args.image.now (Ok c.in-Ok.bytes) c.in-Ok.ensures.told) c.in-Err-read_image.fault c.damaged.result (subst R c.deref.ensures.value c.in-Err-read_image.ensures.read) c.damaged.ensures
