use Rattle.std.proofs.Common.{◌≡◌, ◌∙◌, Some, Ok, Err, refl, sym, ap, subst, List, ℕ}
use Rattle.qv_dis.specs.Text.{disassembly}
use Rattle.qv_image.specs.Read.{IsRead, read_bytes}
use Rattle.qv_image.specs.Shown.{qvm_of}
use Rattle.qv_outside.specs.FileMap.{FileMap, content}
use Rattle.pp_dir.specs.Endings.{keeper_of}
use Rattle.qv_tool.specs.Verdict.{Verdict, Disassembles, of_source, of_text, of_task, verdict}
use Rattle.qv_tool.proofs.Refusing.{damaged_works, served_by}
use Rattle.qv_tool.proofs.Told.{if_told, needs_one, read_goes, read_stays, verdict_on}
use Rattle.qv_tool.proofs.Working.{delivered_works, unread_works}
use Rattle.qv_tool.proofs.qdis.qdis.Goals as goal

pub returns-in-Err : goal.returns-in-Err
returns-in-Err g c = λ around command asked.
    let go : FileMap → List ℕ → Verdict = λ held bytes. of_text c.args.file.now (read_bytes bytes) in
    unread_works (Some command) around _ _ c.args.image.now go (served_by command _ asked) (needs_one command _ c.args.image.now _ asked (λ held. refl))
    (if_told (λ held. verdict held (Some command) ≡ of_source c.args.image.now (go held) (content held c.args.image.now)) _ (λ held. ap (of_task held) asked)) c.in-Err.fault c.unread.result c.in-Err.ensures.told c.in-Err.ensures.named c.in-Err.ensures.cause c.unread.ensures

pub returns-in-Err-read_image : goal.returns-in-Err-read_image
returns-in-Err-read_image g c = λ around command asked.
    let go : FileMap → List ℕ → Verdict = λ held bytes. of_text c.args.file.now (read_bytes bytes) in
    let R : List ℕ → Type 0 = λ bytes. IsRead (read_bytes bytes) (Err c.in-Err-read_image.fault) in
    damaged_works command around _ (keeper_of g.F.Files c.read.new.self) (served_by command _ asked) (of_text c.args.file.now) (λ fault. refl) (read_bytes c.in-Ok.bytes.items)
    (read_goes (Some command) c.args.image.now go _ _ c.in-Ok.bytes (if_told (λ held. verdict held (Some command) ≡ of_source c.args.image.now (go held) (content held c.args.image.now)) _ (λ held. ap (of_task held) asked)) c.in-Ok.ensures.told)
    (read_stays _ _ c.args.image.now (Ok c.in-Ok.bytes) c.in-Ok.ensures.told) c.in-Err-read_image.fault c.damaged.result (subst R c.deref.ensures.value c.in-Err-read_image.ensures.read) c.damaged.ensures

pub returns : goal.returns
returns g c = λ around command asked.
    let go : FileMap → List ℕ → Verdict = λ held bytes. of_text c.args.file.now (read_bytes bytes) in
    let text : c.deref-2.result.now ≡ disassembly (qvm_of c.in-Ok-read_image.image) = c.deref-2.ensures.value ∙ c.in_ok-text.ensures.text in
    delivered_works (Some command) around _ _ (Disassembles c.args.file.now (qvm_of c.in-Ok-read_image.image)) (keeper_of g.F.Files c.read.new.self) c.args.file.now c.deref-2.result.now (served_by command _ asked)
    (verdict_on (Some command) _ (Disassembles c.args.file.now (qvm_of c.in-Ok-read_image.image)) _ (ap (of_text c.args.file.now) (ap read_bytes (sym c.deref.ensures.value) ∙ c.in-Ok-read_image.ensures.read))
    (read_goes (Some command) c.args.image.now go _ _ c.in-Ok.bytes (if_told (λ held. verdict held (Some command) ≡ of_source c.args.image.now (go held) (content held c.args.image.now)) _ (λ held. ap (of_task held) asked)) c.in-Ok.ensures.told))
    (read_stays _ _ c.args.image.now (Ok c.in-Ok.bytes) c.in-Ok.ensures.told) c.in-Ok.ensures.writes_stay (c.deref-2.result.now, refl, text) (λ held done. done) c.deliver.result c.deliver.ensures
