use Rattle.std.proofs.Common.{◌≡◌, ◌∙◌, ◌⊎◌, List, Some, Ok, Err, length, map, string_bytes, refl, sym, ap, subst, arith}
use Rattle.asm_link.specs.declared.fault.AsmFile.{AsmFile}
use Rattle.asm_link.specs.declared.fault.AsmKind.TheVariants.{NoMemory}
use Rattle.asm_link.specs.Link.{linked}
use Rattle.asm_link.specs.Shown.{texts_of}
use Rattle.qv_image.specs.Image.{file_bytes}
use Rattle.qv_image.specs.Shown.{qvm_of}
use Rattle.pp_dir.specs.Endings.{keeper_of}
use Rattle.qv_tool.specs.declared.gather.Sources.{Sources}
use Rattle.qv_tool.specs.Verdict.{Links, of_linked}
use Rattle.qv_tool.specs.Work.{Gathers, HasCount}
use Rattle.qv_tool.proofs.Refusing.{found_goes, unfound_works, unlinked_works}
use Rattle.qv_tool.proofs.Told.{verdict_on}
use Rattle.qv_tool.proofs.Working.{delivered_works}
use Rattle.qv_tool.proofs.q3asm.q3asm.Goals as goal

pub returns-in-Refused : goal.returns-in-Refused
returns-in-Refused g c = λ around command served asks.
    let G : Sources → Type 0 = λ s. Gathers (keeper_of g.F.Files c.args.files.now) (keeper_of g.F.Files c.gather.new.files) (map string_bytes c.args.names.now) (Ok s) in
    unfound_works command around _ _ served c.args.image.now (map string_bytes c.args.names.now) asks c.gather.ensures.same c.in-Refused.report (subst G c.in-Refused.is c.in_ok-texts.ensures.gathers)

pub link-requires : goal.link-requires
link-requires g c =
    let S : Sources → Type 0 = λ s. HasCount (length c.args.names.now) s in
    let count : length c.in-Texts.texts.items ≡ length c.args.names.now = subst S c.in-Texts.is c.in_ok-texts.ensures.count in
    omega (arith, count, ap length c.deref.ensures.value, c.requires)

pub returns-in-Err : goal.returns-in-Err
returns-in-Err g c = λ around command served asks.
    let G : Sources → Type 0 = λ s. Gathers (keeper_of g.F.Files c.args.files.now) (keeper_of g.F.Files c.gather.new.files) (map string_bytes c.args.names.now) (Ok s) in
    let A : List AsmFile → Type 0 = λ files. (c.in-Err.fault.kind ≡ NoMemory) ⊎ (linked (texts_of files) ≡ Err c.in-Err.fault) in
    unlinked_works command around (keeper_of g.F.Files c.args.files.now) (keeper_of g.F.Files c.gather.new.files) served c.args.image.now (map string_bytes c.args.names.now) (texts_of c.in-Texts.texts.items) c.in-Err.fault
    (found_goes command around (keeper_of g.F.Files c.args.files.now) (keeper_of g.F.Files c.gather.new.files) served c.args.image.now (map string_bytes c.args.names.now) asks c.gather.ensures.same (texts_of c.in-Texts.texts.items) (subst G c.in-Texts.is c.in_ok-texts.ensures.gathers))
    c.gather.ensures.same (subst A c.deref.ensures.value c.in-Err.ensures.answer) c.refusal.result c.refusal.ensures

pub returns : goal.returns
returns g c = λ around command served asks.
    let G : Sources → Type 0 = λ s. Gathers (keeper_of g.F.Files c.args.files.now) (keeper_of g.F.Files c.gather.new.files) (map string_bytes c.args.names.now) (Ok s) in
    let answer : linked (texts_of c.in-Texts.texts.items) ≡ Ok (qvm_of c.in-Ok.linked) = ap (λ ts. linked (texts_of ts)) (sym c.deref.ensures.value) ∙ c.in-Ok.ensures.answer in
    let file : c.deref-2.result.now ≡ file_bytes (qvm_of c.in-Ok.linked) = c.deref-2.ensures.value ∙ c.in_ok-bytes.ensures.bytes in
    delivered_works (Some command) around _ _ (Links c.args.image.now (qvm_of c.in-Ok.linked)) (keeper_of g.F.Files c.gather.new.files) c.args.image.now c.deref-2.result.now served
    (verdict_on (Some command) _ (Links c.args.image.now (qvm_of c.in-Ok.linked)) _ (ap (of_linked c.args.image.now (map string_bytes c.args.names.now)) answer)
    (found_goes command around (keeper_of g.F.Files c.args.files.now) (keeper_of g.F.Files c.gather.new.files) served c.args.image.now (map string_bytes c.args.names.now) asks c.gather.ensures.same (texts_of c.in-Texts.texts.items) (subst G c.in-Texts.is c.in_ok-texts.ensures.gathers)))
    c.gather.ensures.same c.gather.ensures.writes_stay (c.deref-2.result.now, refl, file) (λ held done. done) c.deliver.result c.deliver.ensures
