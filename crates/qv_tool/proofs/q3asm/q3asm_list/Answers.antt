use Rattle.std.proofs.Common.{◌≡◌, ◌∙◌, Ok, Some, map, string_bytes, sym, ap, subst}
use Rattle.qv_outside.specs.FileMap.{content}
use Rattle.pp_dir.specs.Endings.{keeper_of}
use Rattle.qv_tool.specs.declared.list.Listed.{Listed}
use Rattle.qv_tool.specs.Names.{names_in}
use Rattle.qv_tool.specs.Verdict.{of_list, of_source, of_task, verdict}
use Rattle.qv_tool.specs.Work.{IsListed}
use Rattle.qv_tool.proofs.Linking.{list_asked, works_since}
use Rattle.qv_tool.proofs.Refusing.{served_by}
use Rattle.qv_tool.proofs.Told.{if_told, needs_list, read_stays}
use Rattle.qv_tool.proofs.Working.{unread_works}
use Rattle.qv_tool.proofs.q3asm.q3asm_list.Goals as goal

pub returns-in-Err : goal.returns-in-Err
returns-in-Err g c = λ around command asked.
    unread_works (Some command) around _ _ c.args.list.now (λ held bytes. of_list held c.args.image.now c.args.list.now (names_in bytes)) (served_by command _ asked) (needs_list command c.args.image.now c.args.list.now _ asked)
    (if_told (λ held. verdict held (Some command) ≡ of_source c.args.list.now (λ bytes. of_list held c.args.image.now c.args.list.now (names_in bytes)) (content held c.args.list.now)) _ (λ held. ap (of_task held) asked)) c.in-Err.fault c.unread.result c.in-Err.ensures.told c.in-Err.ensures.named c.in-Err.ensures.cause c.unread.ensures

pub returns-in-Names : goal.returns-in-Names
returns-in-Names g c = λ around command asked.
    let L : Listed → Type 0 = λ l. IsListed (names_in c.deref.result.now) l in
    let listed : names_in c.deref.result.now ≡ Ok (map string_bytes c.in-Names.names.items) = subst L c.in-Names.is c.in_ok-names.ensures in
    let names : names_in c.in-Ok.bytes.items ≡ Ok (map string_bytes c.deref-in-Names.result.now) = ap names_in (sym c.deref.ensures.value) ∙ listed ∙ ap (λ ns. Ok (map string_bytes ns)) (sym c.deref-in-Names.ensures.value) in
    works_since (Some command) around _ (keeper_of g.F.Files c.read.new.self) _ c.in-Ok.ensures.later c.in-Ok.ensures.writes_stay c.q3asm.result (read_stays _ _ c.args.list.now (Ok c.in-Ok.bytes) c.in-Ok.ensures.told)
    (c.q3asm.ensures around command (served_by command _ asked) (list_asked command c.args.image.now c.args.list.now asked c.in-Ok.bytes _ _ (map string_bytes c.deref-in-Names.result.now) c.in-Ok.ensures.told names))
