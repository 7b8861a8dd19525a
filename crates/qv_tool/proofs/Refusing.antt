-- Images and assembly that are refused.
use Rattle.std.proofs.Common.{◌≡◌, ℕ, List, ◌++◌, Some, Ok, Err, inl, inr, refl, sym, ap, ◌∙◌, ⊎_elim, is_some}
use Rattle.std.specs.Prelude.{Contains, Result, IfOk, IfSome, codes, ◌⊎◌}
use Rattle.qv_base.specs.declared.NoMemory.{NoMemory as Wanting}
use Rattle.qv_image.specs.Image.{Qvm}
use Rattle.qv_image.specs.Read.{IsRead}
use Rattle.qv_image.specs.declared.fault.ImageFault.{ImageFault}
use Rattle.qv_image.specs.declared.fault.ImageFault.TheVariants.{Code, NoMemory}
use Rattle.qv_ops.specs.declared.decode.CodeFault.{CodeFault}
use Rattle.qv_ops.specs.declared.decode.CodeFault.TheVariants.{NoMemory as NoMemoryForCode}
use Rattle.qv_outside.specs.FileMap.{FileMap}
use Rattle.asm_link.specs.Link.{linked}
use Rattle.asm_link.specs.declared.fault.AsmFault.{AsmFault}
use Rattle.asm_link.specs.declared.fault.AsmKind.{AsmKind}
use Rattle.asm_link.specs.declared.fault.AsmKind.TheVariants.{NoMemory as LinkNoMemory}
use Rattle.pp_dir.specs.Endings.{Keeper}
use Rattle.qv_tool.specs.declared.report.Report.{Report}
use Rattle.qv_tool.specs.declared.status.Status.TheVariants.{Assembly, Image, Missing}
use Rattle.qv_tool.specs.Assembly.{fault_text}
use Rattle.qv_tool.specs.Causes.{IsServed}
use Rattle.qv_tool.specs.Damage.{damage_text}
use Rattle.qv_tool.specs.Ending.{line}
use Rattle.qv_tool.specs.Gathered.{Found, Lacking, Overlong, gathered}
use Rattle.qv_tool.specs.Task.{Task, task_of}
use Rattle.qv_tool.specs.Verdict.{Verdict, Absent, Damaged, TooLong, Unlinked, name_at, of_gathered, of_linked, read_for, verdict}
use Rattle.qv_tool.specs.Work.{Asks, IsRefused, Says, SaysDamaged, SaysUnlinked, Works}
use Rattle.qv_tool.specs.World.{Surroundings, world}
use Rattle.qv_tool.proofs.Told.{along, along_both, verdict_on}
use Rattle.qv_tool.proofs.Working.{read_failed_works, refused_works, unwritten_works}
use Rattle.qv_words.specs.Words.{Command}

-- a command that asks for a task is served
pub served_by : (c : Command) (task : Task) → task_of c ≡ Some task → IsServed (Some c)
served_by c task asked = ap is_some asked

module _ (c : Command) (around : Surroundings) (before after : Keeper) where
  abbrev Comes : Result Report Wanting → Type 0
  Comes result = Works (Some c) (world before around) (world after around) result

  abbrev VerdictIs : Verdict → Type 0
  VerdictIs v = IfSome before.held (λ held. verdict held (Some c) ≡ v)

  -- an image has a fault
  module _ (served : IsServed (Some c)) (go : Result Qvm ImageFault → Verdict) (go_damaged : (fault : ImageFault) → go (Err fault) ≡ Damaged fault) (read : Result Qvm ImageFault) (is : VerdictIs (go read)) (same : after.held ≡ before.held) where
    damaged : (fault : ImageFault) (report : Report) → read ≡ Err fault → Says Image (line (codes "image: " ++ damage_text fault)) report → Comes (Ok report)
    damaged fault report e says = refused_works (Some c) around before after (Damaged fault) Image (line (codes "image: " ++ damage_text fault)) (Ok report) (verdict_on (Some c) (go read) (Damaged fault) before.held (ap go e ∙ go_damaged fault) is) same refl refl served says

    by_code : (fault : CodeFault) (report : Report) → IsRead read (Err (Code fault)) → SaysDamaged (Code fault) report → Comes (Ok report)
    by_code NoMemoryForCode report e says = absurd e
    by_code fault report e says = damaged (Code fault) report e says

    by_fault : (fault : ImageFault) (report : Report) → IsRead read (Err fault) → SaysDamaged fault report → Comes (Ok report)
    by_fault NoMemory report e says = absurd says
    by_fault (Code fault) report e says = by_code fault report e says
    by_fault fault report e says = damaged fault report e says

    pub damaged_works : (fault : ImageFault) (result : Result Report Wanting) → IsRead read (Err fault) → IfOk result (λ report. SaysDamaged fault report) → Comes result
    damaged_works fault (Err wanting) e says = unwritten_works (Some c) around before after wanting same
    damaged_works fault (Ok report) e says = by_fault fault report e says

  -- assembly has a fault
  module _ (served : IsServed (Some c)) (image : List ℕ) (names texts : List (List ℕ)) (fault : AsmFault) (is : VerdictIs (of_linked image names (linked texts))) (same : after.held ≡ before.held) (answers : (fault.kind ≡ LinkNoMemory) ⊎ (linked texts ≡ Err fault)) where
    unlinked : (report : Report) → linked texts ≡ Err fault → Says Assembly (line (fault_text (name_at names fault.file) fault.line fault.kind)) report → Comes (Ok report)
    unlinked report e says =
        refused_works (Some c) around before after (Unlinked (name_at names fault.file) fault) Assembly (line (fault_text (name_at names fault.file) fault.line fault.kind)) (Ok report)
        (verdict_on (Some c) (of_linked image names (linked texts)) (Unlinked (name_at names fault.file) fault) before.held (ap (of_linked image names) e) is) same refl refl served says

    not_wanting : (kind : AsmKind) → fault.kind ≡ kind → (kind ≡ LinkNoMemory → ⊥) → linked texts ≡ Err fault
    not_wanting kind e apart = ⊎_elim (λ wanting. absurd (apart (sym e ∙ wanting))) (λ answer. answer) answers

    by_kind : (kind : AsmKind) (report : Report) → fault.kind ≡ kind → SaysUnlinked (name_at names fault.file) kind fault report → Comes (Ok report)
    by_kind LinkNoMemory report e says = absurd says
    by_kind kind report e says = unlinked report (not_wanting kind e (λ p. cc)) says

    pub unlinked_works : (result : Result Report Wanting) → IfOk result (λ report. SaysUnlinked (name_at names fault.file) fault.kind fault report) → Comes result
    unlinked_works (Err wanting) says = unwritten_works (Some c) around before after wanting same
    unlinked_works (Ok report) says = by_kind fault.kind report refl says

  -- one of several files is refused
  module _ (served : IsServed (Some c)) (image : List ℕ) (names : List (List ℕ)) (asks : IfSome before.held (Asks c image names)) (same : after.held ≡ before.held) where
    abbrev Asked : FileMap → Type 0
    Asked held = Asks c image names held

    pub unfound_works : (report : Report) → IsRefused before after names report → Comes (Ok report)
    unfound_works report (inl (name, says, lacks)) =
        let L : FileMap → Type 0 = λ held. gathered held names ≡ Lacking name in
        let V : FileMap → Type 0 = λ held. verdict held (Some c) ≡ Absent name in
        refused_works (Some c) around before after (Absent name) Missing (line (codes "absent: " ++ name)) (Ok report)
        (along_both Asked L V before.held (λ held a l. a.verdict_is ∙ ap (of_gathered (λ texts. of_linked image names (linked texts))) l) asks lacks) same refl refl served says
    unfound_works report (inr (inl (name, says, long))) =
        let L : FileMap → Type 0 = λ held. gathered held names ≡ Overlong name in
        let V : FileMap → Type 0 = λ held. verdict held (Some c) ≡ TooLong name in
        refused_works (Some c) around before after (TooLong name) Missing (line (codes "too long: " ++ name)) (Ok report)
        (along_both Asked L V before.held (λ held a l. a.verdict_is ∙ ap (of_gathered (λ texts. of_linked image names (linked texts))) l) asks long) same refl refl served says
    unfound_works report (inr (inr (name, says, one, named, rose))) =
        let N : FileMap → Type 0 = λ held. Contains (read_for held (task_of c)) name in
        read_failed_works (Some c) around before after name report served (along Asked N before.held (λ held a. a.needs name one) asks) same named rose says

    -- all were read
    pub found_goes : (texts : List (List ℕ)) → IfSome before.held (λ held. gathered held names ≡ Found texts) → VerdictIs (of_linked image names (linked texts))
    found_goes texts found =
        let L : FileMap → Type 0 = λ held. gathered held names ≡ Found texts in
        let V : FileMap → Type 0 = λ held. verdict held (Some c) ≡ of_linked image names (linked texts) in
        along_both Asked L V before.held (λ held a l. a.verdict_is ∙ ap (of_gathered (λ ts. of_linked image names (linked ts))) l) asks found
