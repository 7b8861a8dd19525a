-- The work of a command, by the last thing that it did.
use Rattle.std.proofs.Common.{◌≡◌, ◌^◌, ℕ, List, [], ◌∷◌, ◌++◌, length, Option, Some, Ok, Err, inl, inr, refl, sym, ap, ◌∙◌, subst}
use Rattle.std.specs.Prelude.{Contains, Result, IfOk, IfSome, IsErrOf, if◌then◌else◌, codes}
use Rattle.std.specs.Global.{Vec}
use Rattle.qv_base.specs.declared.NoMemory.{NoMemory as Wanting}
use Rattle.qv_outside.specs.Causes.{Rose}
use Rattle.qv_outside.specs.FileMap.{FileMap, content, with_file, Reads, ReadGives, failed_by_read}
use Rattle.qv_outside.specs.declared.files.FileFault.{FileFault}
use Rattle.qv_outside.specs.declared.files.FileFault.TheVariants.{Absent as IsAbsent, TooLong as IsTooLong, Failed, NoMemory as ReadNoMemory}
use Rattle.pp_dir.specs.Endings.{Keeper}
use Rattle.qv_tool.specs.declared.report.Report.{Report}
use Rattle.qv_tool.specs.declared.status.Status.{Status}
use Rattle.qv_tool.specs.declared.status.Status.TheVariants.{Done, Usage, Missing, NotYet, Source, Assembly, Image, ReadFault, WriteFault, NoMemory}
use Rattle.qv_tool.specs.Answers.{BreaksOff, Completes, Finishes, Refuses, Reports}
use Rattle.qv_tool.specs.Causes.{HasCause, IsServed, IsSilent}
use Rattle.qv_tool.specs.Ending.{line}
use Rattle.qv_tool.specs.Status.{Refusal, kind_of}
use Rattle.qv_tool.specs.Verdict.{Verdict, Absent, TooLong, named_in, of_source, refusal_of, verdict}
use Rattle.qv_tool.specs.Work.{Delivers, Keeps, Says, SaysTorn, SaysUnread, Stored, TornAt, Works}
use Rattle.qv_tool.specs.World.{Surroundings, World, world}
use Rattle.qv_tool.specs.Written.{Writes}
use Rattle.qv_tool.proofs.Told.{along, along_both, kept, not_below, read_gives, read_stays, told_before}
use Rattle.qv_words.specs.Words.{Command}

module _ (c : Option Command) (before after : World) where
  -- a report says what is reported
  pub says_works : (status : Status) (text : List ℕ) (report : Report) → Says status text report → IfSome before.files.held (λ held. Reports c held before after text status) → HasCause c before after status → after.around.table ≡ before.around.table →
      (IsSilent c status → after.around ≡ before.around) → Works c before after (Ok report)
  says_works status text report says told has table quiet =
      let P : Status → Type 0 = λ s. IfSome before.files.held (λ held. Reports c held before after report.line.items s) in
      let Q : List ℕ → Type 0 = λ t. IfSome before.files.held (λ held. Reports c held before after t status) in
      let H : Status → Type 0 = λ s. HasCause c before after s in
      let S : Status → Type 0 = λ s. IsSilent c s → after.around ≡ before.around in
      record { leaves = subst P (sym says.status_is) (subst Q (sym says.line_is) told); cause = subst H (sym says.status_is) has; table = table; quiet = subst S (sym says.status_is) quiet }

  -- memory is refused
  pub wants_works : (wanting : Wanting) → IfSome before.files.held (λ held. BreaksOff (verdict held c) held before.around after) → after.around.table ≡ before.around.table → (IsSilent c NoMemory → after.around ≡ before.around) → Works c before after (Err wanting)
  wants_works wanting told table quiet = record { leaves = told; cause = tt; table = table; quiet = quiet }

-- nothing is printed or asked
module _ (c : Option Command) (around : Surroundings) (before after : Keeper) where
  abbrev Done_so : Result Report Wanting → Type 0
  Done_so result = Works c (world before around) (world after around) result

  abbrev VerdictIs : Verdict → Type 0
  VerdictIs v = IfSome before.held (λ held. verdict held c ≡ v)

  abbrev Told : Status → List ℕ → FileMap → Type 0
  Told status text held = Reports c held (world before around) (world after around) text status

  -- a report says what is reported
  pub file_works : (status : Status) (text : List ℕ) (report : Report) → Says status text report → IfSome before.held (Told status text) → HasCause c (world before around) (world after around) status → Done_so (Ok report)
  file_works status text report says told has = says_works c (world before around) (world after around) status text report says told has refl (λ silent. refl)

  -- memory is refused before a file is written
  pub unstored_works : (mid : Keeper) (wanting : Wanting) → mid.held ≡ before.held → Keeps mid after → Done_so (Err wanting)
  unstored_works mid wanting same keeps =
      let K : FileMap → Type 0 = λ held. after.held ≡ Some held in
      let B : FileMap → Type 0 = λ held. BreaksOff (verdict held c) held around (world after around) in
      wants_works c (world before around) (world after around) wanting (along K B before.held (λ held is. inl (inl is, refl)) (told_before K before.held mid.held same keeps)) refl (λ silent. refl)

  pub unwritten_works : (wanting : Wanting) → after.held ≡ before.held → Done_so (Err wanting)
  unwritten_works wanting same = unstored_works before wanting refl (kept before.held after.held same)

  -- a refusal
  refusal_told : (status : Status) (text : List ℕ) (held : FileMap) → kind_of status ≡ Refusal → Refuses (verdict held c) held around (world after around) status text → Told status text held
  refusal_told Usage text held is refuses = refuses
  refusal_told NotYet text held is refuses = refuses
  refusal_told Missing text held is refuses = refuses
  refusal_told Source text held is refuses = refuses
  refusal_told Assembly text held is refuses = refuses
  refusal_told Image text held is refuses = refuses
  refusal_told status text held is refuses = absurd (cc is)

  pub refused_works : (v : Verdict) (status : Status) (text : List ℕ) (result : Result Report Wanting) → VerdictIs v → after.held ≡ before.held → kind_of status ≡ Refusal → refusal_of v ≡ Some (record { status = status; text = text }) → HasCause c (world before around) (world after around) status →
      IfOk result (λ report. Says status text report) → Done_so result
  refused_works v status text (Err wanting) is same refusal refused has says = unwritten_works wanting same
  refused_works v status text (Ok report) is same refusal refused has says =
      let V : FileMap → Type 0 = λ held. verdict held c ≡ v in
      let K : FileMap → Type 0 = λ held. after.held ≡ Some held in
      file_works status text report says
      (along_both V K (Told status text) before.held (λ held e stays. refusal_told status text held refusal (record { refusal_is = ap refusal_of e ∙ refused; held = stays; quiet = refl })) is (kept before.held after.held same)) has

  -- the read of a file that the command reads failed
  pub read_failed_works : (name : List ℕ) (report : Report) → IsServed c → IfSome before.held (λ held. Contains (named_in held c) name) → after.held ≡ before.held → IfSome before.held (λ _. after.failed ≡ Some name) → Rose before.read_faults after.read_faults →
      Says ReadFault (line (codes "read fault: " ++ name)) report → Done_so (Ok report)
  read_failed_works name report served needed same named rose says =
      let C : FileMap → Type 0 = λ held. Contains (named_in held c) name in
      let N : FileMap → Type 0 = λ held. after.failed ≡ Some name in
      let K : FileMap → Type 0 = λ held. after.held ≡ Some held in
      let B : FileMap → Type 0 = λ held. C held × N held in
      file_works ReadFault (line (codes "read fault: " ++ name)) report says
      (along_both B K (Told ReadFault (line (codes "read fault: " ++ name))) before.held (λ held b stays. (record { name = name; reads = b.0; failed_is = b.1; held = stays; cause = rose }, refl, refl))
      (along_both C N B before.held (λ held x y. (x, y)) needed named) (kept before.held after.held same)) (served, rose)

  -- the first read of a command, of this name, answered a fault
  module _ (name : List ℕ) (go : FileMap → List ℕ → Verdict) (served : IsServed c) (needed : IfSome before.held (λ held. Contains (named_in held c) name)) (is : IfSome before.held (λ held. verdict held c ≡ of_source name (go held) (content held name))) where
    abbrev Says_so : FileFault → Result Report Wanting → Type 0
    Says_so fault result = IfOk result (λ report. SaysUnread name report fault)

    too_long : (held : FileMap) → verdict held c ≡ of_source name (go held) (content held name) → ReadGives held name (Err IsTooLong) → verdict held c ≡ TooLong name
    too_long held e gives = e ∙ ap (of_source name (go held)) gives.1 ∙ ap (λ b. if b then go held gives.0 else TooLong name) (not_below (length gives.0) (2 ^ 31) gives.2)

    abbrev OfFile : FileMap → Type 0
    OfFile held = verdict held c ≡ of_source name (go held) (content held name)

    pub unread_works : (fault : FileFault) (result : Result Report Wanting) → Reads before.held after.held name (Err fault) → IfSome before.held (λ _. after.failed ≡ failed_by_read before.failed name (Err fault)) → (IsErrOf {T = Vec ℕ} {E = FileFault} (Err fault) Failed → Rose before.read_faults after.read_faults) →
        Says_so fault result → Done_so result
    unread_works fault (Err wanting) reads named cause says = unwritten_works wanting (read_stays before.held after.held name (Err fault) reads)
    unread_works IsAbsent (Ok report) reads named cause says =
        let G : FileMap → Type 0 = λ held. ReadGives held name (Err IsAbsent) in
        let V : FileMap → Type 0 = λ held. verdict held c ≡ Absent name in
        refused_works (Absent name) Missing (line (codes "absent: " ++ name)) (Ok report) (along_both OfFile G V before.held (λ held e gives. e ∙ ap (of_source name (go held)) gives) is (read_gives before.held after.held name (Err IsAbsent) reads))
        (read_stays before.held after.held name (Err IsAbsent) reads) refl refl served says
    unread_works IsTooLong (Ok report) reads named cause says =
        let G : FileMap → Type 0 = λ held. ReadGives held name (Err IsTooLong) in
        let V : FileMap → Type 0 = λ held. verdict held c ≡ TooLong name in
        refused_works (TooLong name) Missing (line (codes "too long: " ++ name)) (Ok report) (along_both OfFile G V before.held too_long is (read_gives before.held after.held name (Err IsTooLong) reads))
        (read_stays before.held after.held name (Err IsTooLong) reads) refl refl served says
    unread_works Failed (Ok report) reads named cause says = read_failed_works name report served needed (read_stays before.held after.held name (Err Failed) reads) named (cause refl) says
    unread_works ReadNoMemory (Ok report) reads named cause says = absurd says

  -- the verdict is this one, and no file has changed so far
  module _ (v : Verdict) (mid : Keeper) (name bytes : List ℕ) (served : IsServed c) (is : VerdictIs v) (same : mid.held ≡ before.held) (faults : mid.write_faults ≡ before.write_faults) (writes : Writes v ((name, bytes) ∷ [])) where
    -- the write of the command's file failed
    pub torn_works : (report : Report) → SaysTorn mid after name bytes report → Done_so (Ok report)
    torn_works report torn =
        let R : ℕ → Type 0 = λ n. Rose n after.write_faults in
        let rose : Rose before.write_faults after.write_faults = subst R faults torn.cause in
        let V : FileMap → Type 0 = λ held. verdict held c ≡ v in
        let T : FileMap → Type 0 = λ held. TornAt held after name bytes in
        let W : Verdict → Type 0 = λ x. Writes x ((name, bytes) ∷ []) in
        file_works WriteFault (line (codes "write fault: " ++ name)) report torn.says
        (along_both V T (Told WriteFault (line (codes "write fault: " ++ name))) before.held
        (λ held e t. inl (record { first = []; name = name; bytes = bytes; later = []; writes = subst W (sym e) writes; files = t.files; held = t.held; torn = t.torn; failed_is = t.failed_is; cause = rose }, refl, refl))
        is (told_before T before.held mid.held same torn.torn)) (served, inl rose)

    -- the command's file was to be written, and that is all
    module _ (completes : (held : FileMap) → Finishes v held around (world after around) Done (line (codes "done")) → Completes held around (world after around) (line (codes "done")) Done v) where
      stored : (report : Report) → Says Done (line (codes "done")) report → Stored mid after name bytes → Done_so (Ok report)
      stored report says wrote =
          let V : FileMap → Type 0 = λ held. verdict held c ≡ v in
          let W : FileMap → Type 0 = λ held. after.held ≡ Some (with_file held name bytes) in
          let C : FileMap → Verdict → Type 0 = λ held x. Completes held around (world after around) (line (codes "done")) Done x in
          file_works Done (line (codes "done")) report says
          (along_both V W (Told Done (line (codes "done"))) before.held
          (λ held e w. subst (C held) (sym e) (completes held (record { status_is = refl; line_is = refl; wrote = record { files = (name, bytes) ∷ []; writes = writes; held = w }; quiet = refl })))
          is (told_before W before.held mid.held same wrote)) served

      pub delivered_works : (result : Result Report Wanting) → Delivers mid after name bytes result → Done_so result
      delivered_works (Err wanting) keeps = unstored_works mid wanting same keeps
      delivered_works (Ok report) (inl (says, wrote)) = stored report says wrote
      delivered_works (Ok report) (inr torn) = torn_works report torn
