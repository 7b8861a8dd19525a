-- The files that are linked, by the words or by a list.
use Rattle.std.proofs.Common.{◌≡◌, ◌≤◌, ℕ, List, [], ◌∷◌, Option, Some, Ok, Err, inl, inr, refl, sym, ap, ◌∙◌, subst, arith}
use Rattle.std.specs.Prelude.{Contains, Result, IfSome}
use Rattle.std.specs.Global.{Vec}
use Rattle.std.proofs.lemmas.List.Elements.{Contains-append_right}
use Rattle.qv_base.specs.declared.NoMemory.{NoMemory as Wanting}
use Rattle.qv_outside.specs.Causes.{Rose}
use Rattle.qv_outside.specs.FileMap.{FileMap, Reads, ReadGives, content}
use Rattle.pp_dir.specs.Endings.{Keeper}
use Rattle.qv_tool.specs.declared.report.Report.{Report}
use Rattle.qv_tool.specs.declared.status.Status.{Status}
use Rattle.qv_tool.specs.declared.status.Status.TheVariants.{Done, Usage, Missing, NotYet, Source, Assembly, Image, Stopped, Budget, ReadFault, WriteFault, HostFault, NoMemory}
use Rattle.qv_tool.specs.Answers.{Reports}
use Rattle.qv_tool.specs.Causes.{HasCause}
use Rattle.qv_tool.specs.Ending.{line}
use Rattle.qv_tool.specs.Names.{names_in}
use Rattle.qv_tool.specs.Task.{Task, Assemble, AssembleList, task_of}
use Rattle.qv_tool.specs.Verdict.{listed, listed_in, of_list, of_task, read_for, verdict}
use Rattle.qv_tool.specs.Work.{Asks, Leaves, Works}
use Rattle.qv_tool.specs.World.{Surroundings, world}
use Rattle.qv_tool.proofs.Told.{along, along_both, if_told, read_gives, read_goes, read_stays, told_before}
use Rattle.qv_words.specs.Words.{Command}

-- files that the words name
pub files_ask : (c : Command) (image : List ℕ) (names : List (List ℕ)) (held : FileMap) → task_of c ≡ Some (Assemble image names) → Asks c image names held
files_ask c image names held asked = record {
  verdict_is = ap (of_task held) asked;
  needs = λ name one. let C : Option Task → Type 0 = λ t. Contains (read_for held t) name in subst C (sym asked) one;
}

-- a count that rose since a later time rose since an earlier one
rose_since : (a b n : ℕ) → a ≤ b → Rose b n → Rose a n
rose_since a b n le rose = omega (arith, le, rose)

-- what is right since a later time is so since an earlier one, if nothing but a read was done between them
module _ (c : Option Command) (around : Surroundings) (before mid after : Keeper) (reads : before.read_faults ≤ mid.read_faults) (writes : mid.write_faults ≡ before.write_faults) where
  write_since : Rose mid.write_faults after.write_faults → Rose before.write_faults after.write_faults
  write_since rose = let R : ℕ → Type 0 = λ n. Rose n after.write_faults in subst R writes rose

  reports_since : (text : List ℕ) (held : FileMap) (status : Status) → Reports c held (world mid around) (world after around) text status → Reports c held (world before around) (world after around) text status
  reports_since text held Done reports = reports
  reports_since text held Stopped reports = reports
  reports_since text held Budget reports = reports
  reports_since text held HostFault reports = reports
  reports_since text held Usage reports = reports
  reports_since text held NotYet reports = reports
  reports_since text held Missing reports = reports
  reports_since text held Source reports = reports
  reports_since text held Assembly reports = reports
  reports_since text held Image reports = reports
  reports_since text held NoMemory reports = reports
  reports_since text held ReadFault reports =
      let u = reports.0 in (record { name = u.name; reads = u.reads; failed_is = u.failed_is; held = u.held; cause = rose_since _ _ _ reads u.cause }, reports.1, reports.2)
  reports_since text held WriteFault (inl (t, line_is, quiet)) =
      inl (record { first = t.first; name = t.name; bytes = t.bytes; later = t.later; writes = t.writes; files = t.files; held = t.held; torn = t.torn; failed_is = t.failed_is; cause = write_since t.cause }, line_is, quiet)
  reports_since text held WriteFault (inr completes) = inr completes

  cause_since : (status : Status) → HasCause c (world mid around) (world after around) status → HasCause c (world before around) (world after around) status
  cause_since ReadFault has = (has.0, rose_since _ _ _ reads has.1)
  cause_since WriteFault (served, inl rose) = (served, inl (write_since rose))
  cause_since WriteFault (served, inr rose) = (served, inr rose)
  cause_since status has = has

  pub works_since : (result : Result Report Wanting) → mid.held ≡ before.held → Works c (world mid around) (world after around) result → Works c (world before around) (world after around) result
  works_since (Ok report) same works =
      let M : FileMap → Type 0 = λ held. Reports c held (world mid around) (world after around) report.line.items report.status in
      let B : FileMap → Type 0 = λ held. Reports c held (world before around) (world after around) report.line.items report.status in
      record { leaves = along M B before.held (λ held m. reports_since report.line.items held report.status m) (told_before M before.held mid.held same works.leaves); cause = cause_since report.status works.cause; table = refl; quiet = works.quiet }
  works_since (Err wanting) same works =
      let M : FileMap → Type 0 = λ held. Leaves c held (world mid around) (world after around) (Err wanting) in
      record { leaves = told_before M before.held mid.held same works.leaves; cause = tt; table = refl; quiet = works.quiet }

-- the list of `-f`
module _ (c : Command) (image list : List ℕ) (asked : task_of c ≡ Some (AssembleList image list)) (source : Vec ℕ) where
  -- it was read: the verdict is that on its names
  pub list_goes : (old mid : Option FileMap) → Reads old mid list (Ok source) → IfSome old (λ held. verdict held (Some c) ≡ of_list held image list (names_in source.items))
  list_goes old mid reads = read_goes (Some c) list (λ held bytes. of_list held image list (names_in bytes)) old mid source (if_told (λ held. verdict held (Some c) ≡ of_task held (Some (AssembleList image list))) old (λ held. ap (of_task held) asked)) reads

  asks : (held : FileMap) (names : List (List ℕ)) → verdict held (Some c) ≡ of_list held image list (names_in source.items) → content held list ≡ Some source.items → names_in source.items ≡ Ok names → Asks c image names held
  asks held names is here e = record {
    verdict_is = is ∙ ap (of_list held image list) e;
    needs = λ name one.
        let C : Option Task → Type 0 = λ t. Contains (read_for held t) name in
        let L : Option (List ℕ) → Type 0 = λ b. Contains (list ∷ listed b) name in
        let N : Result (List (List ℕ)) ℕ → Type 0 = λ r. Contains (list ∷ listed_in r) name in
        subst C (sym asked) (subst L (sym here) (subst N (sym e) (Contains-append_right (list ∷ []) names name one)));
  }

  -- its names were read
  pub list_asked : (old mid : Option FileMap) (names : List (List ℕ)) → Reads old mid list (Ok source) → names_in source.items ≡ Ok names → IfSome mid (Asks c image names)
  list_asked old mid names reads e =
      let A : FileMap → Type 0 = λ held. Asks c image names held in
      let V : FileMap → Type 0 = λ held. verdict held (Some c) ≡ of_list held image list (names_in source.items) in
      let G : FileMap → Type 0 = λ held. ReadGives held list (Ok source) in
      told_before A mid old (sym (read_stays old mid list (Ok source) reads)) (along_both V G A old (λ held v g. asks held names v g.0 e) (list_goes old mid reads) (read_gives old mid list (Ok source) reads))
