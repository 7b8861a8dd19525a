-- What a call of the tool answers, by what the command reported and how the put of the line went.
use Rattle.std.proofs.Common.{◌≡◌, ℕ, List, Option, Some, None, Ok, Err, ◌⊎◌, inl, inr, refl, sym, ap, ◌∙◌, subst, true, false}
use Rattle.std.specs.Prelude.{IfSome, codes}
use Rattle.qv_base.specs.declared.NoMemory.{NoMemory as Wanting}
use Rattle.qv_outside.specs.Causes.{Rose}
use Rattle.qv_outside.specs.FileMap.{FileMap}
use Rattle.qv_outside.specs.Told.{Appends}
use Rattle.qv_tool.specs.declared.report.Report.{Report}
use Rattle.qv_tool.specs.declared.status.Status.{Status}
use Rattle.qv_tool.specs.declared.status.Status.TheVariants.{Done, Usage, Missing, NotYet, Source, Assembly, Image, Stopped, Budget, ReadFault, WriteFault, HostFault, NoMemory}
use Rattle.qv_tool.specs.Answers.{BreaksOff, Completed, Completes, LineFailed, ReadFailed, Refused, Refuses, Reports, WriteFailed}
use Rattle.qv_tool.specs.Causes.{HasCause, IsServed, IsSilent, IsUnserved, MayBeUnready}
use Rattle.qv_tool.specs.Ending.{line}
use Rattle.qv_tool.specs.Said.{IsAnswered, Said}
use Rattle.qv_tool.specs.Status.{End, Fault, Refusal as Refusing, Want, kind_of}
use Rattle.qv_tool.specs.Verdict.{Verdict, Compiles, Disassembles, Links, Runs, Builds, IsCalledFor, Refusal, refusal_of, verdict}
use Rattle.qv_tool.specs.Work.{Works}
use Rattle.qv_tool.specs.World.{World}
use Rattle.qv_tool.proofs.Told.{along}
use Rattle.qv_words.specs.Words.{Command}

-- where the files are told
module _ (c : Option Command) (held : FileMap) (before after : World) where
  abbrev pub CalledFor : Status → Type 0
  CalledFor status = IsCalledFor (refusal_of (verdict held c)) status ⊎ (kind_of status ≡ Fault ⊎ kind_of status ≡ Want)

  completes_called : (v : Verdict) (text : List ℕ) (status : Status) → kind_of status ≡ End → Completes held before.around after text status v → IsCalledFor (refusal_of v) status
  completes_called (Compiles names run) text status end completes = end
  completes_called (Links image z) text status end completes = end
  completes_called (Disassembles file z) text status end completes = end
  completes_called (Runs steps calls z) text status end completes = end
  completes_called (Builds steps calls image run) text status end completes = end
  completes_called v text status end completes = absurd completes

  refused_called : (v : Verdict) (text : List ℕ) (status : Status) → Refuses v held before.around after status text → IsCalledFor (refusal_of v) status
  refused_called v text status refuses = let P : Option Refusal → Type 0 = λ r. IsCalledFor r status in subst P (sym refuses.refusal_is) refl

  ends : (text : List ℕ) (status : Status) → kind_of status ≡ End → Reports c held before after text status → Completes held before.around after text status (verdict held c)
  ends text Done end reports = reports
  ends text Stopped end reports = reports
  ends text Budget end reports = reports
  ends text status end reports = absurd (cc end)

  refuses : (text : List ℕ) (status : Status) → kind_of status ≡ Refusing → Reports c held before after text status → Refuses (verdict held c) held before.around after status text
  refuses text Usage is reports = reports
  refuses text NotYet is reports = reports
  refuses text Missing is reports = reports
  refuses text Source is reports = reports
  refuses text Assembly is reports = reports
  refuses text Image is reports = reports
  refuses text status is reports = absurd (cc is)

  -- what is reported is called for, or a fault
  reported : (text : List ℕ) (status : Status) → Reports c held before after text status → CalledFor status
  reported text ReadFault reports = inr (inl refl)
  reported text WriteFault reports = inr (inl refl)
  reported text HostFault reports = inr (inl refl)
  reported text NoMemory reports = inr (inr refl)
  reported text Done reports = inl (completes_called (verdict held c) text Done refl reports)
  reported text Stopped reports = inl (completes_called (verdict held c) text Stopped refl reports)
  reported text Budget reports = inl (completes_called (verdict held c) text Budget refl reports)
  reported text status reports = inl (refused_called (verdict held c) text status (refuses text status refl reports))

  module _ (puts puts_now : ℕ) (put put_now : Option (List ℕ)) (text : List ℕ) (status result : Status) (reports : Reports c held before after text status) where
    abbrev So : Type 0
    So = Said status text put put_now puts puts_now result

    exact : So → CalledFor result
    exact (inl (is, line_is)) = subst CalledFor (sym is) (reported text status reports)
    exact (inr (is, rose, line_is)) = inr (inl (ap kind_of is))

    -- what is reported, at the status that is answered
    abbrev At : Status → Type 0
    At s = Reports c held before after text s

    completed : (s : Status) → s ≡ result → Completes held before.around after text s (verdict held c) → Appends put put_now text → Completed c held before after result put put_now
    completed s is completes line_is =
        let P : Status → Type 0 = λ x. Completes held before.around after text x (verdict held c) in
        record { text = text; completes = subst P is completes; line_is = line_is }

    at_end : So → kind_of result ≡ End → Completed c held before after result put put_now
    at_end (inl (is, line_is)) end = completed status (sym is) (ends text status (sym (ap kind_of is) ∙ end) reports) line_is
    at_end (inr (is, rose, line_is)) end = let e : Fault ≡ End = sym (ap kind_of is) ∙ end in absurd (cc e)

    at_refusal : So → kind_of result ≡ Refusing → Refused c held before after result put put_now
    at_refusal (inl (is, line_is)) refusal =
        let P : Status → Type 0 = λ x. Refuses (verdict held c) held before.around after x text in
        record { text = text; refuses = subst P (sym is) (refuses text status (sym (ap kind_of is) ∙ refusal) reports); line_is = line_is }
    at_refusal (inr (is, rose, line_is)) refusal = let e : Fault ≡ Refusing = sym (ap kind_of is) ∙ refusal in absurd (cc e)

    at_read : So → result ≡ ReadFault → ReadFailed c held before after put put_now
    at_read (inl (is, line_is)) fault =
        let at : At ReadFault = subst At (sym is ∙ fault) reports in
        let Q : List ℕ → Type 0 = λ t. Appends put put_now t in
        record { unread = at.0; line_is = subst Q at.1 line_is; quiet = at.2 }
    at_read (inr (is, rose, line_is)) fault = let e : WriteFault ≡ ReadFault = sym is ∙ fault in absurd (cc e)

    abbrev Failed : Type 0
    Failed = WriteFailed c held before after put put_now ⊎ (Completed c held before after result put put_now ⊎ LineFailed c held before after put put_now puts puts_now)

    write_reported : At WriteFault → result ≡ WriteFault → Appends put put_now text → Failed
    write_reported (inl (torn, is, quiet)) fault line_is = let Q : List ℕ → Type 0 = λ t. Appends put put_now t in inl (record { torn = torn; line_is = subst Q is line_is; quiet = quiet })
    write_reported (inr completes) fault line_is = inr (inl (completed WriteFault (sym fault) completes line_is))

    at_write : So → result ≡ WriteFault → Failed
    at_write (inl (is, line_is)) fault = write_reported (subst At (sym is ∙ fault) reports) fault line_is
    at_write (inr (is, rose, line_is)) fault = inr (inr (record { status = status; text = text; reported = reports; line_is = line_is; cause = rose }))

    at_host : So → result ≡ HostFault → Completed c held before after result put put_now
    at_host (inl (is, line_is)) fault = completed HostFault (sym fault) (subst At (sym is ∙ fault) reports) line_is
    at_host (inr (is, rose, line_is)) fault = let e : WriteFault ≡ HostFault = sym is ∙ fault in absurd (cc e)

    at_wanting : So → result ≡ NoMemory → BreaksOff (verdict held c) held before.around after
    at_wanting (inl (is, line_is)) fault = let at : At NoMemory = subst At (sym is ∙ fault) reports in at.1
    at_wanting (inr (is, rose, line_is)) fault = let e : WriteFault ≡ NoMemory = sym is ∙ fault in absurd (cc e)

-- the clauses of the tool
module _ (c : Option Command) (before after : World) (puts puts_now : ℕ) (put put_now : Option (List ℕ)) (result : Status) where
  -- those on what the files hold
  pub record Told (held : FileMap) : Type 0 where
    pub exact_is : IsCalledFor (refusal_of (verdict held c)) result ⊎ (kind_of result ≡ Fault ⊎ kind_of result ≡ Want)
    pub completed_is : kind_of result ≡ End → Completed c held before after result put put_now
    pub refused_is : kind_of result ≡ Refusing → Refused c held before after result put put_now
    pub read_failed_is : result ≡ ReadFault → ReadFailed c held before after put put_now
    pub write_failed_is : result ≡ WriteFault → WriteFailed c held before after put put_now ⊎ (Completed c held before after result put put_now ⊎ LineFailed c held before after put put_now puts puts_now)
    pub host_failed_is : result ≡ HostFault → Completed c held before after result put put_now
    pub memory_is : result ≡ NoMemory → BreaksOff (verdict held c) held before.around after

  -- those on causes
  pub record Caused : Type 0 where
    pub usage_is : result ≡ Usage → c ≡ None
    pub unreadable_is : c ≡ None → IsAnswered Usage puts puts_now result
    pub not_yet_is : result ≡ NotYet → MayBeUnready c
    pub unserved_is : IsUnserved c → IsAnswered NotYet puts puts_now result
    pub read_fault_is : result ≡ ReadFault → Rose before.files.read_faults after.files.read_faults
    pub write_fault_is : result ≡ WriteFault → Rose before.files.write_faults after.files.write_faults ⊎ (Rose before.around.out_faults after.around.out_faults ⊎ Rose puts puts_now)
    pub host_fault_is : result ≡ HostFault → Rose before.around.host_faults after.around.host_faults
    pub memory_line_is : result ≡ NoMemory → Appends put put_now (line (codes "no memory"))
    pub quiet_is : IsSilent c result → after.around ≡ before.around

  pub record Answers : Type 0 where
    pub told : IfSome before.files.held Told
    pub caused : Caused

  abbrev Has : Status → Type 0
  Has = HasCause c before after

  tells : (held : FileMap) (text : List ℕ) (status : Status) → Reports c held before after text status → Said status text put put_now puts puts_now result → Told held
  tells held text status reports said = record {
    exact_is = exact c held before after puts puts_now put put_now text status result reports said;
    completed_is = at_end c held before after puts puts_now put put_now text status result reports said;
    refused_is = at_refusal c held before after puts puts_now put put_now text status result reports said;
    read_failed_is = at_read c held before after puts puts_now put put_now text status result reports said;
    write_failed_is = at_write c held before after puts puts_now put put_now text status result reports said;
    host_failed_is = at_host c held before after puts puts_now put put_now text status result reports said;
    memory_is = at_wanting c held before after puts puts_now put put_now text status result reports said;
  }

  -- the status is one that the command reported, or the put of the line failed, or memory was refused
  abbrev Reason : Type 0
  Reason = Has result ⊎ (((result ≡ WriteFault) × Rose puts puts_now) ⊎ ((result ≡ NoMemory) × Appends put put_now (line (codes "no memory"))))

  usage : Reason → result ≡ Usage → c ≡ None
  usage (inl has) e = subst Has e has
  usage (inr (inl (is, rose))) e = let p : WriteFault ≡ Usage = sym is ∙ e in absurd (cc p)
  usage (inr (inr (is, line_is))) e = let p : NoMemory ≡ Usage = sym is ∙ e in absurd (cc p)

  only_usage : (status : Status) → HasCause None before after status → status ≡ Usage
  only_usage Usage has = refl
  only_usage ReadFault has = absurd has.0
  only_usage WriteFault has = absurd has.0
  only_usage HostFault has = absurd has.0
  only_usage status has = absurd has

  unreadable : Reason → c ≡ None → IsAnswered Usage puts puts_now result
  unreadable (inl has) none = let H : Option Command → Type 0 = λ d. HasCause d before after result in inl (only_usage result (subst H none has))
  unreadable (inr (inl fault)) none = inr (inl fault)
  unreadable (inr (inr (is, line_is))) none = inr (inr is)

  not_yet : Reason → result ≡ NotYet → MayBeUnready c
  not_yet (inl has) e = subst Has e has
  not_yet (inr (inl (is, rose))) e = let p : WriteFault ≡ NotYet = sym is ∙ e in absurd (cc p)
  not_yet (inr (inr (is, line_is))) e = let p : NoMemory ≡ NotYet = sym is ∙ e in absurd (cc p)

  not_both : (d : Option Command) → IsUnserved d → IsServed d → ⊥
  not_both None un served = un
  not_both (Some d) un served = let e : false ≡ true = sym un ∙ served in cc e

  only_not_yet : (d : Option Command) (status : Status) → IsUnserved d → HasCause d before after status → status ≡ NotYet
  only_not_yet None status un has = absurd un
  only_not_yet (Some d) NotYet un has = refl
  only_not_yet (Some d) Usage un has = absurd (cc has)
  only_not_yet (Some d) NoMemory un has = absurd has
  only_not_yet (Some d) ReadFault un has = absurd (not_both (Some d) un has.0)
  only_not_yet (Some d) WriteFault un has = absurd (not_both (Some d) un has.0)
  only_not_yet (Some d) HostFault un has = absurd (not_both (Some d) un has.0)
  only_not_yet (Some d) status un has = absurd (not_both (Some d) un has)

  unserved : Reason → IsUnserved c → IsAnswered NotYet puts puts_now result
  unserved (inl has) un = inl (only_not_yet c result un has)
  unserved (inr (inl fault)) un = inr (inl fault)
  unserved (inr (inr (is, line_is))) un = inr (inr is)

  read_fault : Reason → result ≡ ReadFault → Rose before.files.read_faults after.files.read_faults
  read_fault (inl has) e = let h : Has ReadFault = subst Has e has in h.1
  read_fault (inr (inl (is, rose))) e = let p : WriteFault ≡ ReadFault = sym is ∙ e in absurd (cc p)
  read_fault (inr (inr (is, line_is))) e = let p : NoMemory ≡ ReadFault = sym is ∙ e in absurd (cc p)

  caused_write : Has WriteFault → Rose before.files.write_faults after.files.write_faults ⊎ (Rose before.around.out_faults after.around.out_faults ⊎ Rose puts puts_now)
  caused_write (served, inl rose) = inl rose
  caused_write (served, inr rose) = inr (inl rose)

  write_fault : Reason → result ≡ WriteFault → Rose before.files.write_faults after.files.write_faults ⊎ (Rose before.around.out_faults after.around.out_faults ⊎ Rose puts puts_now)
  write_fault (inl has) e = caused_write (subst Has e has)
  write_fault (inr (inl (is, rose))) e = inr (inr rose)
  write_fault (inr (inr (is, line_is))) e = let p : NoMemory ≡ WriteFault = sym is ∙ e in absurd (cc p)

  host_fault : Reason → result ≡ HostFault → Rose before.around.host_faults after.around.host_faults
  host_fault (inl has) e = let h : Has HostFault = subst Has e has in h.1
  host_fault (inr (inl (is, rose))) e = let p : WriteFault ≡ HostFault = sym is ∙ e in absurd (cc p)
  host_fault (inr (inr (is, line_is))) e = let p : NoMemory ≡ HostFault = sym is ∙ e in absurd (cc p)

  memory_line : Reason → result ≡ NoMemory → Appends put put_now (line (codes "no memory"))
  memory_line (inl has) e = absurd (subst Has e has)
  memory_line (inr (inl (is, rose))) e = let p : WriteFault ≡ NoMemory = sym is ∙ e in absurd (cc p)
  memory_line (inr (inr (is, line_is))) e = line_is

  -- where the put of the line failed, the status says nothing of the calls
  quiet : (status : Status) (text : List ℕ) → Said status text put put_now puts puts_now result → (IsSilent c status → after.around ≡ before.around) → IsSilent c result → after.around ≡ before.around
  quiet status text said h (inl none) = h (inl none)
  quiet status text (inl (is, line_is)) h (inr silent) = let S : Status → Type 0 = λ s. IsSilent c s in h (subst S is (inr silent))
  quiet status text (inr (is, rose, line_is)) h (inr (inl refused)) = let e : Fault ≡ Refusing = sym (ap kind_of is) ∙ refused in absurd (cc e)
  quiet status text (inr (is, rose, line_is)) h (inr (inr unread)) = let e : WriteFault ≡ ReadFault = sym is ∙ unread in absurd (cc e)

  causes : Reason → (IsSilent c result → after.around ≡ before.around) → Caused
  causes reason silent = record {
    usage_is = usage reason;
    unreadable_is = unreadable reason;
    not_yet_is = not_yet reason;
    unserved_is = unserved reason;
    read_fault_is = read_fault reason;
    write_fault_is = write_fault reason;
    host_fault_is = host_fault reason;
    memory_line_is = memory_line reason;
    quiet_is = silent;
  }

  reported_reason : (status : Status) (text : List ℕ) → Has status → Said status text put put_now puts puts_now result → Reason
  reported_reason status text has (inl (is, line_is)) = inl (subst Has (sym is) has)
  reported_reason status text has (inr (is, rose, line_is)) = inr (inl (is, rose))

  refused_reason : Said NoMemory (line (codes "no memory")) put put_now puts puts_now result → Reason
  refused_reason (inl (is, line_is)) = inr (inr (is, line_is))
  refused_reason (inr (is, rose, line_is)) = inr (inl (is, rose))

  -- the command reported
  pub after_report : (report : Report) (text : List ℕ) → Works c before after (Ok report) → text ≡ report.line.items → Said report.status text put put_now puts puts_now result → Answers
  after_report report text works is said =
      let P : List ℕ → Type 0 = λ t. Said report.status t put put_now puts puts_now result in
      let L : FileMap → Type 0 = λ held. Reports c held before after report.line.items report.status in
      record {
        told = along L Told before.files.held (λ held leaves. tells held report.line.items report.status leaves (subst P is said)) works.leaves;
        caused = causes (reported_reason report.status text works.cause said) (quiet report.status text said works.quiet);
      }

  -- memory was refused
  pub after_refusal : (wanting : Wanting) → Works c before after (Err wanting) → Said NoMemory (line (codes "no memory")) put put_now puts puts_now result → Answers
  after_refusal wanting works said =
      let L : FileMap → Type 0 = λ held. BreaksOff (verdict held c) held before.around after in
      record {
        told = along L Told before.files.held (λ held leaves. tells held (line (codes "no memory")) NoMemory (refl, leaves) said) works.leaves;
        caused = causes (refused_reason said) (quiet NoMemory (line (codes "no memory")) said works.quiet);
      }

  -- each clause on what the files hold
  module _ (answers : Answers) where
    pub is_exact : IfSome before.files.held (λ held. IsCalledFor (refusal_of (verdict held c)) result ⊎ (kind_of result ≡ Fault ⊎ kind_of result ≡ Want))
    is_exact = along Told (λ held. IsCalledFor (refusal_of (verdict held c)) result ⊎ (kind_of result ≡ Fault ⊎ kind_of result ≡ Want)) before.files.held (λ held t. t.exact_is) answers.told

    pub is_completed : IfSome before.files.held (λ held. kind_of result ≡ End → Completed c held before after result put put_now)
    is_completed = along Told (λ held. kind_of result ≡ End → Completed c held before after result put put_now) before.files.held (λ held t. t.completed_is) answers.told

    pub is_refused : IfSome before.files.held (λ held. kind_of result ≡ Refusing → Refused c held before after result put put_now)
    is_refused = along Told (λ held. kind_of result ≡ Refusing → Refused c held before after result put put_now) before.files.held (λ held t. t.refused_is) answers.told

    pub is_read_failed : IfSome before.files.held (λ held. result ≡ ReadFault → ReadFailed c held before after put put_now)
    is_read_failed = along Told (λ held. result ≡ ReadFault → ReadFailed c held before after put put_now) before.files.held (λ held t. t.read_failed_is) answers.told

    pub is_write_failed : IfSome before.files.held (λ held. result ≡ WriteFault → WriteFailed c held before after put put_now ⊎ (Completed c held before after result put put_now ⊎ LineFailed c held before after put put_now puts puts_now))
    is_write_failed = along Told (λ held. result ≡ WriteFault → WriteFailed c held before after put put_now ⊎ (Completed c held before after result put put_now ⊎ LineFailed c held before after put put_now puts puts_now)) before.files.held (λ held t. t.write_failed_is) answers.told

    pub is_host_failed : IfSome before.files.held (λ held. result ≡ HostFault → Completed c held before after result put put_now)
    is_host_failed = along Told (λ held. result ≡ HostFault → Completed c held before after result put put_now) before.files.held (λ held t. t.host_failed_is) answers.told

    pub is_refused_memory : IfSome before.files.held (λ held. result ≡ NoMemory → BreaksOff (verdict held c) held before.around after)
    is_refused_memory = along Told (λ held. result ≡ NoMemory → BreaksOff (verdict held c) held before.around after) before.files.held (λ held t. t.memory_is) answers.told
