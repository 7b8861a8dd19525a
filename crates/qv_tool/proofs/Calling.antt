-- The work of a command that calls an image.
use Rattle.std.proofs.Common.{◌≡◌, ℕ, List, [], ◌∷◌, Option, Some, Ok, Err, inl, inr, refl, sym, subst}
use Rattle.std.specs.Prelude.{Result, IfSome}
use Rattle.qv_base.specs.declared.NoMemory.{NoMemory as Wanting}
use Rattle.qv_image.specs.Image.{Qvm}
use Rattle.qv_outside.specs.FileMap.{FileMap, with_file}
use Rattle.vm_core.specs.declared.stop.Stop.{Stop}
use Rattle.vm_core.specs.declared.stop.Stop.TheVariants.{Returned, Budget as StepsUsed, HostFault as HostFailed, OutFault}
use Rattle.qcc_front.specs.Source.{SourceRun}
use Rattle.pp_dir.specs.Endings.{Keeper}
use Rattle.qv_tool.specs.declared.report.Report.{Report}
use Rattle.qv_tool.specs.declared.status.Status.TheVariants.{NoMemory, ReadFault}
use Rattle.qv_tool.specs.Answers.{BreaksOff, Completes, Reports}
use Rattle.qv_tool.specs.Built.{Agrees, IsFollower}
use Rattle.qv_tool.specs.Causes.{Calls, HasCause, IsServed, IsSilent, MakesCalls}
use Rattle.qv_tool.specs.Ending.{line, stop_status, stop_text}
use Rattle.qv_tool.specs.Played.{Played, Plays}
use Rattle.qv_tool.specs.Status.{Refusal, kind_of}
use Rattle.qv_tool.specs.Task.{Task, task_of}
use Rattle.qv_tool.specs.Verdict.{Verdict, Builds, Runs, verdict}
use Rattle.qv_tool.specs.Work.{Stored, Works}
use Rattle.qv_tool.specs.World.{World}
use Rattle.qv_tool.proofs.Told.{along_both, kept, told_before}
use Rattle.qv_tool.proofs.Working.{says_works, wants_works}
use Rattle.qv_words.specs.Words.{Command}

not_refused : (stop : Stop) → kind_of (stop_status stop) ≡ Refusal → ⊥
not_refused (Returned word) e = cc
not_refused StepsUsed e = cc
not_refused HostFailed e = cc
not_refused OutFault e = cc
not_refused stop e = cc

not_unread : (stop : Stop) → stop_status stop ≡ ReadFault → ⊥
not_unread (Returned word) e = cc
not_unread StepsUsed e = cc
not_unread HostFailed e = cc
not_unread OutFault e = cc
not_unread stop e = cc

-- a command that asks for a task that calls an image
pub calls_by : (c : Command) (task : Option Task) → task_of c ≡ task → Calls task → MakesCalls (Some c)
calls_by c task asked calls = let C : Option Task → Type 0 = λ t. Calls t in subst C (sym asked) calls

module _ (c : Option Command) (before after : World) (served : IsServed c) (calls_one : MakesCalls c) (table : after.around.table ≡ before.around.table) where
  abbrev Stays : Type 0
  Stays = after.around ≡ before.around

  loud : (stop : Stop) → IsSilent c (stop_status stop) → Stays
  loud stop (inl none) = absurd (none calls_one)
  loud stop (inr (inl refused)) = absurd (not_refused stop refused)
  loud stop (inr (inr unread)) = absurd (not_unread stop unread)

  loud_wanting : IsSilent c NoMemory → Stays
  loud_wanting (inl none) = absurd (none calls_one)
  loud_wanting (inr (inl refused)) = absurd (let e = refused in cc)
  loud_wanting (inr (inr unread)) = absurd (let e = unread in cc)

  -- the calls came to a stop, and the files are written
  stop_reports : (held : FileMap) (text : List ℕ) (stop : Stop) → Completes held before.around after text (stop_status stop) (verdict held c) → Reports c held before after text (stop_status stop)
  stop_reports held text (Returned word) completes = completes
  stop_reports held text StepsUsed completes = completes
  stop_reports held text HostFailed completes = completes
  stop_reports held text OutFault completes = inr completes
  stop_reports held text stop completes = completes

  module _ (z : Qvm) (steps : ℕ) (calls : List (List ℕ)) where
    stop_cause : (stop : Stop) → Played z steps calls before.around after.around stop → HasCause c before after (stop_status stop)
    stop_cause (Returned word) played = served
    stop_cause StepsUsed played = served
    stop_cause HostFailed played = (served, played.host_cause refl)
    stop_cause OutFault played = (served, inr (played.out_cause refl))
    stop_cause stop played = served

    -- an image was called for this verdict
    module _ (v : Verdict) (is : IfSome before.files.held (λ held. verdict held c ≡ v)) (Left : FileMap → Type 0) (left : IfSome before.files.held Left)
        (completes : (held : FileMap) (stop : Stop) → Left held → Played z steps calls before.around after.around stop → Completes held before.around after (line (stop_text stop)) (stop_status stop) v) (breaks : (held : FileMap) → Left held → Stays → BreaksOff v held before.around after) where
      come : (stop : Stop) → Played z steps calls before.around after.around stop → (held : FileMap) → verdict held c ≡ v → Left held → Completes held before.around after (line (stop_text stop)) (stop_status stop) (verdict held c)
      come stop played held e l = let C : Verdict → Type 0 = λ x. Completes held before.around after (line (stop_text stop)) (stop_status stop) x in subst C (sym e) (completes held stop l played)

      pub called_works : (result : Result Report Wanting) → Plays z steps calls before.around after.around result → Works c before after result
      called_works (Ok report) (stop, played, tells) =
          says_works c before after (stop_status stop) (line (stop_text stop)) report (record { status_is = tells.status_is; line_is = tells.line_is })
          (along_both (λ held. verdict held c ≡ v) Left (λ held. Reports c held before after (line (stop_text stop)) (stop_status stop)) before.files.held (λ held e l. stop_reports held (line (stop_text stop)) stop (come stop played held e l)) is left)
          (stop_cause stop played) table (loud stop)
      called_works (Err wanting) (inl stays) =
          let B : FileMap → Verdict → Type 0 = λ held x. BreaksOff x held before.around after in
          wants_works c before after wanting (along_both (λ held. verdict held c ≡ v) Left (λ held. B held (verdict held c)) before.files.held (λ held e l. subst (B held) (sym e) (breaks held l stays)) is left) table loud_wanting
      called_works (Err wanting) (inr (stop, played)) =
          wants_works c before after wanting (along_both (λ held. verdict held c ≡ v) Left (λ held. BreaksOff (verdict held c) held before.around after) before.files.held (λ held e l. inr (stop_status stop, line (stop_text stop), come stop played held e l)) is left) table loud_wanting

    -- an image that was read
    pub played_works : (result : Result Report Wanting) → IfSome before.files.held (λ held. verdict held c ≡ Runs steps calls z) → after.files.held ≡ before.files.held → Plays z steps calls before.around after.around result → Works c before after result
    played_works result is same plays =
        called_works (Runs steps calls z) is (λ held. after.files.held ≡ Some held) (kept before.files.held after.files.held same)
        (λ held stop l played. record { stop = stop; played = played; tells = record { status_is = refl; line_is = refl }; held = l }) (λ held l stays. inl (inl l, stays)) result plays

  -- that of a unit, whose file was written before
  pub built_works : (steps : ℕ) (calls : List (List ℕ)) (mid : Keeper) (name bytes : List ℕ) (run : SourceRun) (follower : IsFollower run bytes) (result : Result Report Wanting) → IfSome before.files.held (λ held. verdict held c ≡ Builds steps calls name run) → mid.held ≡ before.files.held →
      Stored mid after.files name bytes → ((stop : Stop) (played : Played follower.image steps calls before.around after.around stop) → Agrees run before.around.table calls played.ran.ran.replies follower.image steps stop) → Plays follower.image steps calls before.around after.around result → Works c before after result
  built_works steps calls mid name bytes run follower result is same stored agrees plays =
      let L : FileMap → Type 0 = λ held. after.files.held ≡ Some (with_file held name bytes) in
      called_works follower.image steps calls (Builds steps calls name run) is L (told_before L before.files.held mid.held same stored)
      (λ held stop l played. record { bytes = bytes; follower = follower; stop = stop; played = played; agrees = agrees stop played; tells = record { status_is = refl; line_is = refl }; held = l })
      (λ held l stays. inl (inr (record { first = (name, bytes) ∷ []; later = []; writes = (bytes, refl, follower); held = l }), stays)) result plays
