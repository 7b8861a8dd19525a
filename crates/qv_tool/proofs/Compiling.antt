-- The work of a command that compiles units.
use Rattle.std.proofs.Common.{◌≡◌, ℕ, true, false, List, [], ◌∷◌, Option, Some, None, Ok, Err, refl, sym, ap, ◌∙◌, subst, arith, length, map}
use denote.Ref.{Bor}
use Rattle.std.specs.Prelude.{Contains, Result, IfOk, IfSome, codes, is_some, is_none, option_map, ◌≤◌}
use Rattle.std.proofs.lemmas.List.{length-map}
use Rattle.std.specs.Str.{bytes_eq}
use Rattle.std.proofs.lemmas.Map.Views.{Contains-from_any}
use Rattle.std.proofs.lemmas.Slice.Eq.{bytes_eq-Decides}
use Rattle.qv_base.specs.declared.NoMemory.{NoMemory as Wanting}
use Rattle.qv_image.specs.Image.{Qvm}
use Rattle.qv_outside.specs.FileMap.{FileMap, content}
use Rattle.asm_link.specs.Link.{linked}
use Rattle.asm_link.specs.Shown.{texts_of}
use Rattle.asm_link.specs.declared.fault.AsmFile.{AsmFile}
use Rattle.pp_macro.specs.Tokens.{is_among}
use Rattle.pp_dir.specs.Endings.{Keeper}
use Rattle.qcc_front.specs.declared.compile.Compiled.{Compiled}
use Rattle.qcc_front.specs.declared.fault.CompileStop.{CompileStop}
use Rattle.qcc_front.specs.declared.fault.CompileStop.TheVariants as stop
use Rattle.qcc_front.specs.Accepted.{Outcome, accepted, stop_of, tried_by}
use Rattle.qcc_front.specs.Assembles.{Assembles}
use Rattle.qcc_front.specs.Compiled.{IsCompiled, Keeps as KeepsFiles, names_of}
use Rattle.qcc_front.specs.Job.{Job, name_shown, single_in, single_unit}
use Rattle.qcc_front.specs.Source.{SourceRun}
use Rattle.qcc_front.specs.Sum.{Sum, sum_run}
use Rattle.qv_tool.specs.declared.report.Report.{Report}
use Rattle.qv_tool.specs.declared.status.Status.{Status}
use Rattle.qv_tool.specs.declared.status.Status.TheVariants.{Missing, NotYet, Source}
use Rattle.qv_tool.specs.Built.{IsBuilt, Assembles as AssemblesProgram}
use Rattle.qv_tool.specs.Causes.{HasCause, IsServed, MayBeUnready, ReadsUnit}
use Rattle.qv_tool.specs.Ending.{line}
use Rattle.qv_tool.specs.Faulty.{source_text}
use Rattle.qv_tool.specs.Status.{Refusal, kind_of}
use Rattle.qv_tool.specs.Task.{Task, Build, build_job, build_task, served, task_of, text_name}
use Rattle.qv_tool.specs.Verdict.{Verdict, named_in, of_accepted, of_stop, refusal_of, verdict}
use Rattle.qv_tool.specs.Work.{Says, SaysUncompiled, Works}
use Rattle.qv_tool.specs.World.{Surroundings, world}
use Rattle.qv_tool.specs.Written.{AreTexts}
use Rattle.qv_tool.proofs.Told.{along}
use Rattle.qv_tool.proofs.Working.{read_failed_works, refused_works, unwritten_works}
use Rattle.qv_words.specs.Words.{BuildArgs, Command, Qall}

-- a command whose task reads a unit may be of a form that isn't served yet
pub unready_by : (c : Command) (task : Task) → task_of c ≡ Some task → ReadsUnit task → MayBeUnready (Some c)
unready_by c task asked reads = let R : Option Task → Type 0 = λ t. IfSome t ReadsUnit in subst R (sym asked) reads

-- the one unit of a job
module _ (unit : List ℕ) where
  single : (binds : Option (List ℕ)) (units : List (List ℕ)) → single_in binds units ≡ Some unit → units ≡ unit ∷ []
  single None [] e = absurd cc
  single None (u ∷ []) e = let is : u ≡ unit = cc in ap (λ x. x ∷ []) is
  single None (u ∷ v ∷ us) e = absurd cc
  single (Some b) units e = absurd cc

  pub single_is : (job : Job) → single_unit job ≡ Some unit → job.units ≡ unit ∷ []
  single_is job e = single job.binds job.units e

  -- its texts are as many as its units
  pub as_many : (texts : List AsmFile) (names : List (List ℕ)) → names_of texts ≡ names → length texts ≡ length names
  as_many texts names named = sym (length-map texts (λ (t : AsmFile). t.name)) ∙ ap length named

  pub few_units : (job : Job) → single_unit job ≡ Some unit → length job.units ≤ 4096
  few_units job e = let n : length job.units ≡ 1 = ap length (single_is job e) in omega (arith, n)

  -- its text
  pub one_text : (job : Job) (texts : List AsmFile) → single_unit job ≡ Some unit → names_of texts ≡ job.units → length texts ≡ 1
  one_text job [] e named = absurd (let n : [] ≡ unit ∷ [] = named ∙ single_is job e in cc)
  one_text job (t ∷ []) e named = refl
  one_text job (t ∷ u ∷ ts) e named = absurd (let n : t.name ∷ u.name ∷ names_of ts ≡ unit ∷ [] = named ∙ single_is job e in cc)

pub alone : (text : AsmFile) (rest texts : List AsmFile) → texts ≡ text ∷ rest → length texts ≡ 1 → texts ≡ text ∷ []
alone text [] texts is one = is
alone text (t ∷ ts) texts is one = absurd (let n : length texts ≡ length (text ∷ t ∷ ts) = ap length is in omega (arith, n, one))

among : (name : List ℕ) (names : List (List ℕ)) → is_among name names ≡ true → Contains names name
among name names is = Contains-from_any {eq = λ x y. bytes_eq y x} (λ x y e. sym ((bytes_eq-Decides y x).0 e)) name names is

-- texts that are linked to an image that follows a sum
pub assembles_program : (e : Sum) (texts : List (List ℕ)) → Assembles e texts → AssemblesProgram (sum_run e) texts
assembles_program e texts a = record { image = a.image; links = a.links; built = record { follows = a.follows; small = omega (arith, a.small) } }

-- the image that they are linked to
pub built_by : (e : Sum) (texts : List (List ℕ)) (z : Qvm) → linked texts ≡ Ok z → Assembles e texts → IsBuilt (sum_run e) z
built_by e texts z links a =
    let same : a.image ≡ z = let p = sym a.links ∙ links in cc in
    let B : Qvm → Type 0 = λ i. IsBuilt (sum_run e) i in
    subst B same (record { follows = a.follows; small = omega (arith, a.small) })

-- the text of the one unit, under its name
pub text_written : (folder unit name bytes : List ℕ) (job : Job) (text : AsmFile) (texts : List AsmFile) (e : Sum) → single_unit job ≡ Some unit → texts ≡ text ∷ [] → name ≡ text_name folder unit → bytes ≡ text.text.items → Assembles e (texts_of texts) →
    AreTexts (map (text_name folder) job.units) (sum_run e) ((name, bytes) ∷ [])
text_written folder unit name bytes job text texts e one is name_is bytes_is assembles =
    let A : List AsmFile → Type 0 = λ ts. AssemblesProgram (sum_run e) (texts_of ts) in
    let B : List ℕ → Type 0 = λ b. AssemblesProgram (sum_run e) (b ∷ []) in
    record { named = ap (λ n. n ∷ []) name_is ∙ sym (ap (map (text_name folder)) (single_is unit job one)); assembles = subst B (sym bytes_is) (subst A is (assembles_program e (texts_of texts) assembles)) }

-- a lent name is there where the name is
pub some_shown : (lent : Option (Bor (List ℕ))) (name : Option (List ℕ)) → name_shown lent ≡ name → is_none lent ≡ false → is_some name ≡ true
some_shown None name shown none = absurd cc
some_shown (Some b) name shown none = ap is_some (sym shown)

served_is : (job : Job) (unit : Option (List ℕ)) → is_some unit ≡ true → option_map (λ _. job) unit ≡ Some job
served_is job None one = absurd cc
served_is job (Some unit) one = refl

not_made : (args : BuildArgs) (seed_size : Option (ℕ × ℕ)) → is_some seed_size ≡ false → build_task args seed_size ≡ option_map (Build args.steps args.calls args.image) (served (build_job args))
not_made args None none = refl
not_made args (Some seed) none = absurd cc

-- what a command asks for that builds one unit
pub build_asked : (args : BuildArgs) (calls : List (List ℕ)) (image : List ℕ) → is_some args.seed_size ≡ false → is_some (single_unit (build_job args)) ≡ true → calls ≡ args.calls → image ≡ args.image → task_of (Qall args) ≡ Some (Build args.steps calls image (build_job args))
build_asked args calls image none one calls_is image_is =
    not_made args args.seed_size none
    ∙ ap (option_map (Build args.steps args.calls args.image)) (served_is (build_job args) (single_unit (build_job args)) one)
    ∙ ap (λ k. Some (Build args.steps k args.image (build_job args))) (sym calls_is)
    ∙ ap (λ i. Some (Build args.steps calls i (build_job args))) (sym image_is)

module _ (c : Command) (job : Job) (go : SourceRun → Verdict) (goes : (held : FileMap) → verdict held (Some c) ≡ of_accepted go (accepted (content held) job)) where
  -- the program that texts were made of
  pub program_of : (compiled : Compiled) (old : Option FileMap) → IfSome old (λ m. IsCompiled (accepted (content m) job) (Ok compiled)) → ((e : Sum) × Assembles e (texts_of compiled.texts.items)) →
      (e : Sum) × Assembles e (texts_of compiled.texts.items) × IfSome old (λ held. verdict held (Some c) ≡ go (sum_run e))
  program_of compiled None told (e, assembles) = (e, assembles, tt)
  program_of compiled (Some held) (a, is, assembles) some = (a.program, assembles, goes held ∙ ap (of_accepted go) is)

  stopped : (outcome : Outcome) (s : CompileStop) → stop_of outcome ≡ Some s → of_accepted go outcome ≡ of_stop s
  stopped (Ok a) s e = absurd cc
  stopped (Err r) s e = let is : r.stop ≡ s = cc in ap of_stop is

  module _ (reads : (held : FileMap) → named_in held (Some c) ≡ tried_by (accepted (content held) job)) (served : IsServed (Some c)) (unready : MayBeUnready (Some c)) (around : Surroundings) (before after : Keeper) where
    abbrev Comes : Result Report Wanting → Type 0
    Comes result = Works (Some c) (world before around) (world after around) result

    refused : (s : CompileStop) (status : Status) (text : List ℕ) (report : Report) → IfSome before.held (λ m. stop_of (accepted (content m) job) ≡ Some s) → after.held ≡ before.held → kind_of status ≡ Refusal → refusal_of (of_stop s) ≡ Some (record { status = status; text = text }) →
        HasCause (Some c) (world before around) (world after around) status → Says status text report → Comes (Ok report)
    refused s status text report told same refusal is has says =
        let S : FileMap → Type 0 = λ held. stop_of (accepted (content held) job) ≡ Some s in
        let V : FileMap → Type 0 = λ held. verdict held (Some c) ≡ of_stop s in
        refused_works (Some c) around before after (of_stop s) status text (Ok report) (along S V before.held (λ held e. goes held ∙ stopped (accepted (content held) job) s e) told) same refusal is has says

    unread : (name : List ℕ) (report : Report) → IfSome before.held (λ m. IsCompiled (accepted (content m) job) (Err (stop.ReadFault name))) → KeepsFiles before after (Err (stop.ReadFault name)) → SaysUncompiled (stop.ReadFault name) report → Comes (Ok report)
    unread name report told keeps says =
        let T : FileMap → Type 0 = λ held. is_among name (tried_by (accepted (content held) job)) ≡ true in
        let N : FileMap → Type 0 = λ held. Contains (named_in held (Some c)) name in
        let C : List (List ℕ) → Type 0 = λ names. Contains names name in
        read_failed_works (Some c) around before after name report served (along T N before.held (λ held t. subst C (sym (reads held)) (among name (tried_by (accepted (content held) job)) t)) told) keeps.same keeps.named keeps.cause says

    -- the units weren't compiled
    pub uncompiled_works : (s : CompileStop) (result : Result Report Wanting) → IfSome before.held (λ m. IsCompiled (accepted (content m) job) (Err s)) → KeepsFiles before after (Err s) → IfOk result (λ report. SaysUncompiled s report) → Comes result
    uncompiled_works s (Err wanting) told keeps says = unwritten_works (Some c) around before after wanting keeps.same
    uncompiled_works (stop.Source fault) (Ok report) told keeps says = refused (stop.Source fault) Source (line (source_text fault)) report told keeps.same refl refl served says
    uncompiled_works (stop.Absent name) (Ok report) told keeps says = refused (stop.Absent name) Missing _ report told keeps.same refl refl served says
    uncompiled_works (stop.TooLong name) (Ok report) told keeps says = refused (stop.TooLong name) Missing _ report told keeps.same refl refl served says
    uncompiled_works stop.NotYet (Ok report) told keeps says = refused stop.NotYet NotYet (line (codes "not yet")) report told keeps.same refl refl unready says
    uncompiled_works (stop.ReadFault name) (Ok report) told keeps says = unread name report told keeps says
    uncompiled_works stop.NoMemory (Ok report) told keeps says = absurd says
