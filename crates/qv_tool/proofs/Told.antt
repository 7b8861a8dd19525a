-- What holds where the files are told.
use Rattle.std.proofs.Common.{◌≡◌, ◌<◌, ◌≤◌, ◌^◌, ℕ, true, false, List, [], ◌∷◌, length, Option, Some, None, Ok, sym, ap, ◌∙◌, subst, arith}
use Rattle.std.specs.Prelude.{Contains, Result, IfSome, nat_lt, if◌then◌else◌}
use Rattle.std.specs.Global.{Vec}
use Rattle.std.proofs.lemmas.Bool.Decides.{nat_tests}
use Rattle.std.proofs.lemmas.List.Elements.{Contains-get_or}
use Rattle.qv_outside.specs.FileMap.{FileMap, content, Reads, ReadGives}
use Rattle.qv_outside.specs.declared.files.FileFault.{FileFault}
use Rattle.qv_tool.specs.Task.{Task, AssembleList, task_of}
use Rattle.qv_tool.specs.Verdict.{Verdict, TooLong, listed, named_in, of_source, read_for, verdict}
use Rattle.qv_words.specs.Words.{Command}

pub below : (a b : ℕ) → a < b → nat_lt a b ≡ true
below a b lt = grind (arith, nat_tests)

pub not_below : (a b : ℕ) → b ≤ a → nat_lt a b ≡ false
not_below a b le = grind (arith, nat_tests)

-- what holds over all files holds over those that are told
pub if_told : (P : FileMap → Type 0) (old : Option FileMap) → ((held : FileMap) → P held) → IfSome old P
if_told P None h = tt
if_told P (Some held) h = h held

pub along : (P Q : FileMap → Type 0) (old : Option FileMap) → ((held : FileMap) → P held → Q held) → IfSome old P → IfSome old Q
along P Q None h p = tt
along P Q (Some held) h p = h held p

pub along_both : (P Q R : FileMap → Type 0) (old : Option FileMap) → ((held : FileMap) → P held → Q held → R held) → IfSome old P → IfSome old Q → IfSome old R
along_both P Q R None h p q = tt
along_both P Q R (Some held) h p q = h held p q

-- files that are as before
pub kept : (old new : Option FileMap) → new ≡ old → IfSome old (λ held. new ≡ Some held)
kept None new same = tt
kept (Some held) new same = same

pub told_before : (P : FileMap → Type 0) (old mid : Option FileMap) → mid ≡ old → IfSome mid P → IfSome old P
told_before P old mid same p = let I : Option FileMap → Type 0 = λ m. IfSome m P in subst I same p

-- a read changes nothing, and answers by what is held
pub read_stays : (old new : Option FileMap) (name : List ℕ) (result : Result (Vec ℕ) FileFault) → Reads old new name result → new ≡ old
read_stays None new name result reads = reads
read_stays (Some old) new name result reads = reads.0

pub read_gives : (old new : Option FileMap) (name : List ℕ) (result : Result (Vec ℕ) FileFault) → Reads old new name result → IfSome old (λ held. ReadGives held name result)
read_gives None new name result reads = tt
read_gives (Some old) new name result reads = reads.1

-- the verdict on a file that was read
pub read_goes : (c : Option Command) (name : List ℕ) (go : FileMap → List ℕ → Verdict) (old new : Option FileMap) (source : Vec ℕ) → IfSome old (λ held. verdict held c ≡ of_source name (go held) (content held name)) → Reads old new name (Ok source) → IfSome old (λ held. verdict held c ≡ go held source.items)
read_goes c name go None new source is reads = tt
read_goes c name go (Some old) new source is reads = is ∙ ap (of_source name (go old)) reads.1.0 ∙ ap (λ b. if b then go old source.items else TooLong name) (below (length source.items) (2 ^ 31) reads.1.1)

-- the verdict that a verdict comes to
pub verdict_on : (c : Option Command) (u v : Verdict) (old : Option FileMap) → u ≡ v → IfSome old (λ held. verdict held c ≡ u) → IfSome old (λ held. verdict held c ≡ v)
verdict_on c u v old e is = along (λ held. verdict held c ≡ u) (λ held. verdict held c ≡ v) old (λ held h. h ∙ e) is

-- the one file that a task reads is needed
pub needs_one : (c : Command) (task : Option Task) (name : List ℕ) (old : Option FileMap) → task_of c ≡ task → ((held : FileMap) → read_for held task ≡ name ∷ []) → IfSome old (λ held. Contains (named_in held (Some c)) name)
needs_one c task name old asked one =
    if_told (λ held. Contains (named_in held (Some c)) name) old (λ held.
    let C : List (List ℕ) → Type 0 = λ names. Contains names name in
    subst C (sym (ap (read_for held) asked ∙ one held)) (Contains-get_or (name ∷ []) 0 name (omega arith)))

pub needs_list : (c : Command) (image list : List ℕ) (old : Option FileMap) → task_of c ≡ Some (AssembleList image list) → IfSome old (λ held. Contains (named_in held (Some c)) list)
needs_list c image list old asked =
    if_told (λ held. Contains (named_in held (Some c)) list) old (λ held.
    let C : List (List ℕ) → Type 0 = λ names. Contains names list in
    subst C (sym (ap (read_for held) asked)) (Contains-get_or (list ∷ listed (content held list)) 0 list (omega arith)))
