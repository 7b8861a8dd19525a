-- The contents of several files, one after another.
use Rattle.std.proofs.Common.{◌≡◌, ℕ, ◌+◌, ◌<◌, ◌≤◌, ◌^◌, List, [], ◌∷◌, ◌++◌, length, drop, get_or, Option, Some, None, Ok, Err, inl, inr, refl, sym, ap, ◌∙◌, subst, arith}
use Rattle.std.specs.Prelude.{Contains, Result, IfSome, IsErrOf, if◌then◌else◌}
use Rattle.std.specs.Global.{Vec}
use Rattle.std.proofs.lemmas.List.{append-nil, drop_all, drop_more}
use Rattle.std.proofs.lemmas.List.Elements.{Contains-get_or}
use Rattle.qv_outside.specs.Causes.{Rose}
use Rattle.qv_outside.specs.FileMap.{FileMap, Reads, ReadGives, content, failed_by_read}
use Rattle.qv_outside.specs.declared.files.FileFault.{FileFault}
use Rattle.qv_outside.specs.declared.files.FileFault.TheVariants.{Absent, TooLong, Failed, NoMemory as ReadNoMemory}
use Rattle.pp_dir.specs.Endings.{Keeper}
use Rattle.qv_tool.specs.declared.report.Report.{Report}
use Rattle.qv_tool.specs.Gathered.{Gathered, Found, Lacking, Overlong, gather_one, gathered, with_text}
use Rattle.qv_tool.specs.Work.{IsRefused, SaysUnread}
use Rattle.qv_tool.proofs.Told.{along_both, below, not_below, read_gives, told_before}

-- several contents before the others
abbrev pub with_texts : List (List ℕ) → Gathered → Gathered
with_texts [] later = later
with_texts (text ∷ texts) later = with_text text (with_texts texts later)

pub texts_more : (texts : List (List ℕ)) (text : List ℕ) (later : Gathered) → with_texts (texts ++ text ∷ []) later ≡ with_texts texts (with_text text later)
texts_more [] text later = refl
texts_more (t ∷ texts) text later = ap (with_text t) (texts_more texts text later)

pub texts_found : (texts others : List (List ℕ)) → with_texts texts (Found others) ≡ Found (texts ++ others)
texts_found [] others = refl
texts_found (t ∷ texts) others = ap (with_text t) (texts_found texts others)

pub texts_lacking : (texts : List (List ℕ)) (name : List ℕ) → with_texts texts (Lacking name) ≡ Lacking name
texts_lacking [] name = refl
texts_lacking (t ∷ texts) name = ap (with_text t) (texts_lacking texts name)

pub texts_overlong : (texts : List (List ℕ)) (name : List ℕ) → with_texts texts (Overlong name) ≡ Overlong name
texts_overlong [] name = refl
texts_overlong (t ∷ texts) name = ap (with_text t) (texts_overlong texts name)

module _ (held : FileMap) (names : List (List ℕ)) (i : ℕ) (none : List ℕ) (lt : i < length names) (texts : List (List ℕ)) (so_far : gathered held names ≡ with_texts texts (gathered held (drop i names))) where
  here : gathered held names ≡ with_texts texts (gather_one (get_or names i none) (content held (get_or names i none)) (gathered held (drop (i + 1) names)))
  here = so_far ∙ ap (λ ns. with_texts texts (gathered held ns)) (drop_more names i none lt)

  -- the next file was read
  pub gather_goes : (bytes : List ℕ) → content held (get_or names i none) ≡ Some bytes → length bytes < 2 ^ 31 → gathered held names ≡ with_texts (texts ++ bytes ∷ []) (gathered held (drop (i + 1) names))
  gather_goes bytes is short =
      here ∙ ap (λ x. with_texts texts (gather_one (get_or names i none) x (gathered held (drop (i + 1) names)))) is
      ∙ ap (λ b. with_texts texts (if b then with_text bytes (gathered held (drop (i + 1) names)) else Overlong (get_or names i none))) (below (length bytes) (2 ^ 31) short)
      ∙ sym (texts_more texts bytes (gathered held (drop (i + 1) names)))

  -- it isn't held
  pub gather_lacks : content held (get_or names i none) ≡ None → gathered held names ≡ Lacking (get_or names i none)
  gather_lacks is = here ∙ ap (λ x. with_texts texts (gather_one (get_or names i none) x (gathered held (drop (i + 1) names)))) is ∙ texts_lacking texts (get_or names i none)

  -- it is too long
  pub gather_overlong : (bytes : List ℕ) → content held (get_or names i none) ≡ Some bytes → 2 ^ 31 ≤ length bytes → gathered held names ≡ Overlong (get_or names i none)
  gather_overlong bytes is long =
      here ∙ ap (λ x. with_texts texts (gather_one (get_or names i none) x (gathered held (drop (i + 1) names)))) is
      ∙ ap (λ b. with_texts texts (if b then with_text bytes (gathered held (drop (i + 1) names)) else Overlong (get_or names i none))) (not_below (length bytes) (2 ^ 31) long)
      ∙ texts_overlong texts (get_or names i none)

-- what a loop over the names keeps and answers, where the files are told
module _ (names : List (List ℕ)) (i : ℕ) (lt : i < length names) (texts : List (List ℕ)) (name : List ℕ) (same_name : name ≡ get_or names i []) where
  abbrev SoFar : List (List ℕ) → ℕ → FileMap → Type 0
  SoFar ts j held = gathered held names ≡ with_texts ts (gathered held (drop j names))

  abbrev Gives : Result (Vec ℕ) FileFault → FileMap → Type 0
  Gives result held = ReadGives held name result

  pub gather_more : (old mid new : Option FileMap) (source : Vec ℕ) → mid ≡ old → IfSome old (SoFar texts i) → Reads mid new name (Ok source) → IfSome old (SoFar (texts ++ source.items ∷ []) (i + 1))
  gather_more old mid new source same so_far reads =
      along_both (SoFar texts i) (Gives (Ok source)) (SoFar (texts ++ source.items ∷ []) (i + 1)) old (λ held far gives. gather_goes held names i [] lt texts far source.items (ap (content held) (sym same_name) ∙ gives.0) gives.1)
      so_far (told_before (Gives (Ok source)) old mid same (read_gives mid new name (Ok source) reads))

  module _ (first before after : Keeper) (report : Report) (same : before.held ≡ first.held) (later : first.read_faults ≤ before.read_faults) (so_far : IfSome first.held (SoFar texts i)) where
    gives : (fault : FileFault) → Reads before.held after.held name (Err fault) → IfSome first.held (Gives (Err fault))
    gives fault reads = told_before (Gives (Err fault)) first.held before.held same (read_gives before.held after.held name (Err fault) reads)

    pub gather_refused : (fault : FileFault) → Reads before.held after.held name (Err fault) → IfSome before.held (λ _. after.failed ≡ failed_by_read before.failed name (Err fault)) → (IsErrOf {T = Vec ℕ} {E = FileFault} (Err fault) Failed → Rose before.read_faults after.read_faults) → SaysUnread name report fault → IsRefused first after names report
    gather_refused Absent reads named cause says =
        inl (
          name,
          says,
          along_both (SoFar texts i) (Gives (Err Absent)) (λ held. gathered held names ≡ Lacking name) first.held
              (λ held far g. gather_lacks held names i [] lt texts far (ap (content held) (sym same_name) ∙ g) ∙ ap Lacking (sym same_name)) so_far (gives Absent reads),
        )
    gather_refused TooLong reads named cause says =
        inr (inl (
          name,
          says,
          along_both (SoFar texts i) (Gives (Err TooLong)) (λ held. gathered held names ≡ Overlong name) first.held
              (λ held far g. gather_overlong held names i [] lt texts far g.0 (ap (content held) (sym same_name) ∙ g.1) g.2 ∙ ap Overlong (sym same_name)) so_far (gives TooLong reads),
        ))
    gather_refused Failed reads named cause says =
        let C : List ℕ → Type 0 = λ x. Contains names x in
        inr (inr (name, says, subst C (sym same_name) (Contains-get_or names i [] lt), told_before (λ held. after.failed ≡ Some name) first.held before.held same named, omega (arith, later, cause refl)))
    gather_refused ReadNoMemory reads named cause says = absurd says

-- all files were read
pub gather_done : (old : Option FileMap) (names texts : List (List ℕ)) (j : ℕ) → length names ≤ j → IfSome old (λ held. gathered held names ≡ with_texts texts (gathered held (drop j names))) → IfSome old (λ held. gathered held names ≡ Found texts)
gather_done None names texts j le so_far = tt
gather_done (Some held) names texts j le so_far = so_far ∙ ap (λ ns. with_texts texts (gathered held ns)) (drop_all j names le) ∙ texts_found texts [] ∙ ap Found (append-nil texts)
