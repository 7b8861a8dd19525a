-- What compiling a unit answers, by what preprocessing it and reading its tokens answer.
use Rattle.std.proofs.Common.{◌≡◌, ℕ, List, Option, Some, None, Ok, Err, refl, sym, ap, ◌∙◌, subst, arith}
use Rattle.std.specs.Prelude.{Result, IfSome}
use Rattle.qv_outside.specs.Causes.{Rose}
use Rattle.qv_outside.specs.FileMap.{FileMap}
use Rattle.qv_outside.specs.declared.files.FileFault.TheVariants as f
use Rattle.asm_link.specs.Shown.{texts_of}
use Rattle.pp_tok.specs.declared.token.PpTok.{PpTok}
use Rattle.pp_macro.specs.Tokens.{is_among}
use Rattle.c_tree.specs.declared.stmt.Unit.{Unit as UnitTree}
use Rattle.pp_dir.specs.declared.fault.PpStop.{PpStop}
use Rattle.pp_dir.specs.declared.fault.PpStop.TheVariants as p
use Rattle.pp_dir.specs.declared.state.State.{State}
use Rattle.pp_dir.specs.declared.unit.Preprocessed.{Preprocessed}
use Rattle.pp_dir.specs.Endings.{Keeper, Keeps as KeepsFiles, Stops, itself, stop_of as pp_stop_of, tried_in}
use Rattle.pp_dir.specs.Preprocessed.{Outcome as UnitOutcome}
use Rattle.pp_dir.specs.Units.{IsPreprocessed}
use Rattle.qcc_front.specs.declared.compile.Compiled.{Compiled}
use Rattle.qcc_front.specs.declared.fault.CompileStop.{CompileStop}
use Rattle.qcc_front.specs.declared.fault.CompileStop.TheVariants as c
use Rattle.qcc_front.specs.declared.fault.CompileStop.TheVariants.{NotYet}
use Rattle.qcc_front.specs.Accepted.{of_sum, of_tree, of_unit, stop_from, stop_of, tried_by}
use Rattle.qcc_front.specs.Assembles.{Assembles}
use Rattle.qcc_front.specs.Compiled.{IsCompiled, IsStopped, Keeps, failed_after, failed_in}
use Rattle.qcc_front.specs.FirstForm.{spellings, unit_of}
use Rattle.qcc_front.specs.Sum.{Sum}
use Rattle.qcc_front.specs.Tree.{Gives, tree_of}
use Rattle.qcc_front.proofs.Trees.{all_read}

-- what holds over the files that are told
pub along : (P Q : FileMap → Type 0) (old : Option FileMap) → ((held : FileMap) → P held → Q held) → IfSome old P → IfSome old Q
along P Q None h p = tt
along P Q (Some held) h p = h held p

pub if_told : (P : FileMap → Type 0) (old : Option FileMap) → ((held : FileMap) → P held) → IfSome old P
if_told P None h = tt
if_told P (Some held) h = h held

-- ---- a unit that isn't preprocessed

sum_tried : (tried : List (List ℕ)) (e : Option Sum) → tried_by (of_sum tried e) ≡ tried
sum_tried tried None = refl
sum_tried tried (Some e) = refl

tree_tried : (tried : List (List ℕ)) (toks : List PpTok) (tree : Result UnitTree CompileStop) → tried_by (of_tree tried toks tree) ≡ tried
tree_tried tried toks (Ok tree) = sum_tried tried (unit_of (spellings toks))
tree_tried tried toks (Err stop) = refl

same_tried : (outcome : UnitOutcome State) → tried_by (of_unit outcome) ≡ tried_in itself outcome
same_tried (Ok unit) = tree_tried unit.tried unit.toks (tree_of unit.names unit.toks)
same_tried (Err stopped) = refl

same_stop : (outcome : UnitOutcome State) (stop : PpStop) → pp_stop_of outcome ≡ Some stop → stop_of (of_unit outcome) ≡ Some (stop_from stop)
same_stop (Ok unit) stop e = absurd (cc)
same_stop (Err stopped) stop e = let is : stopped.stop ≡ stop = cc in ap (λ s. Some (stop_from s)) is

stops : (outcome : UnitOutcome State) (stop : PpStop) → Stops itself outcome stop → IsStopped (of_unit outcome) (stop_from stop)
stops outcome p.NoMemory s = tt
stops outcome (p.Fault fault) s = same_stop outcome (p.Fault fault) s
stops outcome (p.File name f.Absent) s = same_stop outcome (p.File name f.Absent) s
stops outcome (p.File name f.TooLong) s = same_stop outcome (p.File name f.TooLong) s
stops outcome (p.File name f.Failed) s = ap (is_among name) (same_tried outcome) ∙ s
stops outcome (p.File name f.NoMemory) s = absurd s

-- ---- one that is

same_tree : (s : State) (unit : Preprocessed) → unit.names ≡ s.names → unit.toks ≡ s.toks → tree_of s.names s.toks ≡ tree_of unit.names unit.toks
same_tree s unit names toks = ap (λ (x : List (List ℕ)). tree_of x s.toks) (sym names) ∙ ap (λ (x : List PpTok). tree_of unit.names x) (sym toks)

-- its tokens have no tree
no_tree : (outcome : UnitOutcome State) (unit : Preprocessed) (stop : CompileStop) → IsPreprocessed outcome (Ok unit) → tree_of unit.names unit.toks ≡ Err stop → stop_of (of_unit outcome) ≡ Some stop
no_tree outcome unit stop (s, is, names, toks) told =
    ap (λ o. stop_of (of_unit o)) is ∙ ap (λ r. stop_of (of_tree s.tried s.toks r)) (same_tree s unit names toks ∙ told)

no_tree_stops : (outcome : UnitOutcome State) (unit : Preprocessed) (stop : CompileStop) → IsPreprocessed outcome (Ok unit) → Gives (tree_of unit.names unit.toks) (Err stop) → IsStopped (of_unit outcome) stop
no_tree_stops outcome unit c.NoMemory read told = tt
no_tree_stops outcome unit c.NotYet read told = no_tree outcome unit c.NotYet read (told (λ e. absurd cc))
no_tree_stops outcome unit (c.Source fault) read told = no_tree outcome unit (c.Source fault) read (told (λ e. absurd cc))
no_tree_stops outcome unit (c.Absent name) read told = no_tree outcome unit (c.Absent name) read (told (λ e. absurd cc))
no_tree_stops outcome unit (c.TooLong name) read told = no_tree outcome unit (c.TooLong name) read (told (λ e. absurd cc))
no_tree_stops outcome unit (c.ReadFault name) read told = let e : Some name ≡ None = all_read unit.names unit.toks (c.ReadFault name) told in absurd (cc)

-- its tokens aren't of the first form
not_first : (outcome : UnitOutcome State) (unit : Preprocessed) (tree : UnitTree) → IsPreprocessed outcome (Ok unit) → tree_of unit.names unit.toks ≡ Ok tree → None ≡ unit_of (spellings unit.toks) → stop_of (of_unit outcome) ≡ Some NotYet
not_first outcome unit tree (s, is, names, toks) has none =
    ap (λ o. stop_of (of_unit o)) is ∙ ap (λ r. stop_of (of_tree s.tried s.toks r)) (same_tree s unit names toks ∙ has)
    ∙ ap (λ e. stop_of (of_sum s.tried e)) (ap (λ ts. unit_of (spellings ts)) (sym toks) ∙ sym none)

-- they are
first : (outcome : UnitOutcome State) (unit : Preprocessed) (tree : UnitTree) (e : Sum) (compiled : Compiled) → IsPreprocessed outcome (Ok unit) → tree_of unit.names unit.toks ≡ Ok tree → Some e ≡ unit_of (spellings unit.toks) → Assembles e (texts_of compiled.texts.items) → IsCompiled (of_unit outcome) (Ok compiled)
first outcome unit tree e compiled (s, is, names, toks) has some assembles = (
  record { program = e; tried = s.tried },
  ap of_unit is ∙ ap (of_tree s.tried s.toks) (same_tree s unit names toks ∙ has) ∙ ap (of_sum s.tried) (ap (λ ts. unit_of (spellings ts)) (sym toks) ∙ sym some),
  assembles,
)

-- ---- where the files are told

module _ (outcome : FileMap → UnitOutcome State) (old : Option FileMap) where
  pub told_stop : (stop : PpStop) → IfSome old (λ m. Stops itself (outcome m) stop) → IfSome old (λ m. IsCompiled (of_unit (outcome m)) (Err (stop_from stop)))
  told_stop stop = along (λ m. Stops itself (outcome m) stop) (λ m. IsCompiled (of_unit (outcome m)) (Err (stop_from stop))) old (λ m s. stops (outcome m) stop s)

  told_no_tree : (unit : Preprocessed) (stop : CompileStop) → IfSome old (λ m. IsPreprocessed (outcome m) (Ok unit)) → Gives (tree_of unit.names unit.toks) (Err stop) → IfSome old (λ m. IsCompiled (of_unit (outcome m)) (Err stop))
  told_no_tree unit stop read told = along (λ m. IsPreprocessed (outcome m) (Ok unit)) (λ m. IsCompiled (of_unit (outcome m)) (Err stop)) old (λ m r. no_tree_stops (outcome m) unit stop r told) read

  pub told_result : (unit : Preprocessed) (stop : CompileStop) (result : Result Compiled CompileStop) → result ≡ Err stop → IfSome old (λ m. IsPreprocessed (outcome m) (Ok unit)) → Gives (tree_of unit.names unit.toks) (Err stop) → IfSome old (λ m. IsCompiled (of_unit (outcome m)) result)
  told_result unit stop result is read told = subst (λ (r : Result Compiled CompileStop). IfSome old (λ m. IsCompiled (of_unit (outcome m)) r)) (sym is) (told_no_tree unit stop read told)

  pub told_not_first : (unit : Preprocessed) (tree : UnitTree) → IfSome old (λ m. IsPreprocessed (outcome m) (Ok unit)) → tree_of unit.names unit.toks ≡ Ok tree → None ≡ unit_of (spellings unit.toks) → IfSome old (λ m. IsCompiled (of_unit (outcome m)) (Err NotYet))
  told_not_first unit tree read has none = along (λ m. IsPreprocessed (outcome m) (Ok unit)) (λ m. IsCompiled (of_unit (outcome m)) (Err NotYet)) old (λ m r. not_first (outcome m) unit tree r has none) read

  pub told_first : (unit : Preprocessed) (tree : UnitTree) (e : Sum) (compiled : Compiled) → IfSome old (λ m. IsPreprocessed (outcome m) (Ok unit)) → tree_of unit.names unit.toks ≡ Ok tree → Some e ≡ unit_of (spellings unit.toks) → Assembles e (texts_of compiled.texts.items) → IfSome old (λ m. IsCompiled (of_unit (outcome m)) (Ok compiled))
  told_first unit tree e compiled read has some assembles = along (λ m. IsPreprocessed (outcome m) (Ok unit)) (λ m. IsCompiled (of_unit (outcome m)) (Ok compiled)) old (λ m r. first (outcome m) unit tree e compiled r has some assembles) read

-- ---- the keeper of the files

-- nothing was read
pub keeps_all : (old : Keeper) (result : Result Compiled CompileStop) → failed_in result ≡ None → Keeps old old result
keeps_all old result none = record {
  same = refl;
  named = if_told (λ _. old.failed ≡ failed_after old.failed (failed_in result)) old.held (λ _. sym (ap (failed_after old.failed) none));
  later = omega arith;
  writes_stay = refl;
  cause = let C : Option (List ℕ) → Type 0 = λ n. IfSome n (λ _. Rose old.read_faults old.read_faults) in subst C (sym none) tt;
}

-- the unit was read
pub keeps_read : (old new : Keeper) (unit : Preprocessed) (result : Result Compiled CompileStop) → KeepsFiles old new (Ok unit) → failed_in result ≡ None → Keeps old new result
keeps_read old new unit result keeps none = record {
  same = keeps.same;
  named = along (λ _. new.failed ≡ old.failed) (λ _. new.failed ≡ failed_after old.failed (failed_in result)) old.held (λ _ is. is ∙ sym (ap (failed_after old.failed) none)) keeps.named;
  later = keeps.later;
  writes_stay = keeps.writes_stay;
  cause = let C : Option (List ℕ) → Type 0 = λ n. IfSome n (λ _. Rose old.read_faults new.read_faults) in subst C (sym none) tt;
}

-- and its tokens have no tree
pub keeps_result : (old new : Keeper) (unit : Preprocessed) (stop : CompileStop) (result : Result Compiled CompileStop) → result ≡ Err stop → KeepsFiles old new (Ok unit) → Gives (tree_of unit.names unit.toks) (Err stop) → Keeps old new result
keeps_result old new unit stop result is keeps told = keeps_read old new unit result keeps (ap failed_in is ∙ all_read unit.names unit.toks stop told)

-- it was not
pub keeps_stop : (old new : Keeper) (stop : PpStop) → KeepsFiles {A = Preprocessed} old new (Err stop) → Keeps old new (Err (stop_from stop))
keeps_stop old new p.NoMemory keeps = record { same = keeps.same; named = keeps.named; later = keeps.later; writes_stay = keeps.writes_stay; cause = tt }
keeps_stop old new (p.Fault fault) keeps = record { same = keeps.same; named = keeps.named; later = keeps.later; writes_stay = keeps.writes_stay; cause = tt }
keeps_stop old new (p.File name f.Absent) keeps = record { same = keeps.same; named = keeps.named; later = keeps.later; writes_stay = keeps.writes_stay; cause = tt }
keeps_stop old new (p.File name f.TooLong) keeps = record { same = keeps.same; named = keeps.named; later = keeps.later; writes_stay = keeps.writes_stay; cause = tt }
keeps_stop old new (p.File name f.Failed) keeps = record { same = keeps.same; named = keeps.named; later = keeps.later; writes_stay = keeps.writes_stay; cause = keeps.cause }
keeps_stop old new (p.File name f.NoMemory) keeps = record { same = keeps.same; named = keeps.named; later = keeps.later; writes_stay = keeps.writes_stay; cause = tt }
