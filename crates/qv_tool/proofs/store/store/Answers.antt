use Rattle.std.proofs.Common.{rules, ◌≡◌, ℕ, List, Option, Some, None, Err, refl, subst}
use Rattle.std.specs.Prelude.{IfSome}
use Rattle.qv_outside.specs.FileMap.{FileMap, Torn, Writes, failed_by_write}
use Rattle.qv_outside.specs.declared.files.WriteFault.{WriteFault}
use Rattle.qv_outside.specs.declared.files.WriteFault.TheVariants.{Failed}
use Rattle.pp_dir.specs.Endings.{Keeper, keeper_of}
use Rattle.qv_tool.specs.Work.{TornAt}
use Rattle.qv_tool.proofs.Told.{along_both}
use Rattle.qv_tool.proofs.store.store.Goals as goal

torn_held : (old new : Option FileMap) (name bytes : List ℕ) → Writes old new name bytes (Err Failed) → IfSome old (λ held. (files : FileMap) × (new ≡ Some files) × Torn held files name bytes)
torn_held None new name bytes wrote = tt
torn_held (Some old) None name bytes wrote = absurd wrote
torn_held (Some old) (Some new) name bytes wrote = (new, refl, wrote)

-- the write of a file failed
torn_at : (before after : Keeper) (name bytes : List ℕ) (fault : WriteFault) → fault ≡ Failed → Writes before.held after.held name bytes (Err fault) → IfSome before.held (λ _. after.failed ≡ failed_by_write before.failed name (Err fault)) → IfSome before.held (λ held. TornAt held after name bytes)
torn_at before after name bytes fault is wrote named =
    let W : WriteFault → Type 0 = λ f. Writes before.held after.held name bytes (Err f) in
    let N : WriteFault → Type 0 = λ f. IfSome before.held (λ _. after.failed ≡ failed_by_write before.failed name (Err f)) in
    along_both (λ held. (files : FileMap) × (after.held ≡ Some files) × Torn held files name bytes) (λ held. after.failed ≡ Some name) (λ held. TornAt held after name bytes) before.held
    (λ held t n. record { files = t.0; held = t.1; torn = t.2; failed_is = n }) (torn_held before.held after.held name bytes (subst W is wrote)) (subst N is named)

pub returns-in-Err-Failed : goal.returns-in-Err-Failed
returns-in-Err-Failed g c = record {
  says = c.in_ok-fault.ensures;
  cause = search rules;
  torn = torn_at (keeper_of g.F.Files c.args.files.now) (keeper_of g.F.Files c.write.new.self) c.args.name.now c.args.bytes.now c.in-Err-Failed.field-0 c.in-Err-Failed.field-0-is c.in-Err-Failed.ensures.told c.in-Err-Failed.ensures.named;
}
