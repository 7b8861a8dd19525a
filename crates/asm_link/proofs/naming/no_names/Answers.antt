use Rattle.std.proofs.Common.{◌≡◌, sym, ap, ◌∙◌, Some, None, refl, arith}
use Rattle.std.specs.FinMap as map
use Rattle.std.specs.FinMap.{get-empty}
use Rattle.asm_place.specs.Symbols.{key_order}
use Rattle.asm_link.proofs.naming.no_names.Goals as goal

pub invariant_of-result : goal.invariant_of-result
invariant_of-result c = record {
  numbered = λ key n h. let found : None ≡ Some n = sym (ap (λ m. map.get m key) c.new.ensures ∙ get-empty key_order key) ∙ h in cc;
  settled = refl;
  within = omega arith;
}
