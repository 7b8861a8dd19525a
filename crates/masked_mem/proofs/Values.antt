-- The machine values of a region and of a lease: what is owned tells them, and is made of nothing.
use Rattle.std.proofs.Common.{◌≡◌, List, [], ◌∷◌, ◌++◌, refl, ◌∙◌}
use base.Fml.{Fml}
use base.Logic.{ent, emp}
use denote.RattleType.{RattleType}
use denote.RawPtr.{Ptr, RawPtr, ptr_val}
use denote.Shadow.{makes_shadow, shadow}
use denote.Struct.Struct.{Struct}
use mir.Val.{Val, of_list, vcons, vnil, vstruct}
use seplogic.Ra.Ura.{Ura}
use types.Logic.{Logic, sem}

-- a struct by its fields alone: what it owns does not read its name
abbrev plainly : List RattleType → RattleType
plainly Rs = Struct (record { name = []; args = []; types = []; fields = Rs })

abbrev pub region_val : Ptr → Val
region_val p = vstruct (vcons (ptr_val p) vnil)

abbrev pub region_own : Ptr → List Val → Fml
region_own p = (plainly (RawPtr ∷ [])).own_val (p, tt)

pub region_told : (p : Ptr) (vs : List Val) → shadow (region_own p vs) → vs ≡ region_val p ∷ []
region_told p vs s = s.1.0 ∙ (λ i. vstruct (of_list (s.1.1.0 i ++ [])) ∷ [])

abbrev pub lease_val : Val
lease_val = vstruct (vcons (vstruct vnil) vnil)

abbrev pub lease_own : List Val → Fml
lease_own = (plainly (plainly [] ∷ [])).own_val (tt, tt)

pub lease_told : (vs : List Val) → shadow (lease_own vs) → vs ≡ lease_val ∷ []
lease_told vs s = s.1.0 ∙ (λ i. vstruct (of_list (s.1.1.0.1.0 i ++ [])) ∷ [])

module _ {M : Type 1} {𝓤 : Ura M} (𝓛 : Logic 𝓤) where
  pub region_made : (p : Ptr) → ent 𝓤 (emp 𝓤) (sem 𝓛 (region_own p (region_val p ∷ [])))
  region_made p = makes_shadow 𝓛 (region_own p (region_val p ∷ [])) (λ _. (tt, (tt, tt))) ((ptr_val p ∷ [], tt), (refl, (refl, tt)))

  pub lease_made : ent 𝓤 (emp 𝓤) (sem 𝓛 (lease_own (lease_val ∷ [])))
  lease_made = makes_shadow 𝓛 (lease_own (lease_val ∷ [])) (λ _. (tt, ((λ _. (tt, tt)), tt))) ((vstruct vnil ∷ [], tt), (refl, ((tt, (refl, tt)), tt)))
