-- What linking the text of an image gives.
use Rattle.std.specs.Prelude.{◌≡◌, ℕ, ◌+◌, ◌-◌, ◌^◌, ◌≤◌, List, [], ◌∷◌, length, Ok}
use Rattle.qv_image.specs.Image.{Qvm}
use Rattle.asm_link.specs.Link.{linked}

-- the text, linked alone, gives an image with the same instructions
pub record GivesCode (text : List ℕ) (z : Qvm) : Type 0 where
  pub image : Qvm
  pub links : linked (text ∷ []) ≡ Ok image
  pub code : image.code ≡ z.code

-- the block takes so few bytes that it stays within its limit where linking rounds sizes up and adds a stack
abbrev pub LeavesRoom : Qvm → Type 0
LeavesRoom z = length z.data_part + length z.lit + z.bss ≤ 2 ^ 26 - 65552

-- the image is what some files of assembly are linked to
pub record IsLinked (z : Qvm) : Type 0 where
  pub texts : List (List ℕ)
  pub links : linked texts ≡ Ok z
