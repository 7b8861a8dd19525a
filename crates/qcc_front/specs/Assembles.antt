-- What the assembly texts of a program promise.
use Rattle.std.specs.Prelude.{◌≡◌, ℕ, ◌≤◌, List, length, Ok}
use Rattle.qv_image.specs.Image.{Qvm}
use Rattle.asm_link.specs.Link.{linked}
use Rattle.qcc_front.specs.Follows.{Follows}
use Rattle.qcc_front.specs.Sum.{Sum, sum_run}

-- the texts are linked to an image that follows the program. It has at most 603 instructions: 3 for each of the 199
-- terms behind the first, and 6 beside
pub record Assembles (e : Sum) (texts : List (List ℕ)) : Type 0 where
  pub image : Qvm
  pub links : linked texts ≡ Ok image
  pub follows : Follows (sum_run e) image
  pub small : length image.code ≤ 603
