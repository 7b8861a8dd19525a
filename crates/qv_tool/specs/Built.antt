-- What a unit is built to, and what its program says of the calls of its image.
use Rattle.std.specs.Prelude.{◌≡◌, ℕ, ◌+◌, ◌*◌, ◌<◌, ◌≤◌, ◌⊎◌, List, length, Ok}
use Rattle.qv_image.specs.Image.{Qvm, IsImage, file_bytes}
use Rattle.qv_outside.specs.Event.{Event, Reply}
use Rattle.qv_outside.specs.Hosts.{Table}
use Rattle.asm_link.specs.Link.{linked}
use Rattle.vm_core.specs.CallsRan.{last_word}
use Rattle.vm_core.specs.declared.stop.Stop.{Stop}
use Rattle.vm_core.specs.declared.stop.Stop.TheVariants.{Returned, Budget}
use Rattle.qcc_front.specs.Follows.{Follows}
use Rattle.qcc_front.specs.Source.{SourceRun, Done}
use Rattle.qv_tool.specs.Ending.{stop_status}
use Rattle.qv_tool.specs.Status.{End, kind_of}

-- an image that follows the program, of at most 10,000,000 instructions
pub record IsBuilt (run : SourceRun) (z : Qvm) : Type 0 where
  pub follows : Follows run z
  pub small : length z.code ≤ 10000000

-- the texts are linked to such an image
pub record Assembles (run : SourceRun) (texts : List (List ℕ)) : Type 0 where
  pub image : Qvm
  pub links : linked texts ≡ Ok image
  pub built : IsBuilt run image

-- the file is that of such an image
pub record IsFollower (run : SourceRun) (bytes : List ℕ) : Type 0 where
  pub image : Qvm
  pub is_image : IsImage image
  pub built : IsBuilt run image
  pub file : bytes ≡ file_bytes image

-- where the program is done in n turns, over these replies, calls of at most so many steps that have come to an end
-- have returned its last word, or one of them has used its steps, which are fewer than the n turns may take
abbrev pub Agrees : SourceRun → Table → List (List ℕ) → List Reply → Qvm → ℕ → Stop → Type 0
Agrees run table calls replies z steps stop = (n : ℕ) (words : List ℕ) (events : List Event) → run table calls replies n ≡ Done words events → kind_of (stop_status stop) ≡ End →
    (stop ≡ Returned (last_word words)) ⊎ ((stop ≡ Budget) × (steps < length z.code * (n + 1)))
