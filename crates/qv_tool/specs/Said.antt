-- The put of the line that ends a call.
use Rattle.std.specs.Prelude.{◌≡◌, ℕ, List, Option, ◌⊎◌}
use Rattle.qv_outside.specs.Causes.{Rose}
use Rattle.qv_outside.specs.Told.{Appends, AppendsPrefix}
use Rattle.qv_tool.specs.declared.status.Status.{Status}
use Rattle.qv_tool.specs.declared.status.Status.TheVariants.{WriteFault, NoMemory}

-- the line was put, or the put failed
abbrev pub Said : Status → List ℕ → Option (List ℕ) → Option (List ℕ) → ℕ → ℕ → Status → Type 0
Said status text before after faults_before faults_after result =
    ((result ≡ status) × Appends before after text) ⊎ ((result ≡ WriteFault) × Rose faults_before faults_after × AppendsPrefix before after text)

-- the call answers this status, but for a fault: the put of the line failed, or memory was refused
abbrev pub IsAnswered : Status → ℕ → ℕ → Status → Type 0
IsAnswered status faults_before faults_after result = (result ≡ status) ⊎ (((result ≡ WriteFault) × Rose faults_before faults_after) ⊎ (result ≡ NoMemory))
