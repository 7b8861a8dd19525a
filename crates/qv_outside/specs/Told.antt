-- What an object of the outside tells of a list that only grows. Telling is optional: none says that
-- the object doesn't tell.
use Rattle.std.specs.Prelude.{◌≡◌, ℕ, List, ◌++◌, take, Option, Some, None}

-- where the list is told, these were added at its end
abbrev pub Appends : {X : Type 0} → Option (List X) → Option (List X) → List X → Type 0
Appends None new xs = new ≡ None
Appends (Some old) new xs = new ≡ Some (old ++ xs)

-- where the list is told, a prefix of these was added at its end
abbrev pub AppendsPrefix : {X : Type 0} → Option (List X) → Option (List X) → List X → Type 0
AppendsPrefix None new xs = new ≡ None
AppendsPrefix (Some old) new xs = (count : ℕ) × (new ≡ Some (old ++ take count xs))
