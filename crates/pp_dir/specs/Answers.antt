-- What functions answer that do a part of the work, unless memory is refused. No public clause names it.
use Rattle.std.specs.Prelude.{◌≡◌, List, Result, Ok, Err}
use Rattle.pp_dir.specs.declared.fault.LineStop.{LineStop}
use Rattle.pp_dir.specs.declared.fault.LineStop.TheVariants.{Wrong, NoMemory}
use Rattle.pp_macro.specs.declared.fault.ExpandFault.{ExpandFault}
use Rattle.pp_macro.specs.declared.fault.ExpandFault.TheVariants as e
use Rattle.pp_dir.specs.declared.group.Group.{Group}
use Rattle.pp_dir.specs.declared.state.State.{State}
use Rattle.pp_dir.specs.Sections.{Local, wrong_of}
use Rattle.pp_dir.specs.Groups.{Flow}

-- a line is wrong in this way
abbrev pub IsWrong : {A : Type 0} → Local A → LineStop → Type 0
IsWrong outcome (Wrong w) = outcome ≡ Err w
IsWrong outcome NoMemory = Unit {0}

-- a value
abbrev pub Gives : {A : Type 0} → Local A → Result A LineStop → Type 0
Gives outcome (Ok x) = outcome ≡ Ok x
Gives outcome (Err stop) = IsWrong outcome stop

-- a value, and the state behind it
abbrev pub GivesWith : {A : Type 0} → Local (A × State) → Result A LineStop → State → Type 0
GivesWith outcome (Ok x) new = outcome ≡ Ok (x, new)
GivesWith outcome (Err stop) new = IsWrong outcome stop

-- a state
abbrev pub Changes : Local State → Result (Unit {0}) LineStop → State → Type 0
Changes outcome (Ok _) new = outcome ≡ Ok new
Changes outcome (Err stop) new = IsWrong outcome stop

-- the open conditionals, and a state
abbrev pub Flows : Local Flow → Result (Unit {0}) LineStop → List Group → State → Type 0
Flows outcome (Ok _) groups new = outcome ≡ Ok (groups, new)
Flows outcome (Err stop) groups new = IsWrong outcome stop

-- a fault of expansion, by its line
abbrev pub Unexpanded : ExpandFault → LineStop → Type 0
Unexpanded e.NoMemory stop = stop ≡ NoMemory
Unexpanded f stop = stop ≡ Wrong (wrong_of f)
