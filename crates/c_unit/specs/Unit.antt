-- What reading a unit's tokens promises.
use Rattle.std.specs.Prelude.{◌≡◌, ◌≢◌, Result, Ok, Err}
use Rattle.c_tree.specs.declared.stmt.Unit.{Unit as UnitTree}
use Rattle.c_decl.specs.declared.fault.ParseFault.{ParseFault}
use Rattle.c_decl.specs.declared.fault.ParseFault.TheVariants.{NoMemory}

-- what is read, unless memory fails
abbrev pub Gives : Result UnitTree ParseFault → Result UnitTree ParseFault → Type 0
Gives r (Ok x) = r ≡ Ok x
Gives r (Err e) = e ≢ NoMemory → r ≡ Err e
