-- What a function makes, unless memory is refused.
use Rattle.std.specs.Prelude.{◌≡◌, Result, Ok, Err}
use Rattle.c_decl.specs.declared.fault.Halt.{Halt}
use Rattle.c_decl.specs.declared.fault.Halt.TheVariants.{NoMemory}

abbrev pub Made : {A : Type 0} → A → Result A Halt → Type 0
Made a (Ok x) = x ≡ a
Made a (Err e) = e ≡ NoMemory
