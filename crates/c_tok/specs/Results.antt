-- Results of which a fault is handed on.
use Rattle.std.specs.Prelude.{◌≡◌, ◌≢◌, Result, Ok, Err}
use Rattle.c_tok.specs.declared.fault.TokFault.{TokFault}
use Rattle.c_tok.specs.declared.fault.TokFault.TheVariants.{NoMemory}

abbrev pub on_ok : {A B : Type 0} → (A → B) → Result A TokFault → Result B TokFault
on_ok f (Ok x) = Ok (f x)
on_ok f (Err e) = Err e

abbrev pub and_then : {A B : Type 0} → (A → Result B TokFault) → Result A TokFault → Result B TokFault
and_then f (Ok x) = f x
and_then f (Err e) = Err e

-- what is answered is as defined; want of memory alone is free
abbrev pub Answers : {A : Type 0} → Result A TokFault → Result A TokFault → Type 0
Answers read (Ok x) = read ≡ Ok x
Answers read (Err e) = e ≢ NoMemory → read ≡ Err e
