-- What a job's files come to: a program, or the first thing that refuses.
use Rattle.std.specs.Prelude.{ℕ, List, [], Option, Some, None, Result, Ok, Err}
use Rattle.qv_outside.specs.declared.files.FileFault.TheVariants as f
use Rattle.pp_tok.specs.declared.token.PpTok.{PpTok}
use Rattle.pp_dir.specs.declared.fault.PpFaultKind.{PpFaultKind}
use Rattle.pp_dir.specs.declared.fault.PpFaultKind.TheVariants as k
use Rattle.pp_dir.specs.declared.fault.PpStop.{PpStop}
use Rattle.pp_dir.specs.declared.fault.PpStop.TheVariants as p
use Rattle.pp_dir.specs.declared.state.State.{State}
use Rattle.c_tree.specs.declared.stmt.Unit.{Unit as UnitTree}
use Rattle.pp_dir.specs.Preprocessed.{Held, Outcome as UnitOutcome, preprocessed}
use Rattle.qcc_front.specs.declared.fault.CompileStop.{CompileStop}
use Rattle.qcc_front.specs.declared.fault.CompileStop.TheVariants.{Source, Absent, TooLong, ReadFault, NotYet, NoMemory}
use Rattle.qcc_front.specs.declared.fault.SourceKind.{SourceKind}
use Rattle.qcc_front.specs.declared.fault.SourceKind.TheVariants as s
use Rattle.qcc_front.specs.FirstForm.{spellings, unit_of}
use Rattle.qcc_front.specs.Job.{Job, single_unit}
use Rattle.qcc_front.specs.Sum.{Sum}
use Rattle.qcc_front.specs.Tree.{tree_of}

-- a program, and the names of the files that were tried
pub record Accepted : Type 0 where
  pub program : Sum
  pub tried : List (List ℕ)

-- why there is none, and the names that were tried up to there
pub record Refused : Type 0 where
  pub stop : CompileStop
  pub tried : List (List ℕ)

abbrev pub Outcome : Type 0
Outcome = Result Accepted Refused

abbrev pub refused : CompileStop → List (List ℕ) → Outcome
refused stop tried = Err (record { stop = stop; tried = tried })

-- ---- what preprocessing answers

abbrev pub kind_from : PpFaultKind → SourceKind
kind_from k.OpenComment = s.OpenComment
kind_from (k.Redefinition name) = s.Redefinition name
kind_from k.ArgCount = s.ArgumentCount
kind_from k.OpenCall = s.OpenCall
kind_from k.BadPaste = s.BadPaste
kind_from k.MacroLimit = s.MacroLimit
kind_from k.Directive = s.BadDirective
kind_from k.Condition = s.BadCondition
kind_from (k.ErrorDirective text) = s.Error text
kind_from (k.NoInclude name) = s.NoInclude name
kind_from k.IncludeDepth = s.IncludeDepth
kind_from (k.LeftOut name) = s.LeftOut name
kind_from k.OpenIf = s.OpenIf
kind_from k.TokenLimit = s.TokenLimit

abbrev pub stop_from : PpStop → CompileStop
stop_from (p.Fault fault) = Source (record { kind = kind_from fault.kind; file = fault.file; line = fault.line })
stop_from (p.File name f.Absent) = Absent name
stop_from (p.File name f.TooLong) = TooLong name
stop_from (p.File name f.Failed) = ReadFault name
stop_from (p.File name f.NoMemory) = NoMemory
stop_from p.NoMemory = NoMemory

-- ---- units

-- a unit's program, where it is of the form that is served
abbrev pub of_sum : List (List ℕ) → Option Sum → Outcome
of_sum tried (Some program) = Ok (record { program = program; tried = tried })
of_sum tried None = refused NotYet tried

-- of a unit that has a tree: whether its tokens are of the form that is served
abbrev pub of_tree : List (List ℕ) → List PpTok → Result UnitTree CompileStop → Outcome
of_tree tried toks (Ok tree) = of_sum tried (unit_of (spellings toks))
of_tree tried toks (Err stop) = refused stop tried

abbrev pub of_unit : UnitOutcome State → Outcome
of_unit (Ok unit) = of_tree unit.tried unit.toks (tree_of unit.names unit.toks)
of_unit (Err stopped) = refused (stop_from stopped.stop) stopped.tried

abbrev pub of_name : Held → Job → Option (List ℕ) → Outcome
of_name held job (Some unit) = of_unit (preprocessed held job.dirs job.defs unit)
of_name held job None = refused NotYet []

-- the first thing that refuses, in the order in which files are read, or the program
abbrev pub accepted : Held → Job → Outcome
accepted held job = of_name held job (single_unit job)

abbrev pub tried_by : Outcome → List (List ℕ)
tried_by (Ok accepted) = accepted.tried
tried_by (Err refused) = refused.tried

abbrev pub stop_of : Outcome → Option CompileStop
stop_of (Ok accepted) = None
stop_of (Err refused) = Some refused.stop
