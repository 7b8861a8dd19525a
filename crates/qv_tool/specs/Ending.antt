-- How the calls of an image are told.
use Rattle.std.specs.Prelude.{◌≡◌, ℕ, List, [], ◌∷◌, ◌++◌, codes}
use Rattle.std.specs.Fmt.{decimal, signed_decimal}
use Rattle.std.specs.Int.{cast_signed, w32}
use Rattle.vm_core.specs.declared.stop.Stop.{Stop}
use Rattle.vm_core.specs.declared.stop.Stop.TheVariants.{Returned, Budget as StepsUsed, ModuleError, OperandOver, OperandUnder, StackOver, StackUnder, JumpOut, FellOff, DivideZero, DivideOver, CopyRange, UnknownTrap, TrapRange, HostFault as HostFailed, OutFault}
use Rattle.qv_tool.specs.declared.status.Status.{Status}
use Rattle.qv_tool.specs.declared.status.Status.TheVariants.{Done, Stopped, Budget, HostFault, WriteFault}

-- a text as a line
abbrev pub line : List ℕ → List ℕ
line text = text ++ 10 ∷ []

-- the stop of the last call that was made. A word that was returned is signed
abbrev pub stop_text : Stop → List ℕ
stop_text (Returned word) = codes "returned " ++ signed_decimal (cast_signed w32 word)
stop_text StepsUsed = codes "budget used"
stop_text ModuleError = codes "stopped: module error"
stop_text OperandOver = codes "stopped: operand stack over"
stop_text OperandUnder = codes "stopped: operand stack under"
stop_text StackOver = codes "stopped: program stack over"
stop_text StackUnder = codes "stopped: program stack under"
stop_text (JumpOut n) = codes "stopped: jump out " ++ decimal n
stop_text FellOff = codes "stopped: fell off"
stop_text DivideZero = codes "stopped: divide zero"
stop_text DivideOver = codes "stopped: divide over"
stop_text CopyRange = codes "stopped: copy range"
stop_text (UnknownTrap k) = codes "stopped: unknown trap " ++ decimal k
stop_text (TrapRange k a) = codes "stopped: trap " ++ (decimal k ++ (codes " argument " ++ (decimal a ++ codes " outside")))
stop_text HostFailed = codes "host fault"
stop_text OutFault = codes "write fault: out"

abbrev pub stop_status : Stop → Status
stop_status (Returned word) = Done
stop_status StepsUsed = Budget
stop_status HostFailed = HostFault
stop_status OutFault = WriteFault
stop_status stop = Stopped

-- the status and the line tell this stop
pub record Tells (stop : Stop) (status : Status) (text : List ℕ) : Type 0 where
  pub status_is : status ≡ stop_status stop
  pub line_is : text ≡ line (stop_text stop)
