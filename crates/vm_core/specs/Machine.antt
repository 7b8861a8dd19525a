-- The machine: its step, and a run of steps over a list of replies.
use Rattle.std.specs.Prelude.{ℕ, zero, suc, ◌+◌, ◌-◌, ◌/◌, ◌%◌, ◌^◌, Bool, not, ◌&&◌, List, [], ◌∷◌, ◌++◌, length, replicate, Option, Some, None, slice_get, nat_lt, nat_le, ◌==◌, if◌then◌else◌, bit_and, bit_or, bit_xor}
use Rattle.qv_base.specs.declared.limits.TheConstants.{STACK_BYTES}
use Rattle.qv_base.specs.Word.{plus, minus, times, negated, shifted_left, shifted_right, shifted_signed, is_less_signed, quotient_signed, remainder_signed, sign_extended_8, sign_extended_16}
use Rattle.masked_mem.specs.Memory.{load1, load2, load4, store1, store2, store4, copied_at}
use Rattle.qv_ops.specs.declared.instr.Instr.{Instr}
use Rattle.qv_ops.specs.declared.op.Op.{Op}
use Rattle.qv_ops.specs.declared.op.Op.TheVariants.{Ignore, Break, Enter, Leave, Call, Push, Pop, Const, Local, Jump, Eq, Ne, Lti, Lei, Gti, Gei, Ltu, Leu, Gtu, Geu, Load1, Load2, Load4, Store1, Store2, Store4, Arg, BlockCopy, Sex8, Sex16, Negi, Add, Sub, Divi, Divu, Modi, Modu, Muli, Mulu, Band, Bor, Bxor, Bcom, Lsh, Rshi, Rshu}
use Rattle.qv_image.specs.Image.{Qvm}
use Rattle.qv_outside.specs.Event.{Event, Reply}
use Rattle.qv_outside.specs.Hosts.{Table}
use Rattle.vm_core.specs.Memory.{block_size, with_frame}
pub use Rattle.vm_core.specs.State.{State, Step, Goes, Stops, Puts, Raises, Calls, with_operands, gone_to, with_memory}
use Rattle.vm_core.specs.Traps.{trapped}
use Rattle.vm_core.specs.declared.stop.Stop.{Stop}
use Rattle.vm_core.specs.declared.stop.Stop.TheVariants.{Returned, OperandOver, OperandUnder, StackOver, StackUnder, JumpOut, FellOff, DivideZero, DivideOver, CopyRange, ModuleError}

-- a push of a word onto those below
abbrev pub pushed : State → List ℕ → ℕ → Step
pushed s below w = if nat_lt (length below) 256 then Goes (with_operands s (w ∷ below)) else Stops OperandOver s

-- the top word is dropped
abbrev pub popped : State → List ℕ → Step
popped s [] = Stops OperandUnder s
popped s (t ∷ rest) = Goes (with_operands s rest)

-- the top word t becomes f t
abbrev pub on_top : State → List ℕ → (ℕ → ℕ) → Step
on_top s [] f = Stops OperandUnder s
on_top s (t ∷ rest) f = Goes (with_operands s (f t ∷ rest))

-- the top word t and u below it become f u t
abbrev pub on_two : State → List ℕ → (ℕ → ℕ → ℕ) → Step
on_two s [] f = Stops OperandUnder s
on_two s (t ∷ []) f = Stops OperandUnder s
on_two s (t ∷ u ∷ rest) f = Goes (with_operands s (f u t ∷ rest))

-- the same for a quotient or a remainder, which has no divisor 0
abbrev pub divided : State → List ℕ → (ℕ → ℕ → ℕ) → Step
divided s [] f = Stops OperandUnder s
divided s (t ∷ []) f = Stops OperandUnder s
divided s (t ∷ u ∷ rest) f = if t == 0 then Stops DivideZero s else Goes (with_operands s (f u t ∷ rest))

-- and for a signed one, where the least number isn't divided by -1
abbrev pub divided_signed : State → List ℕ → (ℕ → ℕ → ℕ) → Step
divided_signed s [] f = Stops OperandUnder s
divided_signed s (t ∷ []) f = Stops OperandUnder s
divided_signed s (t ∷ u ∷ rest) f = if t == 0 then Stops DivideZero s
    else (if (u == 2 ^ 31) && (t == 2 ^ 32 - 1) then Stops DivideOver s else Goes (with_operands s (f u t ∷ rest)))

-- the top word t and u below it are taken; on to the instruction at v where f u t
abbrev pub branched : ℕ → State → List ℕ → (ℕ → ℕ → Bool) → Step
branched v s [] f = Stops OperandUnder s
branched v s (t ∷ []) f = Stops OperandUnder s
branched v s (t ∷ u ∷ rest) f = if f u t then gone_to s rest v else gone_to s rest (s.next + 1)

-- the top word t and u below it are taken, and the memory becomes f u t
abbrev pub stored : State → List ℕ → (ℕ → ℕ → List ℕ) → Step
stored s [] f = Stops OperandUnder s
stored s (t ∷ []) f = Stops OperandUnder s
stored s (t ∷ u ∷ rest) f = Goes (with_operands (with_memory s (f u t)) rest)

-- ARG stores the top word at v from the program stack's place
abbrev pub argued : ℕ → State → List ℕ → Step
argued v s [] = Stops OperandUnder s
argued v s (t ∷ rest) = Goes (with_operands (with_memory s (store4 s.memory (plus s.program_stack v) t)) rest)

-- whether BLOCK_COPY may copy len bytes: whole words, within the block
abbrev pub may_copy : ℕ → ℕ → ℕ → ℕ → Bool
may_copy size to from len = (to % 4 == 0) && (from % 4 == 0) && (len % 4 == 0) && nat_le (to + len) size && nat_le (from + len) size

-- BLOCK_COPY copies v bytes from the top word to the word below
abbrev pub copied : ℕ → State → List ℕ → Step
copied v s [] = Stops OperandUnder s
copied v s (t ∷ []) = Stops OperandUnder s
copied v s (t ∷ u ∷ rest) = if may_copy (length s.memory) u t v then Goes (with_operands (with_memory s (copied_at s.memory u t v)) rest) else Stops CopyRange s

-- the bottom of the program stack, which has 65,536 bytes where the block has as many
abbrev pub bottom : State → ℕ
bottom s = length s.memory - STACK_BYTES

-- the end of a run: the top word is returned
abbrev pub returned : State → List ℕ → Step
returned s [] = Stops OperandUnder s
returned s (t ∷ rest) = Stops (Returned t) s

-- ENTER takes a frame of v bytes
abbrev pub entered : ℕ → State → Step
entered v s = if nat_lt s.program_stack (bottom s + v) then Stops StackOver s
    else Goes (record { memory = s.memory; program_stack = s.program_stack - v; operands = s.operands; next = s.next + 1 })

-- back to the return place r: -1 ends the run
abbrev pub gone_back : ℕ → ℕ → ℕ → State → Step
gone_back count v r s = if r == (2 ^ 32 - 1) then returned s s.operands
    else (if nat_lt r count then Goes (record { memory = s.memory; program_stack = s.program_stack + v; operands = s.operands; next = r }) else Stops (JumpOut r) s)

-- LEAVE gives a frame of v bytes back, and goes to the place that stands above it
abbrev pub left : ℕ → ℕ → State → Step
left count v s = if nat_lt (length s.memory - 64) (s.program_stack + v) then Stops StackUnder s
    else gone_back count v (load4 s.memory (s.program_stack + v)) s

-- JUMP goes to the instruction whose number is the top word
abbrev pub jumped : ℕ → State → List ℕ → Step
jumped count s [] = Stops OperandUnder s
jumped count s (t ∷ rest) = if nat_lt t count then gone_to s rest t else Stops (JumpOut t) s

-- CALL of t, once the word is taken and the next instruction's number stored: a t that is negative is
-- trap -1 - t, whose number is stored behind
abbrev pub called_at : Table → ℕ → ℕ → State → Step
called_at table count t s = if nat_lt t (2 ^ 31) then (if nat_lt t count then gone_to s s.operands t else Stops (JumpOut t) s)
    else trapped table (2 ^ 32 - 1 - t) (with_memory s (store4 s.memory (plus s.program_stack 4) (2 ^ 32 - 1 - t)))

abbrev pub called : Table → ℕ → State → List ℕ → Step
called table count s [] = Stops OperandUnder s
called table count s (t ∷ rest) =
    called_at table count t (record { memory = store4 s.memory s.program_stack (s.next + 1); program_stack = s.program_stack; operands = rest; next = s.next + 1 })

-- one instruction, of an opcode and its operand v, among count
abbrev pub act : Table → ℕ → Op → ℕ → State → Step
act table count Ignore v s = Goes (with_operands s s.operands)
act table count Break v s = Goes (with_operands s s.operands)
act table count Enter v s = entered v s
act table count Leave v s = left count v s
act table count Call v s = called table count s s.operands
act table count Push v s = pushed s s.operands 0
act table count Pop v s = popped s s.operands
act table count Const v s = pushed s s.operands v
act table count Local v s = pushed s s.operands (plus s.program_stack v)
act table count Jump v s = jumped count s s.operands
act table count Eq v s = branched v s s.operands (λ a b. a == b)
act table count Ne v s = branched v s s.operands (λ a b. not (a == b))
act table count Lti v s = branched v s s.operands is_less_signed
act table count Lei v s = branched v s s.operands (λ a b. not (is_less_signed b a))
act table count Gti v s = branched v s s.operands (λ a b. is_less_signed b a)
act table count Gei v s = branched v s s.operands (λ a b. not (is_less_signed a b))
act table count Ltu v s = branched v s s.operands nat_lt
act table count Leu v s = branched v s s.operands nat_le
act table count Gtu v s = branched v s s.operands (λ a b. nat_lt b a)
act table count Geu v s = branched v s s.operands (λ a b. nat_le b a)
act table count Load1 v s = on_top s s.operands (load1 s.memory)
act table count Load2 v s = on_top s s.operands (load2 s.memory)
act table count Load4 v s = on_top s s.operands (load4 s.memory)
act table count Store1 v s = stored s s.operands (store1 s.memory)
act table count Store2 v s = stored s s.operands (store2 s.memory)
act table count Store4 v s = stored s s.operands (store4 s.memory)
act table count Arg v s = argued v s s.operands
act table count BlockCopy v s = copied v s s.operands
act table count Sex8 v s = on_top s s.operands sign_extended_8
act table count Sex16 v s = on_top s s.operands sign_extended_16
act table count Negi v s = on_top s s.operands negated
act table count Add v s = on_two s s.operands plus
act table count Sub v s = on_two s s.operands minus
act table count Divi v s = divided_signed s s.operands quotient_signed
act table count Divu v s = divided s s.operands (λ a b. a / b)
act table count Modi v s = divided_signed s s.operands remainder_signed
act table count Modu v s = divided s s.operands (λ a b. a % b)
act table count Muli v s = on_two s s.operands times
act table count Mulu v s = on_two s s.operands times
act table count Band v s = on_two s s.operands bit_and
act table count Bor v s = on_two s s.operands bit_or
act table count Bxor v s = on_two s s.operands bit_xor
act table count Bcom v s = on_top s s.operands (λ a. 2 ^ 32 - 1 - a)
act table count Lsh v s = on_two s s.operands shifted_left
act table count Rshi v s = on_two s s.operands shifted_signed
act table count Rshu v s = on_two s s.operands shifted_right

-- the next instruction, or the end of the code
abbrev pub act_at : Table → ℕ → Option Instr → State → Step
act_at table count None s = Stops FellOff s
act_at table count (Some i) s = act table count i.op i.operand s

-- the machine's step, over a host that answers the traps of this table
abbrev pub step : List Instr → Table → State → Step
step code table s = act_at table (length code) (slice_get code s.next) s

-- a run goes on, has stopped, or asks and finds no reply left
pub data Ending : Type 0 where
  Going : Ending
  Stopped : Stop → Ending
  Asks : Ending

-- where a run has come to: how, with which events, in which state, and the replies that are left
pub record End : Type 0 where
  pub ending : Ending
  pub events : List Event
  pub state : State
  pub left : List Reply

-- with an event before the others
abbrev pub with_event : Event → End → End
with_event e end = record { ending = end.ending; events = e ∷ end.events; state = end.state; left = end.left }

-- a step over these replies, and how the run goes on
abbrev pub after : Step → List Reply → (State → List Reply → End) → End
after (Goes s) replies go = go s replies
after (Stops stop s) replies go = record { ending = Stopped stop; events = []; state = s; left = replies }
after (Puts e s) replies go = with_event e (go s replies)
after (Raises e s) replies go = record { ending = Stopped ModuleError; events = e ∷ []; state = s; left = replies }
after (Calls e s answered) [] go = record { ending = Asks; events = e ∷ []; state = s; left = [] }
after (Calls e s answered) (r ∷ replies) go = with_event e (go (answered r) replies)

-- at most n steps of any machine f
unfoldable pub runs : (State → Step) → ℕ → State → List Reply → End
runs f zero s replies = record { ending = Going; events = []; state = s; left = replies }
runs f (suc n) s replies = after (f s) replies (λ t left. runs f n t left)

-- a fresh block: data and literals at its start, zero bytes behind
abbrev pub fresh_memory : Qvm → List ℕ
fresh_memory z = (z.data_part ++ z.lit) ++ replicate (block_size (length z.data_part + length z.lit + z.bss) - length (z.data_part ++ z.lit)) 0

-- ready at the first instruction, with the words of a call
abbrev pub started : List ℕ → List ℕ → State
started memory args = record { memory = with_frame memory args; program_stack = length memory - 64; operands = []; next = 0 }
