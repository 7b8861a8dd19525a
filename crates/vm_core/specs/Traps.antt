-- Trap calls: the console's, those of the machine itself, and those that the host answers.
use Rattle.std.specs.Prelude.{ℕ, ◌+◌, ◌-◌, ◌%◌, List, ◌∷◌, ◌++◌, length, take, replicate, Option, Some, None, Result, Ok, Err, nat_le, ◌==◌, if◌then◌else◌}
use Rattle.qv_base.specs.Word.{plus}
use Rattle.masked_mem.specs.Memory.{put_at, filled_at, copied_at}
use Rattle.qv_outside.specs.Event.{Event, text_event}
use Rattle.qv_outside.specs.Hosts.{Table, sig_of, kinds_of}
use Rattle.qv_outside.specs.declared.signature.Sig.{Sig}
use Rattle.trap_sig.specs.Gather.{Ask, argument, asked_by, text_at, text_within}
use Rattle.vm_core.specs.State.{State, Step, Goes, Stops, Puts, Raises, Calls}
use Rattle.vm_core.specs.declared.stop.Stop.TheVariants.{UnknownTrap, TrapRange}

-- the arguments of a call stand behind the return place and the trap's number
abbrev pub arguments_at : State → ℕ
arguments_at s = plus s.program_stack 8

abbrev pub argument_of : State → ℕ → ℕ
argument_of s place = argument s.memory (arguments_at s) place

-- the reply is pushed, over this memory. The following instruction is next already
abbrev pub replied : State → List ℕ → ℕ → State
replied s memory word = record { memory = memory; program_stack = s.program_stack; operands = word ∷ s.operands; next = s.next }

-- what a trap of the console does with the text of its argument, which may leave the block
abbrev pub with_text : ℕ → State → (Event → Step) → Option (List ℕ) → Step
with_text k s go None = Stops (TrapRange k 0) s
with_text k s go (Some text) = go (text_event k text)

-- trap 0 prints a text
abbrev pub printed : State → Step
printed s = with_text 0 s (λ e. Puts e (replied s s.memory 0)) (text_at s.memory (argument_of s 0))

-- trap 1 prints a text as a line, and stops the module
abbrev pub raised : State → Step
raised s = with_text 1 s (λ e. Raises e s) (text_at s.memory (argument_of s 0))

-- trap 100 (memset) fills len bytes with the low byte of v
abbrev pub filled : State → ℕ → ℕ → ℕ → Step
filled s to v len = if nat_le (to + len) (length s.memory) then Goes (replied s (filled_at s.memory to len (v % 256)) to) else Stops (TrapRange 100 0) s

-- trap 101 (memcpy) copies len bytes, all of them read first
abbrev pub moved : State → ℕ → ℕ → ℕ → Step
moved s to from len = if nat_le (to + len) (length s.memory)
    then (if nat_le (from + len) (length s.memory) then Goes (replied s (copied_at s.memory to from len) to) else Stops (TrapRange 101 1) s)
    else Stops (TrapRange 101 0) s

-- a text with zero bytes behind it, len bytes in all
abbrev pub padded : List ℕ → ℕ → List ℕ
padded text len = text ++ replicate (len - length text) 0

abbrev pub text_put : State → ℕ → ℕ → Option (List ℕ) → Step
text_put s to len None = Stops (TrapRange 102 1) s
text_put s to len (Some text) = Goes (replied s (put_at s.memory to (padded text len)) to)

-- trap 102 (strncpy) copies a text of at most len bytes, read first, and fills the rest of len bytes with zeros
abbrev pub text_moved : State → ℕ → ℕ → ℕ → Step
text_moved s to from len = if nat_le (to + len) (length s.memory) then text_put s to len (text_within s.memory from len) else Stops (TrapRange 102 0) s

-- a call of the host, whose reply puts the bytes where they were asked for
abbrev pub asks_for : ℕ → State → Result Ask ℕ → Step
asks_for k s (Err place) = Stops (TrapRange k place) s
asks_for k s (Ok ask) = Calls ask.event s (λ r. replied s (put_at s.memory ask.out_at (take ask.event.out_len r.bytes)) r.word)

-- the host answers the traps of its table
abbrev pub asked : ℕ → State → Option Sig → Step
asked k s None = Stops (UnknownTrap k) s
asked k s (Some sig) = asks_for k s (asked_by s.memory (kinds_of sig) k (arguments_at s))

-- trap k, in the state in which the call's word is taken, and the return place and the trap's number are stored
unfoldable pub trapped : Table → ℕ → State → Step
trapped table k s = if k == 0 then printed s
    else (if k == 1 then raised s
    else (if k == 100 then filled s (argument_of s 0) (argument_of s 1) (argument_of s 2)
    else (if k == 101 then moved s (argument_of s 0) (argument_of s 1) (argument_of s 2)
    else (if k == 102 then text_moved s (argument_of s 0) (argument_of s 1) (argument_of s 2)
    else asked k s (sig_of table k)))))
