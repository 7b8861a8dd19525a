-- What a host is asked and what it replies.
use Rattle.std.specs.Prelude.{◌≡◌, ℕ, ◌-◌, List, [], ◌∷◌, take, drop, replicate, count_by, Contains, length, slice_index, Option, Result, Ok, Err, ◌⊎◌}
use Rattle.std.specs.Ordering.{nat_cmp}
use Rattle.std.specs.List.{filter}
use Rattle.std.specs.FinMap as map
use Rattle.qv_outside.specs.Told.{Appends}
use Rattle.qv_outside.specs.Event.{Event, Reply}
use Rattle.qv_outside.specs.Signature.{is_int, is_input}
use Rattle.qv_outside.specs.declared.signature.Kind.{Kind}
use Rattle.qv_outside.specs.declared.signature.Kind.TheVariants.{Int, Text, InBytes, OutBytes}
use Rattle.qv_outside.specs.declared.signature.Sig.{Sig}
use Rattle.qv_outside.specs.declared.host.TrapCall.{TrapCall}
use Rattle.qv_outside.specs.declared.host.TrapReply.{TrapReply}
use Rattle.qv_outside.specs.declared.host.HostFailed.{HostFailed}

-- the traps that a host answers, by their numbers. Each signature is well formed, as its type keeps
abbrev pub Table : Type 0
Table = map.FinMap nat_cmp Sig

abbrev pub sig_of : Table → ℕ → Option Sig
sig_of table number = map.get table number

-- the first entry of a number counts
abbrev pub table_in : List (ℕ × Sig) → Table
table_in sigs = map.from_entries sigs

-- the kinds of the arguments
abbrev pub kinds_of : Sig → List Kind
kinds_of s = take s.count s.kinds

-- a call as an event
abbrev pub event_of : TrapCall → Event
event_of c = record { number = c.number; ints = take c.int_count c.ints; inputs = take c.input_count (c.first.now ∷ c.second.now ∷ []); out_len = c.out_len }

-- the word of the Int argument at a place among all arguments
abbrev pub int_at_place : List Kind → List ℕ → ℕ → ℕ
int_at_place kinds ints place = slice_index ints (count_by is_int (take place kinds))

-- the bytes are an argument of this kind: a Text has no NUL, an InBytes is as long as its length
-- argument says
abbrev pub IsInput : List Kind → List ℕ → Kind → List ℕ → Type 0
IsInput kinds ints Int bytes = ⊥
IsInput kinds ints Text bytes = ¬ Contains bytes 0
IsInput kinds ints (InBytes place) bytes = length bytes ≡ int_at_place kinds ints place
IsInput kinds ints (OutBytes place) bytes = ⊥

-- the texts are the arguments of these kinds, in order, and those that are absent are empty
abbrev pub AreInputs : List Kind → List ℕ → List Kind → List (List ℕ) → Type 0
AreInputs kinds ints [] [] = Unit {0}
AreInputs kinds ints [] (bytes ∷ rest) = (bytes ≡ []) × AreInputs kinds ints [] rest
AreInputs kinds ints (kind ∷ wanted) [] = ⊥
AreInputs kinds ints (kind ∷ wanted) (bytes ∷ rest) = IsInput kinds ints kind bytes × AreInputs kinds ints wanted rest

-- the length that the OutBytes argument among these asks for, or 0
abbrev pub asked_len : List Kind → List ℕ → List Kind → ℕ
asked_len kinds ints [] = 0
asked_len kinds ints (Int ∷ rest) = asked_len kinds ints rest
asked_len kinds ints (Text ∷ rest) = asked_len kinds ints rest
asked_len kinds ints (InBytes place ∷ rest) = asked_len kinds ints rest
asked_len kinds ints (OutBytes place ∷ rest) = int_at_place kinds ints place

-- the call has the shape of the signature
pub record HasShape (c : TrapCall) (s : Sig) : Type 0 where
  pub int_count : c.int_count ≡ count_by is_int (kinds_of s)
  pub padding : drop c.int_count c.ints ≡ replicate (14 - c.int_count) 0
  pub input_count : c.input_count ≡ count_by is_input (kinds_of s)
  pub inputs : AreInputs (kinds_of s) c.ints (filter is_input (kinds_of s)) (c.first.now ∷ c.second.now ∷ [])
  pub out_len : c.out_len ≡ asked_len (kinds_of s) c.ints (kinds_of s)

-- what a call adds to the calls asked: itself, and perhaps nothing where it failed
abbrev pub AskedFor : Option (List Event) → Option (List Event) → Event → Result TrapReply HostFailed → Type 0
AskedFor old new e (Ok reply) = Appends old new (e ∷ [])
AskedFor old new e (Err _) = (new ≡ old) ⊎ Appends old new (e ∷ [])

-- a reply with the bytes that were given
abbrev pub reply_of : TrapReply → List ℕ → Reply
reply_of r out = record { word = r.word; bytes = take r.used out }

-- what a call adds to the replies: its own, and nothing where it failed
abbrev pub Replied : Option (List Reply) → Option (List Reply) → List ℕ → Result TrapReply HostFailed → Type 0
Replied old new out (Ok reply) = Appends old new (reply_of reply out ∷ [])
Replied old new out (Err _) = new ≡ old
