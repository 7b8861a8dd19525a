-- What a handler of a trap is given, and what it owes.
use Rattle.std.specs.Prelude.{◌≡◌, ℕ, ◌<◌, ◌≤◌, ◌^◌, List, length}
use denote.Ref.{Bor, MutBor}
use Rattle.qv_outside.specs.Hosts.{HasShape}
use Rattle.qv_outside.specs.declared.signature.Sig.{Sig}
use Rattle.qv_outside.specs.declared.host.TrapCall.{TrapCall}
use Rattle.qv_outside.specs.declared.host.TrapReply.{TrapReply}

-- where a handler may be called, by its arguments
abbrev pub Pre : Type 1
Pre = Bor (List ℕ) → Bor (List ℕ) → Bor (List ℕ) → MutBor (List ℕ) → Type 0

-- what it may reply there, and how it may leave the room that it was lent
abbrev pub Post : Type 1
Post = Bor (List ℕ) → Bor (List ℕ) → Bor (List ℕ) → MutBor (List ℕ) → TrapReply → MutBor (List ℕ) → Type 0

-- what a call gives a handler: its words, its texts and room for what it asks
pub record Gives (call : TrapCall) (ints first second room : List ℕ) : Type 0 where
  pub count : length ints ≡ 14
  pub ints_are : ints ≡ call.ints
  pub first_is : first ≡ call.first.now
  pub second_is : second ≡ call.second.now
  pub room_is : length room ≡ call.out_len
  pub room_fits : length room < 2 ^ 32

-- these are the arguments of a call of this signature
pub record AreArguments (sig : Sig) (ints first second room : List ℕ) : Type 0 where
  pub call : TrapCall
  pub shape : HasShape call sig
  pub gives : Gives call ints first second room

-- the handler may be called on every call of this signature
abbrev pub TakesCalls : Sig → Pre → Type 0
TakesCalls sig pre = (ints first second : Bor (List ℕ)) (room : MutBor (List ℕ)) → AreArguments sig ints.now first.now second.now room.now → pre ints first second room

-- it then gives no more bytes than the call asks for
abbrev pub KeepsWithin : Sig → Post → Type 0
KeepsWithin sig post = (ints first second : Bor (List ℕ)) (room : MutBor (List ℕ)) (reply : TrapReply) (left : MutBor (List ℕ)) → AreArguments sig ints.now first.now second.now room.now → post ints first second room reply left → reply.used ≤ length room.now

-- the handler may reply this to the call, and leave these bytes in the room that it was lent
pub record Replies (post : Post) (call : TrapCall) (room : List ℕ) (reply : TrapReply) (left : List ℕ) : Type 0 where
  pub ints : Bor (List ℕ)
  pub first : Bor (List ℕ)
  pub second : Bor (List ℕ)
  pub lent : MutBor (List ℕ)
  pub back : MutBor (List ℕ)
  pub gives : Gives call ints.now first.now second.now lent.now
  pub lent_is : lent.now ≡ room
  pub replies : post ints first second lent reply back
  pub left_is : back.now ≡ left
