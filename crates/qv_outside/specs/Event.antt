-- Trap calls and their replies as data, and what they show outside.
use Rattle.std.specs.Prelude.{ℕ, ◌≤◌, ◌<◌, ◌^◌, ◌==◌, Bool, nat_lt, List, [], ◌∷◌, ◌++◌, length, if◌then◌else◌, All}
use Rattle.std.specs.List.{filter, flat_map, sum_by}

-- a trap call: the trap's number, its Int arguments, the bytes of its Text and InBytes arguments, and
-- the length that its OutBytes argument asks for. No address is in it
pub record Event : Type 0 where
  pub number : ℕ
  pub ints : List ℕ
  pub inputs : List (List ℕ)
  pub out_len : ℕ

-- a reply: a word, and the bytes given
pub record Reply : Type 0 where
  pub word : ℕ
  pub bytes : List ℕ

-- the word fits 32 bits, and each byte is one
pub record IsReply (r : Reply) : Type 0 where
  pub word : r.word < 2 ^ 32
  pub bytes : All (λ b. b < 256) r.bytes

-- a reply that can answer this call: it gives no more bytes than are asked for
pub record Suits (e : Event) (r : Reply) : Type 0 where
  pub is_reply : IsReply r
  pub within : length r.bytes ≤ e.out_len

-- each call has its reply, in order
abbrev pub Answered : List Event → List Reply → Type 0
Answered [] [] = Unit {0}
Answered [] (r ∷ rs) = ⊥
Answered (e ∷ es) [] = ⊥
Answered (e ∷ es) (r ∷ rs) = Suits e r × Answered es rs

-- traps 0 (print) and 1 (error) are the console's; every other event asks the host
abbrev pub is_host : Event → Bool
is_host e = nat_lt 1 e.number

abbrev pub host_events : List Event → List Event
host_events es = filter is_host es

-- the bytes of the texts of these events
abbrev pub text_bytes : List Event → ℕ
text_bytes es = sum_by (λ e. sum_by length e.inputs) es

-- print or error with this text
abbrev pub text_event : ℕ → List ℕ → Event
text_event number text = record { number = number; ints = []; inputs = text ∷ []; out_len = 0 }

abbrev pub first_of : List (List ℕ) → List ℕ
first_of [] = []
first_of (text ∷ texts) = text

-- what an event adds to the output: the text of a print, and that of an error with a line feed behind it
abbrev pub text_of : Event → List ℕ
text_of e = if e.number == 0 then first_of e.inputs else (if e.number == 1 then first_of e.inputs ++ 10 ∷ [] else [])

abbrev pub output : List Event → List ℕ
output es = flat_map text_of es
