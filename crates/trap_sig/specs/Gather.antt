-- The arguments of a trap in the memory, the bytes that they reach, and what a call of them asks.
use Rattle.std.specs.Prelude.{ℕ, ◌<◌, ◌+◌, ◌*◌, ◌==◌, Bool, not, nat_le, List, [], length, map, drop, slice_index, if◌then◌else◌, Option, Some, None, Result, Ok, Err}
use Rattle.std.specs.List.{zip, filter, find, position, range_with_len}
use Rattle.std.specs.Option.{option_map, unwrap_or, is_some}
use Rattle.qv_base.specs.Word.{plus}
use Rattle.masked_mem.specs.Memory.{load4, bytes_at}
use Rattle.qv_outside.specs.Event.{Event}
use Rattle.qv_outside.specs.Signature.{is_int, is_input, is_output}
use Rattle.qv_outside.specs.declared.signature.Kind.{Kind}
use Rattle.qv_outside.specs.declared.signature.Kind.TheVariants.{Int, Text, InBytes, OutBytes}

-- the word of the argument at a place: arguments stand one behind the other from an address on
abbrev pub argument : List ℕ → ℕ → ℕ → ℕ
argument memory at place = load4 memory (plus at (4 * place))

-- the words of so many arguments
abbrev pub arguments : List ℕ → ℕ → ℕ → List ℕ
arguments memory at count = map (argument memory at) (range_with_len 0 count)

-- the bytes from a place on that stand before the first NUL, where one stands before the memory's end
abbrev pub text_at : List ℕ → ℕ → Option (List ℕ)
text_at memory at = option_map (bytes_at memory at) (position (λ b. b == 0) (drop at memory))

-- these len bytes from a place on, where they lie within the memory; nothing is masked
abbrev pub range_at : List ℕ → ℕ → ℕ → Option (List ℕ)
range_at memory at len = if nat_le (at + len) (length memory) then Some (bytes_at memory at len) else None

-- the bytes before the first NUL among these len bytes, or all of them where there is none; none where they leave the
-- memory
abbrev pub bounded : List ℕ → ℕ → ℕ → Option ℕ → Option (List ℕ)
bounded memory at len None = range_at memory at len
bounded memory at len (Some n) = Some (bytes_at memory at n)

abbrev pub text_within : List ℕ → ℕ → ℕ → Option (List ℕ)
text_within memory at len = bounded memory at len (position (λ b. b == 0) (bytes_at memory at len))

-- the place of the length, where the kind names one, is one of so many
abbrev pub IsPlaced : ℕ → Kind → Type 0
IsPlaced count Int = Unit {0}
IsPlaced count Text = Unit {0}
IsPlaced count (InBytes place) = place < count
IsPlaced count (OutBytes place) = place < count

-- the bytes that an argument of this kind and word reaches, among these words; none where they leave
-- the memory
abbrev pub reached : List ℕ → List ℕ → Kind → ℕ → Option (List ℕ)
reached memory words Int w = Some []
reached memory words Text w = text_at memory w
reached memory words (InBytes place) w = range_at memory w (slice_index words place)
reached memory words (OutBytes place) w = range_at memory w (slice_index words place)

-- an argument, its kind and its word, leaves the memory
abbrev pub leaves : List ℕ → List ℕ → Kind × ℕ → Bool
leaves memory words a = not (is_some (reached memory words a.0 a.1))

-- the place of the first argument whose range leaves the memory
abbrev pub leaving : List ℕ → List Kind → List ℕ → Option ℕ
leaving memory kinds words = position (leaves memory words) (zip kinds words)

-- the words of the Int arguments in order
abbrev pub ints_of : List (Kind × ℕ) → List ℕ
ints_of args = map (λ a. a.1) (filter (λ a. is_int a.0) args)

-- the bytes of the Text and InBytes arguments in order
abbrev pub inputs_of : List ℕ → List ℕ → List (Kind × ℕ) → List (List ℕ)
inputs_of memory words args = map (λ a. unwrap_or (reached memory words a.0 a.1) []) (filter (λ a. is_input a.0) args)

-- the OutBytes argument, if there is one
abbrev pub output_of : List (Kind × ℕ) → Option (Kind × ℕ)
output_of args = find (λ a. is_output a.0) args

-- the length that it asks for, or 0
abbrev pub length_asked : List ℕ → Option (Kind × ℕ) → ℕ
length_asked words None = 0
length_asked words (Some (Int, w)) = 0
length_asked words (Some (Text, w)) = 0
length_asked words (Some (InBytes place, w)) = 0
length_asked words (Some (OutBytes place, w)) = slice_index words place

-- the address of the room for it, or 0
abbrev pub room_asked : Option (Kind × ℕ) → ℕ
room_asked None = 0
room_asked (Some a) = a.1

-- what a call asks: its event, and where the bytes of its reply go (0 where it asks for none)
pub record Ask : Type 0 where
  pub event : Event
  pub out_at : ℕ

-- what these arguments ask
abbrev pub ask : List ℕ → ℕ → List ℕ → List (Kind × ℕ) → Ask
ask memory number words args = record {
  event = record { number = number; ints = ints_of args; inputs = inputs_of memory words args; out_len = length_asked words (output_of args) };
  out_at = room_asked (output_of args);
}

-- what they ask, where no argument leaves the memory; else the place of the first that does
abbrev pub asked_of : List ℕ → List Kind → ℕ → List ℕ → Option ℕ → Result Ask ℕ
asked_of memory kinds number words None = Ok (ask memory number words (zip kinds words))
asked_of memory kinds number words (Some place) = Err place

-- what a call of the trap of this number asks, whose arguments have these kinds and stand from an
-- address on, or the place of the first argument whose range leaves the memory
abbrev pub asked_by : List ℕ → List Kind → ℕ → ℕ → Result Ask ℕ
asked_by memory kinds number at = let words = arguments memory at (length kinds) in asked_of memory kinds number words (leaving memory kinds words)
