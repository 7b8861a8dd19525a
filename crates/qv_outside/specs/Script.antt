-- Replies in the order of a list: those that were given, and those that are left.
use Rattle.std.specs.Prelude.{◌≡◌, ℕ, List, [], ◌∷◌, take, drop, length, map}
use Rattle.std.specs.List.{zip}
use Rattle.std.specs.Global.{Vec}
use Rattle.qv_outside.specs.Event.{Reply}
use Rattle.qv_outside.specs.declared.script.Script.{Script}

abbrev pub replies_in : List (ℕ × Vec ℕ) → List Reply
replies_in replies = map (λ r. record { word = r.0; bytes = r.1.items }) replies

-- a reply with at most so many of its bytes
abbrev pub cut : Reply → ℕ → Reply
cut r len = record { word = r.word; bytes = take len r.bytes }

abbrev pub given_in : Script → List Reply
given_in s = map (λ r. cut r.0 r.1) (zip (replies_in s.replies.items) s.given.items)

abbrev pub left_in : Script → List Reply
left_in s = drop (length s.given.items) (replies_in s.replies.items)

-- of the replies left the first is given, cut to a length
abbrev pub GivesNext : List Reply → List Reply → ℕ → Reply → Type 0
GivesNext [] new len reply = ⊥
GivesNext (next ∷ rest) new len reply = (reply ≡ cut next len) × (new ≡ rest)
