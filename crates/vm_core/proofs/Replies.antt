-- Replies that answer calls.
use Rattle.std.proofs.Common.{◌≡◌, List, [], ◌∷◌, refl, subst, arith}
use Rattle.std.specs.Prelude.{All}
use Rattle.std.proofs.lemmas.List.Elements.{All-cons}
use Rattle.qv_outside.specs.Event.{Event, Reply, IsReply, Answered, host_events}

-- each is a word with bytes
pub answers_are_replies : (es : List Event) (rs : List Reply) → Answered es rs → All IsReply rs
answers_are_replies es [] answered = λ k d lt. absurd (omega (arith, lt))
answers_are_replies [] (r ∷ rs) answered = absurd answered
answers_are_replies (e ∷ es) (r ∷ rs) (first, later) = All-cons IsReply r rs first.is_reply (answers_are_replies es rs later)

-- where nothing is asked there is none
pub no_replies : (es : List Event) (rs : List Reply) → es ≡ [] → Answered (host_events es) rs → rs ≡ []
no_replies es [] none answered = refl
no_replies es (r ∷ rs) none answered = let P : List Event → Type 0 = λ x. Answered (host_events x) (r ∷ rs) in absurd (subst P none answered)
