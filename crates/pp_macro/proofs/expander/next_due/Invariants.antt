use Rattle.std.proofs.Common.{◌≡◌, ℕ, length, List}
use Rattle.qv_base.specs.declared.place.Place.{Place}
use Rattle.pp_tok.specs.declared.token.PpTok.{PpTok}
use Rattle.pp_macro.specs.declared.pending.Pending.{Pending}
use Rattle.pp_macro.specs.Calls.{Outcome}
use Rattle.pp_macro.specs.Expand.{pass, with_front}
use Rattle.pp_macro.proofs.expander.next_due.Given as goal

abbrev pub invariant-loop-token : goal.invariant-loop-token
invariant-loop-token l = (inner : Place → ℕ → List PpTok → Outcome) (again : ℕ → List Pending → Outcome) (count : ℕ) → with_front l.fn.out (pass l.table l.names inner again count l.fn.unread) ≡ with_front l.out (pass l.table l.names inner again count l.unread)

abbrev pub decreases-loop-token : goal.decreases-loop-token
decreases-loop-token l = length l.unread
