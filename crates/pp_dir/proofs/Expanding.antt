-- What isn't expanded is wrong.
use Rattle.std.proofs.Common.{◌≡◌, ◌≢◌, List, Result, Err, ap, subst, sym}
use Rattle.std.specs.Prelude.{ℕ}
use Rattle.pp_tok.specs.declared.token.PpTok.{PpTok}
use Rattle.pp_macro.specs.declared.fault.ExpandFault.{ExpandFault}
use Rattle.pp_macro.specs.declared.fault.ExpandFault.TheVariants as e
use Rattle.pp_dir.specs.declared.fault.LineStop.{LineStop}
use Rattle.pp_dir.specs.declared.fault.LineStop.TheVariants.{Wrong}
use Rattle.pp_dir.specs.declared.state.State.{State}
use Rattle.pp_dir.specs.Sections.{with_count, wrong_of}
use Rattle.pp_dir.specs.Answers.{IsWrong, Unexpanded}

other : (s : State) (r : Result (List PpTok × ℕ) ExpandFault) (f : ExpandFault) (stop : LineStop) → r ≡ Err f → stop ≡ Wrong (wrong_of f) → IsWrong (with_count s r) stop
other s r f stop fails is = subst (λ (x : LineStop). IsWrong (with_count s r) x) (sym is) (ap (with_count s) fails)

pub not_expanded : (s : State) (r : Result (List PpTok × ℕ) ExpandFault) (f : ExpandFault) (stop : LineStop) → (f ≢ e.NoMemory → r ≡ Err f) → Unexpanded f stop → IsWrong (with_count s r) stop
not_expanded s r (e.ArgCount at) stop fails is = other s r (e.ArgCount at) stop (fails (λ same. absurd cc)) is
not_expanded s r (e.OpenCall at) stop fails is = other s r (e.OpenCall at) stop (fails (λ same. absurd cc)) is
not_expanded s r (e.BadPaste at) stop fails is = other s r (e.BadPaste at) stop (fails (λ same. absurd cc)) is
not_expanded s r (e.MacroLimit at) stop fails is = other s r (e.MacroLimit at) stop (fails (λ same. absurd cc)) is
not_expanded s r e.NoMemory stop fails is = subst (λ (x : LineStop). IsWrong (with_count s r) x) (sym is) tt
