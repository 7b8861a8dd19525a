use Rattle.std.proofs.Common.{List, ℕ, sym, subst}
use Rattle.qv_words.specs.Calls.{AreCalls}
use Rattle.qv_words.proofs.Counting.{calls_are}
use Rattle.qv_words.proofs.finish.all_calls.Goals as goal

pub returns-clause-calls : goal.returns-clause-calls
returns-clause-calls c =
    let P : List (List ℕ) → Type 0 = λ all. AreCalls all in
    subst P (sym c.in_ok-push.ensures.items) (calls_are c.args.calls.earlier.items c.args.calls.last c.args.calls.at_most c.args.calls.are_calls c.args.calls.is_last)
