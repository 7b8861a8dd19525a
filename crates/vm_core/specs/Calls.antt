-- Several calls of one module over one memory.
use Rattle.std.specs.Prelude.{ℕ, List, [], ◌∷◌, ◌++◌}
use Rattle.qv_image.specs.Image.{Qvm}
use Rattle.qv_outside.specs.Event.{Event, Reply}
use Rattle.qv_outside.specs.Hosts.{Table}
use Rattle.vm_core.specs.Machine.{State, Step, Ending, Stopped, End, runs, started, step, fresh_memory}
use Rattle.vm_core.specs.declared.stop.Stop.TheVariants.{Returned}

-- every call has returned, or one has ended otherwise
pub data CallsOutcome : Type 0 where
  AllReturned : CallsOutcome
  Ended : Ending → CallsOutcome

-- where the calls have come to, the words that they returned, and the rest as at the end of one run
pub record CallsEnd : Type 0 where
  pub outcome : CallsOutcome
  pub words : List ℕ
  pub events : List Event
  pub memory : List ℕ
  pub left : List Reply

-- with words and events before the others
abbrev pub with_calls : List ℕ → List Event → CallsEnd → CallsEnd
with_calls words es end = record { outcome = end.outcome; words = words ++ end.words; events = es ++ end.events; memory = end.memory; left = end.left }

abbrev pub left_over : CallsEnd → List Reply → CallsEnd
left_over end left = record { outcome = end.outcome; words = end.words; events = end.events; memory = end.memory; left = left }

-- a call that has ended so; after a return the later calls go on over its memory
abbrev pub on_end : Ending → List Event → State → List Reply → (List ℕ → List Reply → CallsEnd) → CallsEnd
on_end (Stopped (Returned w)) es s left go = with_calls (w ∷ []) es (go s.memory left)
on_end ending es s left go = record { outcome = Ended ending; words = []; events = es; memory = s.memory; left = left }

-- the calls in order, each of at most n steps
unfoldable pub calls_run : (State → Step) → ℕ → List (List ℕ) → List ℕ → List Reply → CallsEnd
calls_run f n [] memory replies = record { outcome = AllReturned; words = []; events = []; memory = memory; left = replies }
calls_run f n (args ∷ calls) memory replies =
    let end : End = runs f n (started memory args) replies in on_end end.ending end.events end.state end.left (λ m left. calls_run f n calls m left)

-- calls that have come to this, and what comes then
abbrev pub calls_then : CallsOutcome → List ℕ → List Event → List ℕ → List Reply → (List ℕ → List Reply → CallsEnd) → CallsEnd
calls_then AllReturned words es memory left go = with_calls words es (go memory left)
calls_then (Ended ending) words es memory left go = record { outcome = Ended ending; words = words; events = es; memory = memory; left = left }

-- the calls of an image, from its fresh block
abbrev pub image_run : Qvm → Table → List (List ℕ) → List Reply → ℕ → CallsEnd
image_run z table calls replies n = calls_run (step z.code table) n calls (fresh_memory z) replies
