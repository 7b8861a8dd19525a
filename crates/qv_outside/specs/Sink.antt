-- What a put leaves in a sink.
use Rattle.std.specs.Prelude.{ℕ, List, Option, Result, Ok, Err}
use Rattle.qv_outside.specs.Told.{Appends, AppendsPrefix}
use Rattle.qv_outside.specs.declared.sink.SinkFailed.{SinkFailed}

-- a put adds its bytes; one that fails adds a prefix of them
abbrev pub Puts : Option (List ℕ) → Option (List ℕ) → List ℕ → Result Unit SinkFailed → Type 0
Puts old new bytes (Ok _) = Appends old new bytes
Puts old new bytes (Err _) = AppendsPrefix old new bytes
