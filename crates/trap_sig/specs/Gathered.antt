-- A gathered call, and its parts, as what they stand for.
use Rattle.std.specs.Prelude.{ℕ, Result, Ok, Err}
use Rattle.qv_outside.specs.Hosts.{event_of}
use Rattle.trap_sig.specs.Gather.{Ask}
use Rattle.trap_sig.specs.declared.gather.Gathered.{Gathered}
use Rattle.trap_sig.specs.declared.gather.TrapRange.{TrapRange}

-- what a gathered call asks
abbrev pub ask_of : Gathered → Ask
ask_of g = record { event = event_of g.call; out_at = g.out_at }

-- the answer as the definition gives it
abbrev pub answer_of : Result Gathered TrapRange → Result Ask ℕ
answer_of (Ok g) = Ok (ask_of g)
answer_of (Err range) = Err range.argument
