use Rattle.std.proofs.Common.{◌≡◌, ◌++◌, take}
use Rattle.pp_macro.specs.Tokens.{escaped}
use Rattle.pp_macro.proofs.spell.push_escaped.Given as goal

abbrev pub invariant-loop-byte : goal.invariant-loop-byte
invariant-loop-byte l = l.text.items ≡ l.fn.text.items ++ escaped (take l.byte-index l.bytes)
