use Rattle.std.proofs.Common.{◌≡◌, take}
use Rattle.pp_macro.specs.Tokens.{common}
use Rattle.pp_macro.proofs.tokens.common.Given as goal

abbrev pub invariant-loop-name : goal.invariant-loop-name
invariant-loop-name l = l.names ≡ common (take l.name-index l.hidden) l.others
