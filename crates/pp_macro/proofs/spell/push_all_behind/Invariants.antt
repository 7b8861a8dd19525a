use Rattle.std.proofs.Common.{◌≡◌, ◌++◌, take}
use Rattle.std.specs.Prelude.{flat_map}
use Rattle.pp_macro.specs.Fill.{spelled_behind}
use Rattle.pp_macro.proofs.spell.push_all_behind.Given as goal

abbrev pub invariant-loop-token : goal.invariant-loop-token
invariant-loop-token l = l.text.items ≡ l.fn.text.items ++ flat_map spelled_behind (take l.token-index l.behind)
