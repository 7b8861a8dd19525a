use Rattle.std.proofs.Common.{◌≡◌, [], length, map, string_bytes}
use Rattle.asm_line.specs.Text.{lines_of}
use Rattle.qv_tool.specs.Names.{names_on, trimmed}
use Rattle.qv_tool.proofs.list.names_in.Given as goal

abbrev pub invariant-loop-behind : goal.invariant-loop-behind
invariant-loop-behind l = names_on l.number (map string_bytes l.names.items) (trimmed (lines_of l.rest)) ≡ names_on 1 [] (trimmed (lines_of l.list))

abbrev pub decreases-loop-behind : goal.decreases-loop-behind
decreases-loop-behind l = length l.rest
