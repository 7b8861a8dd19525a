use Rattle.std.proofs.Common.{◌≡◌, drop}
use Rattle.asm_line.specs.Text.{words_of}
use Rattle.asm_line.proofs.scan.blank_len.Given as goal

abbrev pub invariant-loop-i : goal.invariant-loop-i
invariant-loop-i l = words_of (drop l.i l.line) ≡ words_of l.line
