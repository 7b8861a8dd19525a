use Rattle.std.proofs.Common.{◌≡◌, drop}
use Rattle.std.specs.Prelude.{option_map, find, map}
use Rattle.std.specs.Str.{bytes_eq}
use Rattle.asm_line.specs.Words.{meaning_of}
use Rattle.asm_line.specs.Shown.{word_of}
use Rattle.asm_line.proofs.words.meaning_of.Given as goal

abbrev pub invariant-loop-name : goal.invariant-loop-name
invariant-loop-name l = option_map (λ w. w.1) (find (λ w. bytes_eq l.word w.0) (map word_of (drop l.name-index l.table))) ≡ meaning_of l.word
