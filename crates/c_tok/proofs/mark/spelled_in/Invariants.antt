use Rattle.std.proofs.Common.{◌≡◌, drop}
use Rattle.std.specs.Prelude.{map}
use Rattle.c_tok.specs.Marks.{spelled_in}
use Rattle.c_tok.specs.Shown.{row_of}
use Rattle.c_tok.proofs.mark.spelled_in.Given as goal

abbrev pub invariant-loop-text : goal.invariant-loop-text
invariant-loop-text l = spelled_in (map row_of (drop l.text-index l.rows)) l.spelling ≡ spelled_in (map row_of l.rows) l.spelling
