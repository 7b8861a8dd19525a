use Rattle.std.proofs.Common.{◌≡◌, take}
use Rattle.pp_dir.proofs.definition.copy_toks.Given as goal

abbrev pub invariant-loop-tok : goal.invariant-loop-tok
invariant-loop-tok l = l.copies ≡ take l.tok-index l.toks
