use Rattle.std.proofs.Common.{◌≡◌, drop, map}
use Rattle.pp_macro.specs.Tokens.{is_among}
use Rattle.pp_dir.specs.Shown.{name_of}
use Rattle.pp_dir.proofs.words.is_among.Given as goal

abbrev pub invariant-loop-word : goal.invariant-loop-word
invariant-loop-word l = is_among l.name (map name_of (drop l.word-index l.words)) ≡ is_among l.name (map name_of l.words)
