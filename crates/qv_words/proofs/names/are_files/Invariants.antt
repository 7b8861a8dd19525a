use Rattle.std.proofs.Common.{◌≡◌, drop, map}
use Rattle.std.specs.Prelude.{string_bytes}
use Rattle.std.specs.List.{list_all}
use Rattle.qv_words.specs.Names.{is_name}
use Rattle.qv_words.proofs.names.are_files.Given as goal

abbrev pub invariant-loop-name : goal.invariant-loop-name
invariant-loop-name l = list_all is_name (map string_bytes (drop l.name-index l.names)) ≡ list_all is_name (map string_bytes l.names)
