-- The code's commands and options as those of the definition.
use Rattle.std.specs.Prelude.{ℕ, ◌≤◌, List, length, take, map, option_map, string_bytes, String}
use Rattle.std.specs.declared.alloc.Global.{Global}
use Rattle.qv_words.specs.Calls.{AreCalls}
use Rattle.qv_words.specs.Words.{Command, Options, Qcc, Q3asm, Qdis, Qrun, Qall}
use Rattle.qv_words.specs.declared.command.Command.{Command as ReadCommand}
use Rattle.qv_words.specs.declared.command.Command.TheVariants.{Qcc as ReadQcc, Q3asm as ReadQ3asm, Qdis as ReadQdis, Qrun as ReadQrun, Qall as ReadQall}
use Rattle.qv_words.specs.declared.options.Options.{Options as ReadOptions}

-- a macro's name and its text
abbrev pub define_shown : String Global × String Global → List ℕ × List ℕ
define_shown d = (string_bytes d.0, string_bytes d.1)

abbrev pub command_shown : ReadCommand → Command
command_shown (ReadQcc dirs defs binds folder units) =
    Qcc (record {
      dirs = map string_bytes dirs.items;
      defs = map define_shown defs.items;
      binds = option_map string_bytes binds;
      folder = string_bytes folder;
      units = map string_bytes units.items;
    })
command_shown (ReadQ3asm image files list) = Q3asm (record { image = string_bytes image; files = map string_bytes files.items; list = option_map string_bytes list })
command_shown (ReadQdis image file) = Qdis (record { image = string_bytes image; file = string_bytes file })
command_shown (ReadQrun steps calls image) = Qrun (record { steps = steps; calls = calls.items; image = string_bytes image })
command_shown (ReadQall dirs defs binds seed_size steps calls image units) =
    Qall (record {
      dirs = map string_bytes dirs.items;
      defs = map define_shown defs.items;
      binds = option_map string_bytes binds;
      seed_size = seed_size;
      steps = steps;
      calls = calls.items;
      image = string_bytes image;
      units = map string_bytes units.items;
    })

abbrev pub options_shown : ReadOptions → Options
options_shown o = record {
  dirs = map string_bytes o.dirs.items;
  defs = map define_shown o.defs.entries;
  binds = option_map string_bytes o.binds;
  folder = option_map string_bytes o.folder;
  image = option_map string_bytes o.image;
  list = option_map string_bytes o.list;
  seed_size = o.seed_size;
  steps = o.steps;
  earlier_calls = o.calls.earlier.items;
  last_call = take o.calls.count o.calls.last;
}

-- a command that links files names at most 4,096; one that calls vmMain has 1 to 4,096 calls, each of 14 words
-- below 2 ^ 32
abbrev pub IsWithinLimits : Command → Type 0
IsWithinLimits (Q3asm args) = length args.files ≤ 4096
IsWithinLimits (Qrun args) = AreCalls args.calls
IsWithinLimits (Qall args) = AreCalls args.calls
IsWithinLimits command = Unit {0}

abbrev pub KeepsLimits : ReadCommand → Type 0
KeepsLimits command = IsWithinLimits (command_shown command)
