-- The world that a command may change: the files, what is printed, and what the host is asked.
use Rattle.std.specs.Prelude.{ℕ}
use Rattle.qv_outside.specs.Hosts.{Table}
use Rattle.qv_outside.specs.declared.files.Files as keeping
use Rattle.qv_outside.specs.declared.sink.Sink as printing
use Rattle.qv_outside.specs.declared.host.Host as hosting
use Rattle.vm_core.specs.Ran.{Outside, outside}
use Rattle.pp_dir.specs.Endings.{Keeper, keeper_of}

-- what the output and the host tell: what was printed, asked and replied, how many puts and calls failed, and the
-- host's traps
pub record Surroundings : Type 0 where
  pub seen : Outside
  pub out_faults : ℕ
  pub host_faults : ℕ
  pub table : Table

pub record World : Type 0 where
  pub files : Keeper
  pub around : Surroundings

abbrev pub world : Keeper → Surroundings → World
world files around = record { files = files; around = around }

-- what this output and this host tell
abbrev pub around_of : {O H : Type 0} → printing.Ghosts O → hosting.Ghosts H → O → H → Surroundings
around_of p g out host = record { seen = outside (g.asked host) (g.replied host) (p.written out); out_faults = p.faults out; host_faults = g.faults host; table = g.table host }

abbrev pub world_of : {F O H : Type 0} → keeping.Ghosts F → printing.Ghosts O → hosting.Ghosts H → F → O → H → World
world_of k p g files out host = world (keeper_of k files) (around_of p g out host)
