use Rattle.std.proofs.Common.{sym, subst, map, string_bytes}
use Rattle.pp_dir.specs.declared.passage.Passage.{Passage}
use Rattle.pp_dir.specs.Endings.{EndsWithin}
use Rattle.pp_dir.specs.Sources as at
use Rattle.pp_dir.proofs.file.Source.step.Goals as goal

pub returns-in-Section-clause-told : goal.returns-in-Section-clause-told
returns-in-Section-clause-told g c = λ m is.
    subst (λ (x : Passage). EndsWithin (at.step m (map string_bytes c.args.self.now.dirs.now) c.args.self.now.depth c.args.self.now.file.now x (c.args.groups.now, c.args.state.now)) c.section.result c.args.groups.now c.section.new.state)
    (sym c.in-Section.is) (c.section.ensures.told m)
