use Rattle.std.proofs.Common.{ap, ◌∙◌}
use Rattle.std.specs.Option.{option_or}
use Rattle.asm_link.proofs.Gathering.{on_ok}
use Rattle.asm_link.specs.Definitions.{defined_by, known_by}
use Rattle.asm_link.specs.Shown.{before_of, entry_of}
use Rattle.asm_link.proofs.naming.note.Goals as goal

pub returns : goal.returns
returns c = on_ok c.define_name.result (λ h behind file name. h behind file name ∙ ap (λ o. option_or o (known_by (defined_by c.args.at (before_of c.args.s.now) c.args.line.now.file (entry_of c.args.line.now.entry) behind) file name)) (c.settle_before.ensures behind file name)) c.define_name.ensures
