use Rattle.std.proofs.Common.{map, ap, ◌∙◌}
use Rattle.qv_words.specs.Shown.{define_shown}
use Rattle.qv_words.proofs.Defining.{inserted}
use Rattle.qv_words.proofs.define.define.Goals as goal

pub returns : goal.returns
returns c = ap (map define_shown) c.in_ok-insert.ensures.entries ∙ inserted c.args.name c.args.text c.args.defs.now.entries
