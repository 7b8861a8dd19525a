-- One layer of the reader of statements.
use Rattle.std.proofs.Common.{◌≡◌, ◌<◌, Err}
use Rattle.c_tree.specs.declared.height.Heights.{Heights}
use Rattle.c_tree.specs.Heights as class
use Rattle.c_tree.specs.Heights.{lower, count}
use Rattle.c_decl.specs.declared.kind.Mode.TheVariants.{Whole}
use Rattle.c_decl.specs.Entries as e
use Rattle.c_decl.specs.Input.{Input, refusal}
use Rattle.c_decl.proofs.Deeper.{reader_is, reader_none}
use Rattle.c_unit.specs.declared.part.StmtPart.{StmtPart}
use Rattle.c_unit.specs.declared.part.StmtPart.TheVariants as part
use Rattle.c_unit.specs.Stated.{stmt_of, layer_of}

pub stmt_is : (room : Heights) (p : StmtPart) (i : Input) → 0 < room.statement → stmt_of room p i ≡ layer_of (lower class.statement room) p i
unfolding count
stmt_is room part.Statement i some = reader_is Whole room e.statement i some
stmt_is room (part.BehindLabel a n) i some = reader_is Whole room (e.behind_label a n) i some

pub stmt_none : (room : Heights) (p : StmtPart) (i : Input) → room.statement ≡ 0 → stmt_of room p i ≡ Err (refusal i)
unfolding count
stmt_none room part.Statement i none = reader_none Whole room e.statement i none
stmt_none room (part.BehindLabel a n) i none = reader_none Whole room (e.behind_label a n) i none
