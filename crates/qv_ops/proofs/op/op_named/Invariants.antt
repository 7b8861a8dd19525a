use Rattle.std.proofs.Common.{◌≡◌, drop}
use Rattle.std.specs.Prelude.{find}
use Rattle.std.specs.Str.{bytes_eq}
use Rattle.qv_ops.specs.Table.{name_of_op, op_with_name}
use Rattle.qv_ops.proofs.op.op_named.Given as goal

abbrev pub invariant-loop-op : goal.invariant-loop-op
invariant-loop-op l = find (λ op. bytes_eq l.name (name_of_op op)) (drop l.op-index l.table) ≡ op_with_name l.name
