use Rattle.std.proofs.Common.{◌-◌}
use Rattle.pp_dir.specs.Reading.{part, operand_at, ranked}
use Rattle.pp_dir.specs.declared.part.Part.TheVariants.{Operand, Whole}
use Rattle.pp_dir.proofs.Worths.{Chained}
use Rattle.pp_dir.proofs.condition.Reader.+ranked.Given as goal

abbrev pub decreases-ranked : goal.decreases-ranked
decreases-ranked g l = l.rank

abbrev pub invariant-loop-op : goal.invariant-loop-op
invariant-loop-op g l =
    let operand = operand_at (part l.self.depth Operand) (part l.self.depth Whole) in
    Chained (ranked operand l.self.depth l.rank l.fn.cursor) (ranked operand l.self.depth (l.rank - 1)) l.rank l.turns l.left l.cursor

abbrev pub decreases-loop-op : goal.decreases-loop-op
decreases-loop-op g l = l.turns
