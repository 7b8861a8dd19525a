use Rattle.std.proofs.Common.{sym, ap, subst, ◌∙◌, Some}
use Rattle.std.specs.Prelude.{Option}
use denote.Ref.{Bor}
use Rattle.pp_tok.specs.declared.token.PpTok.{PpTok}
use Rattle.pp_dir.specs.declared.worth.Worth.{Worth}
use Rattle.pp_dir.specs.declared.part.Part.TheVariants.{Operand, Whole}
use Rattle.pp_dir.specs.Reading.{part}
use Rattle.pp_dir.specs.Worth.{Takes}
use Rattle.pp_dir.proofs.Worths.{constant_reads}
use Rattle.pp_dir.proofs.condition.Reader.operand.Goals as goal

pub returns : goal.returns
returns g c =
    let taken = subst (λ (r : Option (Bor PpTok)). Takes r c.args.cursor.now c.take.new.self) c.in_ok-tok.was c.take.ensures in
    let reads = constant_reads (part c.args.self.now.depth Operand) (part c.args.self.now.depth Whole) c.args.cursor.now c.take.new.self c.in_ok-tok.tok.now c.in_ok-value_of.field-0 taken (sym c.unary_op.ensures ∙ c.in_default.is) (sym c.is_mark.ensures ∙ c.if-is_mark.false) (sym c.value_of.ensures ∙ c.in_ok-value_of.was) in
    reads ∙ ap (λ (w : Worth). Some (w, c.take.new.self)) (sym c.constant.ensures)
