use Rattle.std.proofs.Common.{subst, sym}
use Rattle.c_decl.specs.Cursor.{started}
use Rattle.c_decl.specs.Reading.{read}
use Rattle.c_decl.proofs.PartsExpressions.{comma_read, assignment_read, conditional_read, init_read}
use Rattle.c_expr.specs.declared.read.ExprClass.{ExprClass}
use Rattle.c_expr.specs.Read as spec
use Rattle.c_expr.proofs.read.read_expr.Goals as goal

pub returns-in-Expr : goal.returns-in-Expr
unfolding read started
returns-in-Expr c = record {
  part = subst (λ (z : ExprClass). spec.ReadsExpr z c.args.toks.now c.args.at c.args.names.now c.read_part.new.names c.expr_tree.result)
      (sym c.in-Expr.is) (record {
        part = c.read_part.result;
        reads = comma_read c.args.toks.now c.args.at c.requires c.args.names.now c.read_part.new.names c.read_part.result c.read_part.ensures;
        is = c.expr_tree.ensures;
      });
}

pub returns-in-Assignment : goal.returns-in-Assignment
unfolding read started
returns-in-Assignment c = record {
  part = subst (λ (z : ExprClass). spec.ReadsExpr z c.args.toks.now c.args.at c.args.names.now c.read_part-in-Assignment.new.names c.expr_tree-in-Assignment.result)
      (sym c.in-Assignment.is) (record {
        part = c.read_part-in-Assignment.result;
        reads = assignment_read c.args.toks.now c.args.at c.requires c.args.names.now c.read_part-in-Assignment.new.names c.read_part-in-Assignment.result c.read_part-in-Assignment.ensures;
        is = c.expr_tree-in-Assignment.ensures;
      });
}

pub returns-in-Conditional : goal.returns-in-Conditional
unfolding read started
returns-in-Conditional c = record {
  part = subst (λ (z : ExprClass). spec.ReadsExpr z c.args.toks.now c.args.at c.args.names.now c.read_part-in-Conditional.new.names c.expr_tree-in-Conditional.result)
      (sym c.in-Conditional.is) (record {
        part = c.read_part-in-Conditional.result;
        reads = conditional_read c.args.toks.now c.args.at c.requires c.args.names.now c.read_part-in-Conditional.new.names c.read_part-in-Conditional.result c.read_part-in-Conditional.ensures;
        is = c.expr_tree-in-Conditional.ensures;
      });
}

pub returns-in-Init : goal.returns-in-Init
unfolding read started
returns-in-Init c = record {
  part = subst (λ (z : ExprClass). spec.ReadsExpr z c.args.toks.now c.args.at c.args.names.now c.read_init.new.names c.init_tree.result)
      (sym c.in-Init.is) (record {
        part = c.read_init.result;
        reads = init_read c.args.toks.now c.args.at c.requires c.args.names.now c.read_init.new.names c.read_init.result c.read_init.ensures;
        is = c.init_tree.ensures;
      });
}
