use Rattle.pp_macro.proofs.expander.+expand_argument.Given as goal

abbrev pub decreases-expand_argument : goal.decreases-expand_argument
decreases-expand_argument l = l.depth
