use Rattle.pp_dir.proofs.condition.+part.Given as goal

abbrev pub decreases-part : goal.decreases-part
decreases-part l = l.depth
