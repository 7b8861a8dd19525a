use Rattle.pp_dir.proofs.file.+file_in.Given as goal

abbrev pub decreases-file_in : goal.decreases-file_in
decreases-file_in g l = l.depth
