use Rattle.sb_run.proofs.pool.Serving.serve_taken.Given as goal

abbrev pub ghosts-serve_counted : goal.ghosts-serve_counted
ghosts-serve_counted g a = record { name = a.blank.name; parts = a.blank.parts }
