use Rattle.sb_run_tests.proofs.watching.ages_at.Given as goal

abbrev pub ghosts-ages_over : goal.ghosts-ages_over
ghosts-ages_over g a = record { name = a.blank.name; parts = a.blank.parts }
