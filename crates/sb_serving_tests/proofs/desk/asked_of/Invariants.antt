use Rattle.sb_serving_tests.proofs.desk.asked_of.Given as goal

abbrev pub ghosts-read_from : goal.ghosts-read_from
ghosts-read_from g a = record { name = a.blank.name; parts = a.blank.parts }
