use Rattle.sb_serving_tests.proofs.desk.Desk.serve_over.Given as goal

abbrev pub ghosts-serve_from : goal.ghosts-serve_from
ghosts-serve_from g a = record { name = a.blank.name; parts = a.blank.parts }
