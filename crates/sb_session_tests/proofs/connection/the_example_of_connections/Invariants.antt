use Rattle.sb_session_tests.proofs.connection.the_example_of_connections.Given as goal

abbrev pub ghosts-is_over : goal.ghosts-is_over
ghosts-is_over g a = record { name = a.blank.name; parts = a.blank.parts }
