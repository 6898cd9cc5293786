use Rattle.sb_session_tests.proofs.connection.what_is_read_beyond_a_session_is_held.Given as goal

abbrev pub ghosts-serve_twice : goal.ghosts-serve_twice
ghosts-serve_twice g a = record { name = a.blank.name; parts = a.blank.parts }
