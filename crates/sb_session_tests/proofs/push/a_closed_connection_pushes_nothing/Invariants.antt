use Rattle.sb_session_tests.proofs.push.a_closed_connection_pushes_nothing.Given as goal

abbrev pub ghosts-push_twice : goal.ghosts-push_twice
ghosts-push_twice g a = record { name = a.blank.name; parts = a.blank.parts }
