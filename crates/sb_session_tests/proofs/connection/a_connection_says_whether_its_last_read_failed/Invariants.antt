use Rattle.sb_session_tests.proofs.connection.a_connection_says_whether_its_last_read_failed.Given as goal

abbrev pub ghosts-receive_three : goal.ghosts-receive_three
ghosts-receive_three g a = record { name = a.blank.name; parts = a.blank.parts }
