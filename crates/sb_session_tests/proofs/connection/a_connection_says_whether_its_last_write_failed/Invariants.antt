use Rattle.sb_session_tests.proofs.connection.a_connection_says_whether_its_last_write_failed.Given as goal

abbrev pub ghosts-send_byes : goal.ghosts-send_byes
ghosts-send_byes g a = record { name = a.blank.name; parts = a.blank.parts }
