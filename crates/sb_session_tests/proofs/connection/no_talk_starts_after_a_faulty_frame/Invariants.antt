use Rattle.sb_session_tests.proofs.connection.no_talk_starts_after_a_faulty_frame.Given as goal

abbrev pub ghosts-starts_when_closed : goal.ghosts-starts_when_closed
ghosts-starts_when_closed g a = record { name = a.blank.name; parts = a.blank.parts }
