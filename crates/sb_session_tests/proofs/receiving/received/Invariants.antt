use Rattle.sb_session_tests.proofs.receiving.received.Given as goal

abbrev pub ghosts-receive_on : goal.ghosts-receive_on
ghosts-receive_on g a = record { name = a.blank.name; parts = a.blank.parts }
