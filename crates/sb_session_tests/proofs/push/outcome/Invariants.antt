use Rattle.sb_session_tests.proofs.push.outcome.Given as goal

abbrev pub ghosts-push_on : goal.ghosts-push_on
ghosts-push_on g a = record { name = a.blank.name; parts = a.blank.parts }
