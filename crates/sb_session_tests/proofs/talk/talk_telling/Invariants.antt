use Rattle.sb_session_tests.proofs.talk.talk_telling.Given as goal

abbrev pub ghosts-talk_on : goal.ghosts-talk_on
ghosts-talk_on g a = record { name = a.blank.name; parts = a.blank.parts }
