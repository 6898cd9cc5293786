use Rattle.sb_session_tests.proofs.talk.unread.Given as goal

abbrev pub ghosts-talk_on : goal.ghosts-talk_on
ghosts-talk_on g a = record { name = a.blank.name; parts = a.blank.parts }
