use Rattle.sb_run_tests.proofs.peers.talk.Given as goal

abbrev pub ghosts-talk_on : goal.ghosts-talk_on
ghosts-talk_on g a = record { name = a.blank.name; parts = a.blank.parts }
