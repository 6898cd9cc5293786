use Rattle.sb_run.proofs.pushing.push_peer.Given as goal

abbrev pub ghosts-push_stream : goal.ghosts-push_stream
ghosts-push_stream g a = record { name = a.blank.name; parts = a.blank.parts }
