use Rattle.sb_run.proofs.dialing.dial_path.Given as goal

abbrev pub ghosts-dial_stream : goal.ghosts-dial_stream
ghosts-dial_stream g a = record { name = a.blank.name; parts = a.blank.parts }
