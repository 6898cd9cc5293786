use Rattle.sb_run.proofs.accepting.Backlog.take_up.Given as goal

abbrev pub ghosts-take_request : goal.ghosts-take_request
ghosts-take_request g a = record { name = a.blank.name; parts = a.blank.parts }
