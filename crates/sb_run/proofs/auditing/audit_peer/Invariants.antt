use Rattle.sb_run.proofs.auditing.audit_peer.Given as goal

abbrev pub ghosts-audit_stream : goal.ghosts-audit_stream
ghosts-audit_stream g a = record { name = a.blank.name; parts = a.blank.parts }
