use Rattle.sb_run.proofs.node.run_opened.Given as goal

abbrev pub ghosts-run_tagged-S-Ledger : goal.ghosts-run_tagged-S-Ledger
ghosts-run_tagged-S-Ledger g a = record { name = a.start.directory.blank.name; parts = a.start.directory.blank.parts }

-- the history that was just opened, of the node of this log
abbrev pub ghosts-run_tagged-S-NodeTag : goal.ghosts-run_tagged-S-NodeTag
ghosts-run_tagged-S-NodeTag g a = record { opening = a.start.directory.core.node; history = a.start.directory.new_history.seen.book; seats = a.start.directory.blank.parts }

abbrev pub ghosts-run_tagged-S-DirectoryTag : goal.ghosts-run_tagged-S-DirectoryTag
ghosts-run_tagged-S-DirectoryTag g a = record { settings = a.start.directory.core.settings }

abbrev pub ghosts-run_tagged-S-RoundsTag : goal.ghosts-run_tagged-S-RoundsTag
ghosts-run_tagged-S-RoundsTag g a = record { rounds = a.pace.rounds }
