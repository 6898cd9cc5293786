use Rattle.sb_directory_tests.proofs.course.run_seated.Given as goal

abbrev pub ghosts-go_seated-S-Ledger : goal.ghosts-go_seated-S-Ledger
ghosts-go_seated-S-Ledger g a = record { name = a.blank.name; parts = 1 }

-- the history that was just begun, of this node
abbrev pub ghosts-go_seated-S-NodeTag : goal.ghosts-go_seated-S-NodeTag
ghosts-go_seated-S-NodeTag g a = record { opening = a.core.node; history = a.history.seen.book; seats = 1 }

abbrev pub ghosts-go_seated-S-DirectoryTag : goal.ghosts-go_seated-S-DirectoryTag
ghosts-go_seated-S-DirectoryTag g a = record { settings = a.core.settings }
