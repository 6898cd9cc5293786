use Rattle.sb_directory_tests.proofs.examples.example_of_sb_directory.Given as goal

abbrev pub ghosts-look_and_close-S-Ledger : goal.ghosts-look_and_close-S-Ledger
ghosts-look_and_close-S-Ledger g a = record { name = a.blank.name; parts = 1 }

-- the history that was just begun, of this node
abbrev pub ghosts-look_and_close-S-NodeTag : goal.ghosts-look_and_close-S-NodeTag
ghosts-look_and_close-S-NodeTag g a = record { opening = a.core.node; history = a.history.seen.book; seats = 1 }

abbrev pub ghosts-look_and_close-S-DirectoryTag : goal.ghosts-look_and_close-S-DirectoryTag
ghosts-look_and_close-S-DirectoryTag g a = record { settings = a.core.settings }
