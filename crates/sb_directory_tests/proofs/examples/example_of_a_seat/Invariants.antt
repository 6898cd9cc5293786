use Rattle.sb_directory_tests.proofs.examples.example_of_a_seat.Given as goal

abbrev pub ghosts-write_and_read-S-Ledger : goal.ghosts-write_and_read-S-Ledger
ghosts-write_and_read-S-Ledger g a = record { name = a.blank.name; parts = 1 }

-- the history that was just begun, of this node
abbrev pub ghosts-write_and_read-S-NodeTag : goal.ghosts-write_and_read-S-NodeTag
ghosts-write_and_read-S-NodeTag g a = record { opening = a.core.node; history = a.history.seen.book; seats = 1 }

abbrev pub ghosts-write_and_read-S-DirectoryTag : goal.ghosts-write_and_read-S-DirectoryTag
ghosts-write_and_read-S-DirectoryTag g a = record { settings = a.core.settings }
