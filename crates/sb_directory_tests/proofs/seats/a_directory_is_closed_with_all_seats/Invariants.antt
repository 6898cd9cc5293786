use Rattle.sb_directory_tests.proofs.seats.a_directory_is_closed_with_all_seats.Given as goal

abbrev pub ghosts-write_and_close-S-Ledger : goal.ghosts-write_and_close-S-Ledger
ghosts-write_and_close-S-Ledger g a = record { name = a.blank.name; parts = 2 }

-- the history that was just begun, of this node
abbrev pub ghosts-write_and_close-S-NodeTag : goal.ghosts-write_and_close-S-NodeTag
ghosts-write_and_close-S-NodeTag g a = record { opening = a.core.node; history = a.history.seen.book; seats = 2 }

abbrev pub ghosts-write_and_close-S-DirectoryTag : goal.ghosts-write_and_close-S-DirectoryTag
ghosts-write_and_close-S-DirectoryTag g a = record { settings = a.core.settings }
