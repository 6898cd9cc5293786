use Rattle.sb_directory_tests.proofs.seats.a_purge_is_counted.Given as goal

abbrev pub ghosts-purge_and_close-S-Ledger : goal.ghosts-purge_and_close-S-Ledger
ghosts-purge_and_close-S-Ledger g a = record { name = a.blank.name; parts = 2 }

-- the history that was just begun, of this node
abbrev pub ghosts-purge_and_close-S-NodeTag : goal.ghosts-purge_and_close-S-NodeTag
ghosts-purge_and_close-S-NodeTag g a = record { opening = a.core.node; history = a.history.seen.book; seats = 2 }

abbrev pub ghosts-purge_and_close-S-DirectoryTag : goal.ghosts-purge_and_close-S-DirectoryTag
ghosts-purge_and_close-S-DirectoryTag g a = record { settings = a.core.settings }
