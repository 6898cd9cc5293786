use Rattle.sb_directory_tests.proofs.threads.a_reader_beside_a_writer.Given as goal

abbrev pub ghosts-read_beside-S-Ledger : goal.ghosts-read_beside-S-Ledger
ghosts-read_beside-S-Ledger g a = record { name = a.blank.name; parts = 2 }

-- the history that was just begun, of this node
abbrev pub ghosts-read_beside-S-NodeTag : goal.ghosts-read_beside-S-NodeTag
ghosts-read_beside-S-NodeTag g a = record { opening = a.core.node; history = a.history.seen.book; seats = 2 }

abbrev pub ghosts-read_beside-S-DirectoryTag : goal.ghosts-read_beside-S-DirectoryTag
ghosts-read_beside-S-DirectoryTag g a = record { settings = a.core.settings }
