use Rattle.sb_directory_tests.proofs.seats.make_new.Given as goal

abbrev pub ghosts-made-S-Ledger : goal.ghosts-made-S-Ledger
ghosts-made-S-Ledger g a = record { name = a.blank.name; parts = a.seats }

-- the history that was just begun, of this node
abbrev pub ghosts-made-S-NodeTag : goal.ghosts-made-S-NodeTag
ghosts-made-S-NodeTag g a = record { opening = a.core.node; history = a.history.seen.book; seats = a.seats }

abbrev pub ghosts-made-S-DirectoryTag : goal.ghosts-made-S-DirectoryTag
ghosts-made-S-DirectoryTag g a = record { settings = a.core.settings }
