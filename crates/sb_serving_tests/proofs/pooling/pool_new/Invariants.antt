use Rattle.sb_serving_tests.proofs.pooling.pool_new.Given as goal

abbrev pub ghosts-pool_of-S-Ledger : goal.ghosts-pool_of-S-Ledger
ghosts-pool_of-S-Ledger g a = record { name = a.blank.name; parts = a.blank.parts }

-- the history that was just begun, of this node, with a seat for each worker
abbrev pub ghosts-pool_of-S-NodeTag : goal.ghosts-pool_of-S-NodeTag
ghosts-pool_of-S-NodeTag g a = record { opening = a.core.node; history = a.new_history.seen.book; seats = a.blank.parts }

abbrev pub ghosts-pool_of-S-DirectoryTag : goal.ghosts-pool_of-S-DirectoryTag
ghosts-pool_of-S-DirectoryTag g a = record { settings = a.core.settings }
