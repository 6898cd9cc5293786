use Rattle.attrdir_bench.proofs.readers.measure.Given as goal

abbrev pub ghosts-measure_node-S-Ledger : goal.ghosts-measure_node-S-Ledger
ghosts-measure_node-S-Ledger g a = record { name = a.blank.name; parts = a.blank.parts }

-- the history that was just begun, of this node
abbrev pub ghosts-measure_node-S-NodeTag : goal.ghosts-measure_node-S-NodeTag
ghosts-measure_node-S-NodeTag g a = record { opening = a.node.node; history = a.new_history.seen.book; seats = a.blank.parts }

abbrev pub ghosts-measure_node-S-DirectoryTag : goal.ghosts-measure_node-S-DirectoryTag
ghosts-measure_node-S-DirectoryTag g a = record { settings = a.node.settings }
