-- Entries that are entered one by one.
use Rattle.std.specs.Prelude.{List, [], ◌∷◌}
use Rattle.sb_types.specs.Records.{Entry}
use Rattle.sb_types.specs.Runs.{entries_after}

-- each entry in turn replaces the entry of its key
abbrev pub entries_after_each : List Entry → List Entry → List Entry
entries_after_each entries [] = entries
entries_after_each entries (e ∷ es) = entries_after_each (entries_after entries (e ∷ [])) es
