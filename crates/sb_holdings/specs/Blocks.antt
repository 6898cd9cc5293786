-- Parts of a block.
use Rattle.std.specs.Prelude.{ℕ, take}
use Rattle.sb_types.specs.Records.{Block}
use Rattle.sb_types.specs.Runs.{newer_entries, last_version}

-- the part above a version
abbrev pub part_above : ℕ → Block → Block
part_above version b = record { owner = b.owner; floor = b.floor; after = version; upto = b.upto; entries = newer_entries version b.entries }

-- the first entries, up to the last of them
abbrev pub leading_part : ℕ → Block → Block
leading_part count b = record { owner = b.owner; floor = b.floor; after = b.after; upto = last_version b.after (take count b.entries); entries = take count b.entries }
