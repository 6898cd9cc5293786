use Rattle.std.proofs.Common.{ltb, rules}
use Rattle.std.proofs.lemmas.List.Sorted.{IsPartitionPoint-from_clause, IsPartitionedBy-ltb}
use Rattle.sb_types.specs.Records.{Entry}
use Rattle.sb_table.proofs.Ascent.{versions_rise}
use Rattle.sb_table.proofs.places.first_from_version.Goals as goal

pub returns : goal.returns
returns c =
    let entries = c.args.entries.now in
    let version = c.args.version in
    let parted = IsPartitionedBy-ltb (λ (e : Entry). e.version) entries version (versions_rise 0 entries c.requires) in
    let point = IsPartitionPoint-from_clause (λ (e : Entry). ltb e.version version) _ _ c.partition_point.ensures.partitioned parted (λ a r q k. search rules) in
    record { place = c.partition_point.ensures.bound; below = point.0; from = point.1 }
