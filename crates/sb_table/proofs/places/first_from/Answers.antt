use Rattle.std.proofs.Common.{rules}
use Rattle.std.proofs.lemmas.List.Sorted.{IsPartitionPoint-from_clause}
use Rattle.sb_types.specs.Limits.{text_lt}
use Rattle.sb_types.specs.Records.{Entry}
use Rattle.sb_table.proofs.Keys.{parted-start}
use Rattle.sb_table.proofs.places.first_from.Goals as goal

pub returns : goal.returns
returns c =
    let keys = c.args.keys.now in
    let prefix = c.args.prefix.now in
    let point = IsPartitionPoint-from_clause (λ (e : Entry). text_lt e.key prefix) _ _ c.partition_point.ensures.partitioned (parted-start prefix keys c.requires) (λ a r q k. search rules) in
    record { place = c.partition_point.ensures.bound; before = point.0; from = point.1 }
