use Rattle.std.proofs.Common.{rules, nat_eq}
use Rattle.std.proofs.lemmas.List.Sorted.{IsPartitionPoint-from_clause}
use Rattle.std.specs.List.{starts_with}
use Rattle.sb_types.specs.Records.{Entry}
use Rattle.sb_table.proofs.Keys.{parted-under, filter-front}
use Rattle.sb_table.proofs.places.count_under.Goals as goal

pub returns : goal.returns
returns c =
    let keys = c.args.keys.now in
    let prefix = c.args.prefix.now in
    let point = IsPartitionPoint-from_clause (λ (e : Entry). starts_with nat_eq e.key prefix) _ _ c.partition_point.ensures.partitioned
    (parted-under prefix keys c.requires.rising c.requires.from) (λ a r q k. search rules) in
    record { place = c.partition_point.ensures.bound; under = filter-front (λ (e : Entry). starts_with nat_eq e.key prefix) keys c.partition_point.result point.0 point.1 }
