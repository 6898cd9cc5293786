use Rattle.std.proofs.Common.{not, rules}
use Rattle.std.proofs.lemmas.List.Sorted.{IsPartitionPoint-from_clause}
use Rattle.std.specs.BTreeMap.Range.{is_from_start}
use Rattle.sb_types.specs.Records.{Entry}
use Rattle.sb_views.proofs.ByText.{by_text}
use Rattle.sb_views.proofs.LiveEntries.{parted, from_place}
use Rattle.sb_views.proofs.entries_from.count_before.Goals as goal

pub returns : goal.returns
returns c =
    let entries = c.args.entries.now in
    let start = c.args.start in
    let point = IsPartitionPoint-from_clause (λ (e : Entry). not (is_from_start by_text start e.key)) _ _ c.partition_point.ensures.partitioned (parted start entries c.requires) (λ a r q k. search rules) in
    record { count = c.partition_point.ensures.bound; others = from_place start entries c.partition_point.result point.0 point.1 }
