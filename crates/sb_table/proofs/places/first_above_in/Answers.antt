use Rattle.std.proofs.Common.{leb, rules, arith, ap, ◌∙◌, ◌<◌, length, get_or}
use Rattle.std.proofs.lemmas.Bool.Decides.{nat_tests}
use Rattle.std.proofs.lemmas.List.Sorted.{IsPartitionPoint-from_clause, IsPartitionedBy-leb}
use Rattle.sb_types.specs.Records.{Entry}
use Rattle.sb_table.proofs.Ascent.{versions_rise, drop_at_place, from_above, same_entry}
use Rattle.sb_table.proofs.places.first_above_in.Goals.{then-least-entries-via-then-least-entries, then-least-entries-via-else-least-entries+then-version}
use Rattle.sb_table.proofs.places.first_above_in.Goals as goal

pub returns-then-least-entries-clause-entries : goal.returns-then-least-entries-clause-entries
returns-then-least-entries-clause-entries c =
    let entries = c.args.entries.now in
    let least = c.least_above-least.result in
    let first : (d : Entry) → least < length entries → c.args.version < (get_or entries least d).version =
    elim c.then-least-entries.branch [
      | then-least-entries-via-then-least-entries w ↦ λ d lt. grind (arith, nat_tests, w.if-least-entries)
      | then-least-entries-via-else-least-entries+then-version w ↦ λ d lt.
          omega (
            arith,
            w.if-version.true,
            w.version.ensures.version,
            ap (λ (e : Entry). e.version) (w.entry.ensures.entry ∙ w.index-entries-least.is ∙ same_entry entries least w.index-entries-least.result d lt),
          )
    ]
    in
    drop_at_place c.args.version least entries c.least_above-least.ensures.upto (from_above c.args.version least entries c.requires first)

pub returns-clause-entries : goal.returns-clause-entries
returns-clause-entries c =
    let entries = c.args.entries.now in
    let version = c.args.version in
    let parted = IsPartitionedBy-leb (λ e. e.version) entries version (versions_rise 0 entries c.requires) in
    let point = IsPartitionPoint-from_clause (λ e. leb e.version version) _ _ c.partition_point.ensures.partitioned parted (λ a r q k. search rules) in
    drop_at_place version c.partition_point.result entries point.0 point.1
