use Rattle.std.proofs.Common.{List, ap, subst}
use Rattle.sb_types.specs.Records.{Entry, Table}
use Rattle.sb_table.specs.Floors.{IsKeptTable}
use Rattle.sb_table.proofs.Keeping.{kept-restored}
use Rattle.sb_table.proofs.Merging.{same_ok}
use Rattle.sb_table.proofs.table.Table.from_entries.Goals as goal

pub invariant_of-result : goal.invariant_of-result
invariant_of-result c =
    let filled = ap (λ (t : Table). t.entries) (same_ok c.in_ok-fill.ensures) in
    subst (λ (es : List Entry). IsKeptTable (record { held = c.args.upto; floor = c.args.floor; entries = es })) filled
    (kept-restored c.args.upto c.args.floor c.args.entries.items c.requires.entries c.requires.limit)

pub returns-clause-table : goal.returns-clause-table
returns-clause-table c = invariant_of-result c
