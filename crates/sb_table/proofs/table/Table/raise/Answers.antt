use Rattle.std.proofs.Common.{List, sym, subst}
use Rattle.sb_types.specs.Records.{Entry, Table}
use Rattle.sb_table.specs.Floors.{IsKeptTable}
use Rattle.sb_table.proofs.Keeping.{kept-raised}
use Rattle.sb_table.proofs.table.Table.raise.Goals as goal

pub invariant_of-self : goal.invariant_of-self
invariant_of-self c =
    let t : Table = record { held = c.self.inside.upto; floor = c.self.inside.floor; entries = c.self.inside.entries.entries } in
    let kept = kept-raised c.args.upto c.args.floor t c.self.invariant (rw (← c.self.view_is) at c.requires.held) c.requires.order in
    subst (λ (es : List Entry). IsKeptTable (record { held = c.args.upto; floor = c.args.floor; entries = es })) (sym c.drop_between.ensures.dropped) kept

pub returns-clause-table : goal.returns-clause-table
returns-clause-table c = invariant_of-self c
