use Rattle.std.proofs.Common.{ℕ, ap, ◌∙◌, arith}
use Rattle.sb_table.specs.Floors.{table_at_floor}
use Rattle.sb_budget.proofs.OfferedLemmas.{under-own}
use Rattle.sb_budget.proofs.offered_table.OfferedTable.whole.Goals as goal

pub new-requires-clause-most : goal.new-requires-clause-most
new-requires-clause-most c = omega (arith, c.floor.ensures.floor, c.floor.ensures.table.is.floor)

pub returns : goal.returns
returns c =
    let t = c.args.table.now in
    c.new.ensures ∙ ap (λ (n : ℕ). table_at_floor t.held n t) c.floor.ensures.floor ∙ under-own t c.floor.ensures.table.is
