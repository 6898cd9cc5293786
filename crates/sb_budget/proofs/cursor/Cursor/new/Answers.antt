use Rattle.std.proofs.Common.{sym, arith}
use Rattle.sb_budget.proofs.CursorLemmas.{above_shorter, ranked_some, ranked_none}
use Rattle.sb_budget.proofs.cursor.Cursor.new.Goals as goal

pub returns-then-upto-after : goal.returns-then-upto-after
returns-then-upto-after c =
    let table = c.upto.ensures.table in
    record { part = sym (ranked_none c.args.owner.now c.args.table c.args.after table.is.run (omega arith)) }

pub invariant_of-result : goal.invariant_of-result
invariant_of-result c =
    let table = c.upto.ensures.table in (
      omega arith,
      omega (arith, above_shorter c.args.after c.args.table.entries, table.limit),
    )

pub returns : goal.returns
returns c = record { part = sym (ranked_some c.args.owner.now c.args.table c.args.after (omega arith)) }
