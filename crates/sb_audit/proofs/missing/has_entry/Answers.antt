use Rattle.std.proofs.Common.{◌≡◌, true, List, sym, subst, arith}
use Rattle.sb_types.specs.Records.{Entry}
use Rattle.sb_types.specs.Runs.{are_ascending}
use Rattle.sb_table.proofs.Order.{lower}
use Rattle.sb_holdings.proofs.Ended.{IsBlock-delta}
use Rattle.sb_audit.proofs.missing.has_entry.Goals as goal

pub entry_among-requires-clause-ascending : goal.entry_among-requires-clause-ascending
entry_among-requires-clause-ascending c =
    let b = c.args.block.now in
    subst (λ (es : List Entry). are_ascending 0 es ≡ true) (sym c.entries.ensures.entries) (lower 0 b.after b.entries (omega arith) (IsBlock-delta b c.entries.ensures.block).run.ascending)
