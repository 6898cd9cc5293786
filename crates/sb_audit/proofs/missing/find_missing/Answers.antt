use Rattle.std.proofs.Common.{Bor}
use Rattle.sb_types.specs.Records.{Entry}
use Rattle.sb_holdings.proofs.Ended.{IsBlock-delta}
use Rattle.sb_audit.proofs.Firsts.{lacked_first, lacked_none}
use Rattle.sb_audit.proofs.missing.find_missing.Goals as goal

pub returns-clause-missing : goal.returns-clause-missing
returns-clause-missing c =
    let b = c.args.block.now in
    let e = c.first_lacking.ensures in
    lacked_first b (IsBlock-delta b e.block).run (λ (it : Bor Entry). it.now) c.args.table.now e.table.is.run c.first_lacking.result e.first

pub returns-clause-none : goal.returns-clause-none
returns-clause-none c =
    let b = c.args.block.now in
    let e = c.first_lacking.ensures in
    lacked_none b (IsBlock-delta b e.block).run (λ (it : Bor Entry). it.now) c.args.table.now e.table.is.run c.first_lacking.result e.first
