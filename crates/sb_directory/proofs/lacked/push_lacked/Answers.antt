use Rattle.std.proofs.Common.{arith}
use Rattle.sb_directory.proofs.Batches.{lacked-above, lacked-anew}
use Rattle.sb_directory.proofs.lacked.push_lacked.Goals as goal

pub returns-then-floor-clause-ok : goal.returns-then-floor-clause-ok
returns-then-floor-clause-ok c =
    lacked-above c.args.owner.now c.args.table.now c.args.since.0 c.args.since.1 c.args.batch.now c.push_above.new.batch c.push_above.result
    (omega (arith, c.if-floor.true, c.floor.ensures.floor)) c.push_above.ensures.ok

pub returns-clause-ok : goal.returns-clause-ok
returns-clause-ok c =
    lacked-anew c.args.owner.now c.args.table.now c.args.since.0 c.args.since.1 c.args.batch.now c.push_above-2.new.batch c.push_clear.new.self c.push_above-2.result
    (omega (arith, c.if-floor.false, c.floor.ensures.floor)) c.in_ok-push_clear.ensures.ok c.push_above-2.ensures.ok
