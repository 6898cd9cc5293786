use Rattle.std.proofs.Common.{arith}
use Rattle.sb_directory.proofs.Batches.{pushed-upto, pushed-beyond}
use Rattle.sb_directory.proofs.lacked.push_above.Goals as goal

pub returns-then-last-upto-clause-ok : goal.returns-then-last-upto-clause-ok
returns-then-last-upto-clause-ok c =
    pushed-upto c.args.owner.now c.args.table.now c.args.version c.args.batch.now c.push_entries.new.batch c.in_ok-last.last c.in_ok-last.ensures.ok c.in_ok-last.ensures.last
    (omega (arith, c.if-last-upto.true, c.upto.ensures.version))

pub returns-clause-ok : goal.returns-clause-ok
returns-clause-ok c =
    pushed-beyond c.args.owner.now c.args.table.now c.args.version c.args.batch.now c.push_entries.new.batch c.in_ok-last.last c.in_ok-last.ensures.ok c.in_ok-last.ensures.last
    c.push_hold.new.self c.upto-2.result c.push_hold.result (omega (arith, c.if-last-upto.false, c.upto.ensures.version, c.upto-2.ensures.version)) c.upto-2.ensures.version c.push_hold.ensures.ok
