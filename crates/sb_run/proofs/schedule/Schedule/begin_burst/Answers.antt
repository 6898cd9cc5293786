use Rattle.std.proofs.Common.{◌≤◌, [], length, refl, arith}
use Rattle.sb_run.proofs.Bursts.{expects_on}
use Rattle.sb_run.proofs.schedule.Schedule.begin_burst.Goals as goal

pub loop-init : goal.loop-init
loop-init c = ([], omega arith, refl)

pub loop-preserved : goal.loop-preserved
loop-preserved c =
    expects_on c.args.self.now.deliveries.all.items c.loop.self.deliveries.all.items c.expect_next.new.self.deliveries.all.items c.loop.counter c.expect_next.result
    c.loop.invariant c.expect_next.ensures.none c.expect_next.ensures.some

pub returns : goal.returns
returns c =
    let made = c.loop.invariant in
    let few : length made.0 ≤ c.loop.counter = made.1 in
    (made.0, omega arith, made.2)
