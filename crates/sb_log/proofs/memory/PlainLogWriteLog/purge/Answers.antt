use Rattle.std.proofs.Common.{◌≤◌, refl, arith}
use Rattle.sb_log.proofs.Contents.{raised_content}
use Rattle.sb_log.proofs.Floors.{as_high}
use Rattle.sb_log.proofs.memory.PlainLogWriteLog.purge.Goals as goal

pub invariant_of-self : goal.invariant_of-self
invariant_of-self c =
    let t = c.self.inside.table in
    let rises : t.floor ≤ c.args.floor = omega (arith, c.floor-present.ensures.floor, c.if-floor-present.true) in
    raised_content c.args.floor t c.raise.new.self c.self.invariant rises (rw c.upto-upto.ensures.version at c.raise.ensures.raised) c.raise.ensures.table

pub returns-else-floor-present-clause-purges : goal.returns-else-floor-present-clause-purges
returns-else-floor-present-clause-purges c =
    let t = c.self.inside.table in
    let low : c.args.floor ≤ t.floor = omega (arith, c.floor-present.ensures.floor, c.if-floor-present.false) in
    rw (← c.self.view_is) (as_high _ refl t c.self.invariant (λ _. refl) c.args.floor low)
