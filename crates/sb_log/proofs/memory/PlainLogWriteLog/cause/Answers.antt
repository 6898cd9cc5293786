use Rattle.std.proofs.Common.{true≢false}
use Rattle.sb_log.proofs.memory.PlainLogWriteLog.cause.Goals as goal

pub returns-clause-closed : goal.returns-clause-closed
returns-clause-closed c = rw (← c.self.view_is) (λ shut. absurd (true≢false shut))
