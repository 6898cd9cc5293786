use Rattle.std.proofs.Common.{sym, ◌∙◌, refl}
use Rattle.sb_log.proofs.Keeping.{log_refuses, same_fault}
use Rattle.sb_log.proofs.memory.PlainLogWriteLog.put.Goals as goal

pub returns-in-Err-clause-puts : goal.returns-in-Err-clause-puts
returns-in-Err-clause-puts c =
    rw (c.in-Err.ensures.err, ← c.self.view_is) (log_refuses _ refl c.args.key.now c.args.slot.now c.in-Err.fault (λ f is. same_fault (sym c.in-Err.is ∙ c.accept.ensures.refused f is)) (λ is. c.in-Err.ensures.memory is))
