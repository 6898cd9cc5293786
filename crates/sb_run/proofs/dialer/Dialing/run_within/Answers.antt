use Rattle.std.specs.Prelude.{IsErr}
use Rattle.std.proofs.Common.{rules, sym, subst, refl}
use Rattle.sb_run.proofs.Leaving.{end_fault}
use Rattle.sb_run.proofs.dialer.Dialing.run_within.Goals as goal

pub returns : goal.returns
returns g c =
    let at_control = c.answer_requests-at_control in
    record {
      thread_seats = search rules;
      news = search rules;
      http = search rules;
      fault = end_fault _ at_control.result.has_left c.receive-rounds.result c.threads_end.result at_control.ensures.exits c.receive-rounds.ensures c.threads_end.ensures.left c.threads_end.ensures.fault;
      failed = λ failed exit. subst (λ result. IsErr result) (sym (c.threads_end.ensures.left (at_control.ensures.failed failed exit))) refl;
    }
