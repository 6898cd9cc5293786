use Rattle.sb_run.proofs.HttpPolls.{polled_at}
use Rattle.sb_run.proofs.threads.NodeContext.look_from_seat.Goals as goal

pub returns-in-Ok-clause-polled : goal.returns-in-Ok-clause-polled
returns-in-Ok-clause-polled g c =
    polled_at g.S.NodeTag.opening g.S.DirectoryTag.settings.budget c.args.keys c.args.seat c.in-Ok.entered c.leave.result c.args.ask.now c.look-found.result
    c.in-Ok.ensures.0 c.in-Ok.ensures.1 c.in-Ok.ensures.2 c.leave.ensures c.look-found.ensures.page c.look-found.ensures.mark
