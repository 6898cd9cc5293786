use Rattle.std.proofs.Common.{inl, sym, subst}
use Rattle.sb_directory.specs.Seats.{Seat}
use Rattle.sb_run.specs.Control.{IsPageReply}
use Rattle.sb_run.proofs.control.reply_to_ask.Goals as goal

pub returns-in-Ok : goal.returns-in-Ok
returns-in-Ok g c =
    subst (λ (seat : Seat). IsPageReply g.S.NodeTag.opening c.args.settings.now.budget c.args.seat c.args.ask.now seat c.look_up-reply.result) (sym c.leave.ensures) (inl (c.in-Ok.ensures.0, c.in-Ok.ensures.1, c.in-Ok.ensures.2, c.look_up-reply.ensures))
