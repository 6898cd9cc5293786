use Rattle.std.proofs.Common.{sym, ap, subst, ◌∙◌}
use Rattle.sb_views.specs.NodeViews.{upto_of}
use Rattle.sb_directory.specs.Seats.{Seat}
use Rattle.sb_run.specs.StatusReplies.{IsShownUpTo}
use Rattle.sb_run.proofs.threads.NodeContext.count_held.Goals as goal

pub returns-in-Ok-enter-clause-version : goal.returns-in-Ok-enter-clause-version
returns-in-Ok-enter-clause-version g c =
    subst (λ (seat : Seat). IsShownUpTo g.S.NodeTag.opening seat.seen c.held_counts-held.result.version) (sym c.leave.ensures)
    (c.snapshot.result, c.snapshot.ensures, c.held_counts-held.ensures.version ∙ ap (upto_of c.snapshot.result) c.name.ensures)
