use Rattle.std.specs.Prelude.{IfOk}
use Rattle.std.proofs.Common.{sym, subst}
use Rattle.std.proofs.lemmas.Result.{IfOk-weaker}
use Rattle.sb_directory.specs.Seats.{Seat}
use Rattle.sb_run.specs.HttpReads.{AreOwnersSeen}
use Rattle.sb_run.proofs.threads.NodeContext.owners_seen.Goals as goal

pub returns-in-Ok-enter-clause-owners : goal.returns-in-Ok-enter-clause-owners
returns-in-Ok-enter-clause-owners g c =
    let seen = IfOk-weaker c.owners_of-owners.result _ _ (λ owners listed. (_, listed)) c.owners_of-owners.ensures.owners in
    subst (λ (seat : Seat). IfOk c.owners_of-owners.result (λ owners. AreOwnersSeen g.S.NodeTag.opening seat.seen owners.items)) (sym c.leave.ensures) seen
